use Rattle.std.proofs.Common.{subst, nat_eq}
use Rattle.prop_contexts.specs.Grammar.{IsRefused}
use Rattle.prop_contexts.specs.declared.refusal.PolicyRefusal.TheVariants as refusal
use Rattle.refusal_causes.proofs.Refusals.{allow_line, allow_line_of, first, second}
use Rattle.refusal_causes.proofs.policy.is_at_allow.Goals as goal

pub returns-then-allow : goal.returns-then-allow
returns-then-allow c contexts allow refused =
    allow_line_of contexts allow c.args.refusal c.args.number c.in-BadLine.allow c.in-BadLine.line _ (second c.in-BadLine.allow (nat_eq c.in-BadLine.line c.args.number) c.if-allow.true) c.in-BadLine.is refused

pub returns-else-allow : goal.returns-else-allow
returns-else-allow c contexts allow refused =
    allow_line_of contexts allow c.args.refusal c.args.number c.in-BadLine.allow c.in-BadLine.line _ (first c.in-BadLine.allow (nat_eq c.in-BadLine.line c.args.number) c.if-allow.false) c.in-BadLine.is refused

pub returns-in-Twice : goal.returns-in-Twice
returns-in-Twice c contexts allow refused =
    allow_line contexts allow (refusal.Twice c.in-Twice.line) c.args.number (λ e. cc) (subst (IsRefused contexts allow) c.in-Twice.is refused)

pub returns-in-NoDefault : goal.returns-in-NoDefault
returns-in-NoDefault c contexts allow refused =
    allow_line contexts allow (refusal.NoDefault c.in-NoDefault.line) c.args.number (λ e. cc) (subst (IsRefused contexts allow) c.in-NoDefault.is refused)
