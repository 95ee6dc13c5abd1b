use Rattle.std.proofs.Common.{subst, not, nat_eq, ap}
use Rattle.prop_contexts.specs.Grammar.{IsRefused}
use Rattle.prop_contexts.specs.declared.refusal.PolicyRefusal.TheVariants as refusal
use Rattle.refusal_causes.proofs.Refusals.{contexts_line, contexts_line_of, first, second}
use Rattle.refusal_causes.proofs.policy.is_at.Goals as goal

pub returns-then-not-allow : goal.returns-then-not-allow
returns-then-not-allow c contexts allow refused =
    contexts_line_of contexts allow c.args.refusal c.args.number c.in-BadLine.allow c.in-BadLine.line _ (second (not c.in-BadLine.allow) (nat_eq c.in-BadLine.line c.args.number) (ap not c.if-not-allow.true)) c.in-BadLine.is refused

pub returns-else-not-allow : goal.returns-else-not-allow
returns-else-not-allow c contexts allow refused =
    contexts_line_of contexts allow c.args.refusal c.args.number c.in-BadLine.allow c.in-BadLine.line _ (first (not c.in-BadLine.allow) (nat_eq c.in-BadLine.line c.args.number) (ap not c.if-not-allow.false)) c.in-BadLine.is refused

pub returns-in-Twice : goal.returns-in-Twice
returns-in-Twice c contexts allow refused =
    contexts_line contexts allow (refusal.Twice c.in-Twice.line) c.args.number (λ e. cc) (subst (IsRefused contexts allow) c.in-Twice.is refused)

pub returns-in-NoDefault : goal.returns-in-NoDefault
returns-in-NoDefault c contexts allow refused =
    contexts_line contexts allow (refusal.NoDefault c.in-NoDefault.line) c.args.number (λ e. cc) (subst (IsRefused contexts allow) c.in-NoDefault.is refused)
