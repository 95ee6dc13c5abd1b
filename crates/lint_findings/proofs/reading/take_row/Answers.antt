use Rattle.std.proofs.Common.{[], ◌∷◌, ◌++◌, ap, sym, ◌∙◌}
use Rattle.lint_findings.proofs.Fronts.{no_end, no_row, no_place, row_taken, ascends}
use Rattle.lint_findings.proofs.reading.take_row.Goals as goal

pub returns-in_default : goal.returns-in_default
returns-in_default c = no_end c.args.rows.now c.args.bytes.now c.in_default.ensures

pub returns-then-not-branch : goal.returns-then-not-branch
returns-then-not-branch c =
    no_row c.args.rows.now c.args.bytes.now c.in-Some.line.now c.in-Some.behind.now c.in-Some.ensures.0 c.in-Some.ensures.1
    (sym c.in_ok-is_row.ensures ∙ c.if-not-branch.true)

pub returns-then-not-may_follow : goal.returns-then-not-may_follow
returns-then-not-may_follow c =
    no_place c.args.rows.now c.args.bytes.now c.in-Some.line.now c.in-Some.behind.now c.in-Some.ensures.0 c.in-Some.ensures.1
    (sym (c.may_follow.ensures (ascends c.args.rows.now c.requires)) ∙ c.if-not-may_follow.true)

pub returns : goal.returns
returns c =
    row_taken c.args.rows.now c.push.new.self c.in-Some.line.now c.args.bytes.now c.in-Some.behind.now c.requires
    (c.in_ok-push.ensures.ok ∙ ap (λ row. c.args.rows.now ++ row ∷ []) c.in_ok-of.ensures) c.in-Some.ensures.0
    (sym c.in_ok-is_row.ensures ∙ c.if-not-branch.false) (sym (c.may_follow.ensures (ascends c.args.rows.now c.requires)) ∙ c.if-not-may_follow.false)
