use Rattle.std.proofs.Common.{rules, ◌≡◌, ◌==◌, false, length, sym, ◌∙◌}
use Rattle.std.proofs.lemmas.Result.{err_from_is_err_and}
use Rattle.rc_parse.proofs.Tested.{not_joined, once, twice}
use Rattle.rc_parse.proofs.trigger.read_triggers.Goals as goal

pub returns-in_err-triggers : goal.returns-in_err-triggers
returns-in_err-triggers c =
    let p = err_from_is_err_and c.from_residual.result c.from_residual.ensures.1 in
    let some : (length c.args.words.now == 0) ≡ false = search rules in
    rw (p.1, p.2) (not_joined _ _ some c.in_err-triggers.ensures)

pub returns-then-branch : goal.returns-then-branch
returns-then-branch c =
    let some : (length c.args.words.now == 0) ≡ false = search rules in
    twice _ _ some c.in_ok-triggers.ensures (sym c.in_ok-has_twice.ensures ∙ c.if-branch.true)

pub returns : goal.returns
returns c =
    let some : (length c.args.words.now == 0) ≡ false = search rules in
    once _ _ some c.in_ok-triggers.ensures (sym c.in_ok-has_twice.ensures ∙ c.if-branch.false)
