use Rattle.std.proofs.Common.{refl, sym}
use Rattle.std.proofs.lemmas.Result.{err_from_is_err_and}
use Rattle.rc_parse.proofs.Fronts.{front_as}
use Rattle.rc_parse.proofs.Joins.{bad_reading, bad_joining, after_joining, none_left, smaller}
use Rattle.rc_parse.proofs.trigger.joined.Goals as goal

pub returns-in_err-read_trigger : goal.returns-in_err-read_trigger
returns-in_err-read_trigger c =
    let p = err_from_is_err_and c.from_residual.result c.from_residual.ensures.1 in
    let front = front_as c.loop-left.left.now c.word-item.result c.word-item.result refl c.in-len1-up.len_at_least c.word-item.is in
    rw (p.1, p.2) (bad_reading _ _ _ _ _ _ front c.loop-left.invariant c.in_err-read_trigger.ensures)

pub returns-in_err-triggers : goal.returns-in_err-triggers
returns-in_err-triggers c =
    let p = err_from_is_err_and c.from_residual-in_err-triggers.result c.from_residual-in_err-triggers.ensures.1 in
    let front = front_as c.loop-left.left.now c.word-item.result c.word-item.result refl c.in-len1-up.len_at_least c.word-item.is in
    rw (p.1, p.2) (bad_joining _ _ _ _ _ _ _ front c.loop-left.invariant c.in_ok-read_trigger.ensures c.in_err-triggers.ensures)

pub returns-in-None : goal.returns-in-None
returns-in-None c =
    let front = front_as c.loop-left.left.now c.word-item.result c.word-item.result refl c.in-len1-up.len_at_least c.word-item.is in
    sym (after_joining _ _ _ _ _ _ _ _ front c.loop-left.invariant c.in_ok-read_trigger.ensures c.in_ok-triggers.ensures c.in-None.ensures)

pub loop-left-smaller : goal.loop-left-smaller
loop-left-smaller c =
    let front = front_as c.loop-left.left.now c.word-item.result c.word-item.result refl c.in-len1-up.len_at_least c.word-item.is in
    smaller _ _ _ _ front c.in-Some.ensures

pub loop-left-preserved : goal.loop-left-preserved
loop-left-preserved c =
    let front = front_as c.loop-left.left.now c.word-item.result c.word-item.result refl c.in-len1-up.len_at_least c.word-item.is in
    after_joining _ _ _ _ _ _ _ _ front c.loop-left.invariant c.in_ok-read_trigger.ensures c.in_ok-triggers.ensures c.in-Some.ensures

pub returns : goal.returns
returns c = none_left _ _ _ c.in_default.len_below c.loop-left.invariant
