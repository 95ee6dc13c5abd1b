use Rattle.init_core.specs.Core.{opening_of}
use Rattle.init_race.proofs.Kept.{kept_so}
use Rattle.init_dispatch.proofs.Ended.{left_dispatched, raced_too, reported}
use Rattle.init_dispatch.proofs.running.run_dispatch.Goals as goal

pub leave-requires : goal.leave-requires
leave-requires g c =
    let o = opening_of c.args.setup.config c.args.setup.policy c.args.script.now.words in
    (o, c.args.script.now, c.requires.config, raced_too o c.args.script.now _ c.run_in_area-ended.ensures)

pub returns-clause-dispatched : goal.returns-clause-dispatched
returns-clause-dispatched g c =
    reported (opening_of c.args.setup.config c.args.setup.policy c.args.script.now.words) c.args.setup.diagnostics c.args.script.now _ c.leave.result
    c.run_in_area-ended.ensures c.leave.ensures.report

pub returns-clause-seat : goal.returns-clause-seat
returns-clause-seat g c =
    let o = opening_of c.args.setup.config c.args.setup.policy c.args.script.now.words in
    c.leave.ensures.seat o c.args.script.now (raced_too o c.args.script.now _ c.run_in_area-ended.ensures)

pub returns-clause-kept : goal.returns-clause-kept
returns-clause-kept g c =
    let o = opening_of c.args.setup.config c.args.setup.policy c.args.script.now.words in
    kept_so o _ _ c.leave.result _ _ (left_dispatched o c.args.setup.diagnostics c.args.script.now _ c.run_in_area-ended.ensures)
    (c.leave.ensures.kept o c.args.script.now (raced_too o c.args.script.now _ c.run_in_area-ended.ensures))
