use Rattle.init_core.specs.Core.{opening_of}
use Rattle.init_race.proofs.Kept.{kept_so, left_audited}
use Rattle.init_race.proofs.racing.race.Goals as goal

pub leave-requires : goal.leave-requires
leave-requires g c = (opening_of c.args.setup.config c.args.setup.policy c.args.script.now.words, c.args.script.now, c.requires.config, c.run_in_area-ended.ensures)

pub returns-clause-raced : goal.returns-clause-raced
returns-clause-raced g c =
    c.leave.ensures.raced (opening_of c.args.setup.config c.args.setup.policy c.args.script.now.words) c.args.script.now c.run_in_area-ended.ensures

pub returns-clause-seat : goal.returns-clause-seat
returns-clause-seat g c =
    c.leave.ensures.seat (opening_of c.args.setup.config c.args.setup.policy c.args.script.now.words) c.args.script.now c.run_in_area-ended.ensures

pub returns-clause-kept : goal.returns-clause-kept
returns-clause-kept g c =
    let o = opening_of c.args.setup.config c.args.setup.policy c.args.script.now.words in
    kept_so o _ _ c.leave.result _ _ (left_audited o c.args.setup.diagnostics c.args.script.now _ c.run_in_area-ended.ensures)
    (c.leave.ensures.kept o c.args.script.now c.run_in_area-ended.ensures)
