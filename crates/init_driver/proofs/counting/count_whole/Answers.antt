use Rattle.init_driver.proofs.Done.{recorded_from}
use Rattle.init_driver.proofs.counting.count_whole.Goals as goal

pub returns-in_ok-finish-in-Ok-clause-seat : goal.returns-in_ok-finish-in-Ok-clause-seat
returns-in_ok-finish-in-Ok-clause-seat g c =
    let ok = c.in_ok-finish-in-Ok.ensures in
    λ found. recorded_from c.args.core c.count_script.new.core found c.args.script.now c.in_ok-finish-in-Ok.field-0.view c.requires.domains c.requires.begun (c.in-Ok.ensures.done found)
    ok.opening ok.log ok.told
