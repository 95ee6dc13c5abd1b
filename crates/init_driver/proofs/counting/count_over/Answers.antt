use Rattle.init_core.specs.Core.{opening_of}
use Rattle.init_machine.specs.State.{first_state}
use Rattle.init_driver.proofs.Reached.{begins_with}
use Rattle.init_driver.proofs.Tallied.{recorded_tally, tally_first}
use Rattle.init_driver.proofs.counting.count_over.Goals as goal

pub returns-clause-tally : goal.returns-clause-tally
returns-clause-tally g c =
    let setup = c.args.setup in
    let ok = c.in_ok-core.ensures in
    let core = c.in_ok-core.core in
    tally_first setup.config core.config setup.policy core.policy c.args.script.now.words core.state setup.diagnostics c.args.script.now ok.config ok.policy
    (begins_with (λ w. first_state (opening_of setup.config setup.policy w)) _ _ _ c.requires.seat.1 ok.state) c.count_whole.result c.count_whole.ensures.tally

pub returns-clause-seat : goal.returns-clause-seat
returns-clause-seat g c =
    let setup = c.args.setup in
    let ok = c.in_ok-core.ensures in
    let core = c.in_ok-core.core in
    recorded_tally setup.config core.config setup.policy core.policy c.args.script.now.words core.state setup.diagnostics c.args.script.now ok.config ok.policy
    (begins_with (λ w. first_state (opening_of setup.config setup.policy w)) _ _ _ c.requires.seat.1 ok.state) c.count_whole.result core.desk.opening
    (begins_with (opening_of setup.config setup.policy) _ _ _ c.requires.seat.1 ok.opening) c.count_whole.ensures.seat
