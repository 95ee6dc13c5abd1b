use Rattle.std.proofs.lemmas.Result.{IfOk-weaker}
use Rattle.init_machine.specs.WellFormed.{IsWellFormed}
use Rattle.rc_import.proofs.Sound.{gathered_config}
use Rattle.rc_import.proofs.gathered.Gathered.into_config.Goals as goal

pub returns-clause-well_formed : goal.returns-clause-well_formed
returns-clause-well_formed c =
    IfOk-weaker c.into_config.result _ IsWellFormed (λ config is. gathered_config c.self.inside.merger config c.self.invariant c.one_service_of_a_name.ensures is) c.into_config.ensures
