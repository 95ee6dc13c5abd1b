use Rattle.script_lang.proofs.Conditions.{script_meets}
use Rattle.race_tests.proofs.beside.script_of.Goals as goal

pub returns-in-Ok : goal.returns-in-Ok
returns-in-Ok c = script_meets _ _ c.in-Ok.ensures.script
