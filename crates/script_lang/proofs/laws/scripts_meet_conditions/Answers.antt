use Rattle.script_lang.proofs.Conditions.{script_meets}
use Rattle.script_lang.proofs.laws.scripts_meet_conditions.Goals as goal

pub returns : goal.returns
returns c = script_meets
