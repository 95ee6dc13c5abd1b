use Rattle.script_lang.proofs.Conditions.{script_meets}
use Rattle.script_lang.proofs.SetsReading.{script_of_sets_is_script}
use Rattle.job_reader.proofs.reading.script_in.Goals as goal

pub returns-in_ok-read-in-Whole-clause-conditions : goal.returns-in_ok-read-in-Whole-clause-conditions
returns-in_ok-read-in-Whole-clause-conditions c = script_meets _ _ c.in_ok-read-in-Whole.ensures.script

pub returns-in_ok-read_sets-in-Sets-clause-conditions : goal.returns-in_ok-read_sets-in-Sets-clause-conditions
returns-in_ok-read_sets-in-Sets-clause-conditions c = script_meets _ _ (script_of_sets_is_script _ _ c.in_ok-read_sets-in-Sets.ensures.script)
