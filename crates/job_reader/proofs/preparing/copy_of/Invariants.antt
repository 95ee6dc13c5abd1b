use Rattle.std.proofs.Common.{◌≡◌, ◌++◌, drop}
use Rattle.job_reader.proofs.preparing.copy_of.Given as goal

-- what is left decides
abbrev pub invariant-loop-plan : goal.invariant-loop-plan
invariant-loop-plan l = l.copy ++ drop l.plan-index l.plans ≡ l.plans
