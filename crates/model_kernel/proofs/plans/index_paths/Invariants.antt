-- The paths that are left make it whole.
use Rattle.std.proofs.Common.{◌≡◌, [], drop, fold}
use Rattle.model_kernel.specs.Kernel.{paths_of}
use Rattle.collections.specs.Texts.{with_text}
use Rattle.model_kernel.proofs.plans.index_paths.Given as goal

abbrev pub invariant-loop-plan : goal.invariant-loop-plan
invariant-loop-plan l = fold with_text l.paths (paths_of (drop l.plan-index l.plans)) ≡ fold with_text [] (paths_of l.plans)
