-- What is told of those that are left comes behind.
use Rattle.std.proofs.Common.{◌≡◌, ◌++◌, drop, map}
use Rattle.model_kernel.specs.Kernel.{reaped_of}
use Rattle.model_kernel.specs.Living.{found}
use Rattle.model_kernel.proofs.kernel.told.Given as goal

abbrev pub invariant-loop-pid : goal.invariant-loop-pid
invariant-loop-pid l = l.reaped ++ map reaped_of (found l.living (drop l.pid-index l.pids)) ≡ map reaped_of (found l.living l.pids)
