-- Those that are left are still to go.
use Rattle.std.proofs.Common.{◌≡◌, drop, fold}
use Rattle.model_kernel.specs.Living.{without_pid}
use Rattle.model_kernel.proofs.kernel.bury.Given as goal

abbrev pub invariant-loop-pid : goal.invariant-loop-pid
invariant-loop-pid l = fold without_pid l.living (drop l.pid-index l.pids) ≡ fold without_pid l.initial.living l.pids
