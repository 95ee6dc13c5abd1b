-- Those of the pids that are left come behind.
use Rattle.std.proofs.Common.{◌≡◌, ◌++◌, drop, filter}
use Rattle.model_kernel.specs.Living.{is_over, with_pid}
use Rattle.model_kernel.proofs.living.Living.those_ended.Given as goal

abbrev pub invariant-loop-pid : goal.invariant-loop-pid
invariant-loop-pid l =
    l.ended ++ filter (λ pid. is_over l.now (with_pid l.self pid)) (drop l.pid-index l.asked) ≡ filter (λ pid. is_over l.now (with_pid l.self pid)) l.asked
