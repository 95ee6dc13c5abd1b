use Rattle.std.proofs.Common.{◌≤◌, ◌-◌, vec_len}
use Rattle.init_base.proofs.adapters.machine.read_file.Given as goal

abbrev pub invariant-loop-bytes : goal.invariant-loop-bytes
invariant-loop-bytes g l = vec_len l.bytes ≤ l.limit

abbrev pub decreases-loop-bytes : goal.decreases-loop-bytes
decreases-loop-bytes g l = l.limit - vec_len l.bytes
