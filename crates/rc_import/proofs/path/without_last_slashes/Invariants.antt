use Rattle.std.proofs.Common.{◌≡◌, ◌≤◌, length}
use Rattle.rc_import.specs.Paths.{without_last_slashes as without_last_slashes_lem}
use Rattle.rc_import.proofs.path.without_last_slashes.Given as goal

abbrev pub invariant-loop-rest : goal.invariant-loop-rest
invariant-loop-rest l = record {
  kept : without_last_slashes_lem l.rest ≡ without_last_slashes_lem l.text;
  shorter : length l.rest ≤ length l.text;
}

abbrev pub decreases-loop-rest : goal.decreases-loop-rest
decreases-loop-rest l = length l.rest
