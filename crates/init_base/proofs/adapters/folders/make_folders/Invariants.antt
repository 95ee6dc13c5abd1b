use Rattle.std.proofs.Common.{◌≡◌, true}
use Rattle.init_base.specs.Resolve.{is_below_root}
use Rattle.init_base.proofs.adapters.folders.make_folders.Given as goal

abbrev pub invariant-loop-at : goal.invariant-loop-at
invariant-loop-at g l = is_below_root l.place ≡ true
