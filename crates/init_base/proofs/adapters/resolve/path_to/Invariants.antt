use Rattle.std.proofs.Common.{◌≡◌, take}
use Rattle.init_base.specs.Resolve.{path_to}
use Rattle.init_base.proofs.adapters.resolve.path_to.Given as goal

abbrev pub invariant-loop-name : goal.invariant-loop-name
invariant-loop-name l = l.path.items ≡ path_to (take l.name-index l.place)
