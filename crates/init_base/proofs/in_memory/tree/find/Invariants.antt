use Rattle.std.proofs.Common.{◌≡◌, drop}
use Rattle.init_base.specs.Tree.{file_at}
use Rattle.init_base.proofs.in_memory.tree.find.Given as goal

abbrev pub invariant-loop-entry : goal.invariant-loop-entry
invariant-loop-entry l = file_at (drop l.entry-index l.entries) l.path ≡ file_at l.entries l.path
