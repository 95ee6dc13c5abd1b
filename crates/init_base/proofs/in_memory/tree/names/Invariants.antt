use Rattle.std.proofs.Common.{◌≡◌, ◌++◌, drop}
use Rattle.init_base.specs.Tree.{distinct_after, file_names, names_in}
use Rattle.init_base.proofs.in_memory.tree.names.Given as goal

abbrev pub invariant-loop-entry : goal.invariant-loop-entry
invariant-loop-entry l =
    l.names ++ distinct_after l.names (file_names l.dir (drop l.entry-index l.entries)) ≡ names_in l.entries l.dir
