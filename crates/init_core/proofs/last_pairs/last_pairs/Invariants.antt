use Rattle.std.proofs.Common.{◌≡◌, ◌++◌}
use Rattle.init_machine.specs.Pairs.{last_pairs}
use Rattle.init_core.specs.internal.ByName.{pairs_in}
use Rattle.init_core.proofs.last_pairs.last_pairs.Given as goal

abbrev pub invariant-loop-name : goal.invariant-loop-name
invariant-loop-name l = l.last ++ pairs_in l.name-iterator ≡ last_pairs l.pairs
