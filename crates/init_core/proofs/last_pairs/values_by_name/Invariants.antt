use Rattle.std.proofs.Common.{◌≡◌, drop}
use Rattle.init_machine.specs.Pairs.{last_pairs, last_pairs_onto}
use Rattle.init_core.specs.internal.ByName.{pairs_in}
use Rattle.init_core.proofs.last_pairs.values_by_name.Given as goal

abbrev pub invariant-loop-pair : goal.invariant-loop-pair
invariant-loop-pair l = last_pairs_onto (pairs_in l.values.entries) (drop l.pair-index l.pairs) ≡ last_pairs l.pairs
