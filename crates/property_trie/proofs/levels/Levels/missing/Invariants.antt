use Rattle.std.proofs.Common.{◌≤◌, length}
use Rattle.property_trie.specs.Levels.{BeginsPart}
use Rattle.property_trie.proofs.levels.Levels.missing.Given as goal

abbrev pub invariant-fronts : goal.invariant-fronts
invariant-fronts l = record {
  within : l.from ≤ length l.name;
  begins : BeginsPart l.name l.from;
}

abbrev pub decreases-fronts : goal.decreases-fronts
decreases-fronts l = l.from
