use Rattle.std.proofs.Common.{◌+◌, ◌-◌, ◌*◌, ◌≤◌, ℕ, List, [], ◌∷◌, ◌++◌, length}
use Rattle.init_machine.specs.Sets.{Set}
use Rattle.property_trie.specs.TrieSteps.{tree_of}
use Rattle.property_trie.specs.Levels.{AreLevels, BeginsPart, Grows}
use Rattle.property_trie.proofs.Grown.{NewFrom}
use Rattle.property_trie.proofs.levels.Levels.add_new.Given as goal

abbrev pub invariant-parts : goal.invariant-parts
invariant-parts l = record {
  within : l.from ≤ length l.name;
  begins : BeginsPart l.name l.from;
  low : l.place ≤ l.fn.mark + 6 * l.from;
  ends : (sets : List Set) (value : List ℕ) → Grows sets l.name l.fn.first l.fn.mark → AreLevels (sets ++ (l.name, value) ∷ []) l.initial.self
      → AreLevels (sets ++ (l.name, value) ∷ []) l.self × NewFrom (tree_of (sets ++ (l.name, value) ∷ [])) l.name l.from l.place;
}

abbrev pub decreases-parts : goal.decreases-parts
decreases-parts l = length l.name + 1 - l.from
