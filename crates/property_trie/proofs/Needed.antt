-- What is noted of the levels tells the words that an absent name needs.
use Rattle.std.proofs.Common.{◌≡◌, ℕ, ◌+◌, List, drop, sym, ap, ◌∙◌}
use Rattle.init_machine.specs.Sets.{Set}
use Rattle.init_machine.specs.Words.{cell_words, need_of}
use Rattle.property_trie.specs.Parts.{parts_of}
use Rattle.property_trie.specs.Tree.{find, node_sizes, each_once}
use Rattle.property_trie.specs.TrieSteps.{sizes_of, tree_of}
use Rattle.property_trie.specs.Levels.{LinkedAt}
use Rattle.property_trie.proofs.Needing.{need_missing}

pub need_linked : (sets : List Set) (name : List ℕ) (len from link : ℕ) → find (tree_of sets) (parts_of name) ≡ 0 → LinkedAt sets name from link
    → need_of (each_once (sizes_of sets)) name len ≡ cell_words len + node_sizes (parts_of (drop from name))
need_linked sets name len from link absent linked =
    need_missing (sizes_of sets) name len absent ∙ ap (λ (ps : List (List ℕ)). cell_words len + node_sizes ps) (sym linked.1)
