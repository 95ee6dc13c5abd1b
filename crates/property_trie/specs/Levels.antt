-- The levels of a trie: the siblings below the node of a front of a name, or at the top. What the writer has noted of them tells
-- where the first node is linked that a name misses.
use Rattle.std.specs.Prelude.{◌≡◌, ℕ, zero, suc, ◌+◌, ◌≤◌, List, [], ◌∷◌, take, drop, length, slice_index, Option, Some, None}
use Rattle.std.specs.HashMap.{get_by}
use Rattle.std.specs.Option.{option_map}
use Rattle.std.specs.Str.{bytes_eq}
use Rattle.indexmap.specs.IndexMap.{IndexMap}
use Rattle.init_machine.specs.Sets.{Set}
use Rattle.property_trie.specs.Parts.{parts_of, compare_parts}
use Rattle.property_trie.specs.Siblings.{Placed, Siblings, siblings_of}
use Rattle.property_trie.specs.Tree.{Tree, by_order, find}
use Rattle.property_trie.specs.Tree.Tree.{leaf, node}
use Rattle.property_trie.specs.TreeWords.{link_at}
use Rattle.property_trie.specs.TrieSteps.{tree_of, missing_parts}
use Rattle.property_trie.specs.Additions.{mark_of}
use Rattle.property_trie.specs.declared.level.Level.{Level}
use Rattle.property_trie.specs.declared.level.Nodes.{Nodes}
use Rattle.property_trie.specs.declared.level.Nodes.TheVariants as nodes
use Rattle.property_trie.specs.declared.levels.Levels.{Levels}

-- the siblings of the level below the node of these parts, none where there is no such node; `top` is the link to the tree
abbrev pub level_in : ℕ → Tree → List (List ℕ) → Option Siblings
level_in top tree [] = Some (siblings_of top tree)
level_in top leaf (q ∷ qs) = None
level_in top (node place part left right children cell) (q ∷ qs) =
    by_order (compare_parts q part) (level_in (place + 1) left (q ∷ qs)) (level_in (place + 3) children qs) (level_in (place + 2) right (q ∷ qs))

-- the front of a name before the part that begins at a byte, none before the first part
abbrev pub front_of : ℕ → List ℕ → Option (List ℕ)
front_of zero name = None
front_of (suc n) name = Some (take n name)

abbrev pub front_parts : Option (List ℕ) → List (List ℕ)
front_parts None = []
front_parts (Some front) = parts_of front

-- a part of the name begins at the byte: 46 is the dot
abbrev pub BeginsPart : List ℕ → ℕ → Type 0
BeginsPart name zero = Unit {0}
BeginsPart name (suc n) = slice_index name n ≡ 46

-- what is noted of a level
abbrev pub noted_nodes : Nodes → List Placed
noted_nodes nodes.Empty = []
noted_nodes (nodes.One part place) = (part, place) ∷ []
noted_nodes (nodes.Many places) = places.entries

abbrev pub level_as : Level → Siblings
level_as level = record { link = level.link; nodes = noted_nodes level.nodes }

abbrev pub noted_below : {S : Type 0} → Option (IndexMap (List ℕ) Level S) → List ℕ → Option Level
noted_below None front = None
noted_below (Some levels) front = get_by (bytes_eq front) levels

abbrev pub noted_at : Levels → Option (List ℕ) → Option Level
noted_at levels None = levels.top
noted_at levels (Some front) = noted_below levels.below front

abbrev pub level_noted : Levels → Option (List ℕ) → Option Siblings
level_noted levels front = option_map level_as (noted_at levels front)

-- each noted level is that of the trie of the names of these sets
abbrev pub AreLevels : List Set → Levels → Type 0
AreLevels sets levels = (front : Option (List ℕ)) (s : Siblings) → level_noted levels front ≡ Some s → level_in 1 (tree_of sets) (front_parts front) ≡ Some s

-- one level may be noted anew, and of the others is noted what was
abbrev pub ChangesLevel : Option (List ℕ) → Option Siblings → Levels → Levels → Type 0
ChangesLevel front s old new = (level_noted new front ≡ s) × ((other : Option (List ℕ)) → (other ≡ front → ⊥) → level_noted new other ≡ level_noted old other)

-- the first node that the name misses is to be linked there, and its parts from a byte on have none
abbrev pub LinkedAt : List Set → List ℕ → ℕ → ℕ → Type 0
LinkedAt sets name from link =
    (link ≡ link_at 1 (tree_of sets) (parts_of name)) × (parts_of (drop from name) ≡ missing_parts (tree_of sets) (parts_of name)) × (from ≤ length name)

-- a name that is in none of these sets misses the nodes of its parts from a byte on, and they lie from a word on
pub record Grows (sets : List Set) (name : List ℕ) (from mark : ℕ) : Type 0 where
  pub absent : find (tree_of sets) (parts_of name) ≡ 0
  pub missing : parts_of (drop from name) ≡ missing_parts (tree_of sets) (parts_of name)
  pub within : from ≤ length name
  pub mark_is : mark ≡ mark_of sets
