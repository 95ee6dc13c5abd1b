-- What a rule keeps true of the words and of the views, so that walks and additions may be made.
use Rattle.std.specs.Prelude.{◌≡◌, ◌≢◌, ℕ, ◌+◌, ◌<◌, ◌≤◌, List, length, slice_index, Contains, Option, Some, None}
use Rattle.init_machine.specs.Sets.{Set}
use Rattle.property_trie.specs.Parts.{parts_of}
use Rattle.property_trie.specs.Tree.{Tree, find}
use Rattle.property_trie.specs.Tree.Tree.{leaf, node}
use Rattle.property_trie.specs.Places.{LiesWell}
use Rattle.property_trie.specs.TreeWords.{TrieHolds}
use Rattle.property_trie.specs.TrieSteps.{IsShortText}
use Rattle.property_trie.specs.Walk.{Stands}
use Rattle.property_trie.specs.Additions.{tree_with, free_place}
use Rattle.property_trie.specs.declared.view.Trail.{Trail}
use Rattle.property_trie.specs.declared.view.TrieView.{TrieView}

-- the part of each node is short
abbrev pub HasShortParts : Tree → Type 0
HasShortParts leaf = Unit {0}
HasShortParts (node place part left right children cell) =
    IsShortText part × HasShortParts left × HasShortParts right × HasShortParts children

-- the words spell the trie, whose nodes and cells lie well below the mark
pub record TrieStands (words : List ℕ) (tree : Tree) (mark : ℕ) : Type 0 where
  pub holds : TrieHolds words tree
  pub lies : LiesWell tree mark
  pub room : mark ≤ length words
  pub parts : HasShortParts tree

abbrev pub TrailStands : Tree → Option Trail → Type 0
TrailStands tree None = Unit {0}
TrailStands tree (Some trail) = Stands tree (parts_of trail.name) trail.place trail.part trail.rest

-- what a seat knows of the trie: the cells that it has found, and where its walk stands
pub record SeatStands (tree : Tree) (trie : TrieView) : Type 0 where
  pub known : (name : List ℕ) (place : ℕ) → Contains trie.known (name, place) → (place ≢ 0) × (find tree (parts_of name) ≡ place)
  pub trail : TrailStands tree trie.trail

-- while the writer adds the name, so many of its missing nodes are linked, and these words stand from the first free word on
pub record AdditionStands (words : List ℕ) (sets : List Set) (name : List ℕ) (linked : ℕ) (fresh : List ℕ) : Type 0 where
  pub trie : TrieStands words (tree_with sets name linked) (free_place sets name linked)
  pub spelt : (k : ℕ) → k < length fresh → slice_index words (free_place sets name linked + k) ≡ slice_index fresh k
  pub inside : free_place sets name linked + length fresh ≤ length words
