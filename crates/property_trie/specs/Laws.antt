-- What the trie of names is, for all names in the order of their sets, each with the length of its value.
use Rattle.std.specs.Prelude.{◌≡◌, ℕ, ◌↔◌, false, List, [], ◌∷◌, ◌++◌}
use mathlib.Core.Option.{some}
use lib.ListN.{get_elem?}
use Rattle.init_machine.specs.Words.{is_among, Sized, names_in, cell_words, used_of}
use Rattle.property_trie.specs.Shared.{shared_with}
use Rattle.property_trie.specs.Parts.{parts_of}
use Rattle.property_trie.specs.Tree.{find, cell_in, depth, trie_of, each_once, Extends}
use Rattle.property_trie.specs.Places.{LiesWell}

-- the mark is the number of words that the names use with their first values
abbrev pub MarkIsWordsUsed : Type 0
MarkIsWordsUsed = (sized : List Sized) → (trie_of sized).mark ≡ used_of (each_once sized)

-- a name has no cell exactly where it isn't among the names
abbrev pub FindsItsNames : Type 0
FindsItsNames = (sized : List Sized) (name : List ℕ)
    → (find (trie_of sized).tree (parts_of name) ≡ 0) ↔ (is_among (names_in (each_once sized)) name ≡ false)

-- each cell has the words of the name's first value
abbrev pub CellHasItsWords : Type 0
CellHasItsWords = (sized : List Sized) (k : ℕ) (s : Sized)
    → get_elem? (each_once sized) k ≡ some s → (cell_in (trie_of sized).tree (parts_of s.0)).words ≡ cell_words s.1

-- of the dotted prefixes of a name, those that are prefixes of the names have nodes, and no others
abbrev pub HasItsPrefixes : Type 0
HasItsPrefixes = (sized : List Sized) (name : List ℕ)
    → depth (trie_of sized).tree (parts_of name) ≡ shared_with (names_in (each_once sized)) name

-- siblings are a search tree, links lead upwards, and nodes and cells don't overlap between word 16 and the mark
abbrev pub AlwaysLiesWell : Type 0
AlwaysLiesWell = (sized : List Sized) → LiesWell (trie_of sized).tree (trie_of sized).mark

-- nothing is ever removed
abbrev pub OnlyExtends : Type 0
OnlyExtends = (sized : List Sized) (more : Sized) → Extends (trie_of sized).tree (trie_of (sized ++ more ∷ [])).tree

-- names are known by their parts
abbrev pub PartsTellNames : Type 0
PartsTellNames = (name other : List ℕ) → parts_of name ≡ parts_of other → name ≡ other
