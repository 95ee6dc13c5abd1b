-- What each step of an addition does to the view of the writer.
-- An addition makes each missing node: its words, one after the other from the first free word on, and then the link to it.
-- Behind the nodes it makes the cell with its first value, and with the link to the cell the set is accepted.
use Rattle.std.specs.Prelude.{◌≡◌, ℕ, zero, suc, ◌+◌, ◌<◌, ◌≤◌, IsTrue, List, [], ◌∷◌, ◌++◌, length, take, drop, Option, Some, None}
use Rattle.init_base.specs.Name.{LegalName}
use Rattle.init_machine.specs.Serial.{top_byte, clean_serial}
use Rattle.init_machine.specs.Words.{cell_words}
use Rattle.init_machine.specs.Sets.{Set}
use Rattle.serial_value.specs.declared.view.CellView.{CellView}
use Rattle.serial_value.specs.declared.view.CellView.TheVariants.{Writer}
use Rattle.serial_value.specs.Words.{text_word, body_word}
use Rattle.serial_value.specs.Cell.{sets_of, accepted}
use Rattle.property_trie.specs.Parts.{parts_of, node_size}
use Rattle.property_trie.specs.Tree.{Tree, find, grown, node_sizes, cell_place, trie_of}
use Rattle.property_trie.specs.TrieSteps.{sizes_of, tree_of, missing_parts}
use Rattle.property_trie.specs.TreeWords.{link_at}
use Rattle.property_trie.specs.Walk.{EndsAt}
use Rattle.property_trie.specs.declared.view.Adding.{Adding}
use Rattle.property_trie.specs.declared.view.TrieView.{TrieView}
use Rattle.property_trie.specs.declared.addition.NewCell.{NewCell}
use Rattle.property_trie.specs.declared.lacking.Missing.{Missing}
use Rattle.property_trie.specs.declared.lacking.Missing.TheVariants.{Cell as MissingCell, Nodes as MissingNodes}
use Rattle.property_trie.specs.declared.walk.SearchEnd.{SearchEnd}
use Rattle.property_trie.specs.declared.walk.SearchEnd.TheVariants.{Cell, NoCell, NoNode}

-- the first n of these words
abbrev pub first_words : (ℕ → ℕ) → ℕ → List ℕ
first_words word zero = []
first_words word (suc n) = first_words word n ++ word n ∷ []

-- word k of a new node of the part, which has no links yet
abbrev pub new_node_word : List ℕ → ℕ → ℕ
new_node_word part zero = length part
new_node_word part (suc zero) = 0
new_node_word part (suc (suc zero)) = 0
new_node_word part (suc (suc (suc zero))) = 0
new_node_word part (suc (suc (suc (suc zero)))) = 0
new_node_word part (suc (suc (suc (suc (suc k))))) = text_word part k

abbrev pub new_node : List ℕ → List ℕ
new_node part = first_words (new_node_word part) (node_size part)

-- word k of a new cell, which has the value under this number: its serial, and its body, which has the length in front where the
-- cell is long
abbrev pub new_cell_word : ℕ → List ℕ → ℕ → ℕ
new_cell_word number value zero = clean_serial (top_byte value) number
new_cell_word number value (suc k) = body_word value k

abbrev pub new_cell : ℕ → List ℕ → List ℕ
new_cell number value = first_words (new_cell_word number value) (cell_words (length value))

-- the addition of the name, once so many of its missing nodes are linked and these words stand from the first free word on;
-- it begins with the first word
abbrev pub addition : List ℕ → ℕ → List ℕ → Option Adding
addition name zero [] = None
addition name zero (word ∷ words) = Some (record { name = name; linked = 0; fresh = word ∷ words })
addition name (suc n) words = Some (record { name = name; linked = suc n; fresh = words })

-- how many nodes are linked
abbrev pub linked_in : Option Adding → ℕ
linked_in None = 0
linked_in (Some adding) = adding.linked

abbrev pub fresh_in : Option Adding → List ℕ
fresh_in None = []
fresh_in (Some adding) = adding.fresh

-- the first free word of the trie of these sets, and where the cell of a new name comes to lie, behind its new nodes
abbrev pub mark_of : List Set → ℕ
mark_of sets = (trie_of (sizes_of sets)).mark

abbrev pub new_place : List Set → List ℕ → ℕ
new_place sets name = cell_place (trie_of (sizes_of sets)) (parts_of name)

-- the tree, once so many of the missing nodes of the name are linked
abbrev pub tree_with : List Set → List ℕ → ℕ → Tree
tree_with sets name linked = grown linked (tree_of sets) (parts_of name) (trie_of (sizes_of sets)).mark

-- and the first free word
abbrev pub free_place : List Set → List ℕ → ℕ → ℕ
free_place sets name linked = (trie_of (sizes_of sets)).mark + node_sizes (take linked (missing_parts (tree_of sets) (parts_of name)))

-- how many nodes the name misses
abbrev pub missing_count : List Set → List ℕ → ℕ
missing_count sets name = length (missing_parts (tree_of sets) (parts_of name))

-- the next of the parts that have no node
abbrev pub IsNext : List Set → List ℕ → ℕ → List ℕ → Type 0
IsNext sets name linked part = (more : List (List ℕ)) × (drop linked (missing_parts (tree_of sets) (parts_of name)) ≡ part ∷ more)

-- the writer adds the name, which is in no set, and makes no set at a cell that is linked already
pub record IsAdding (cell : CellView) (trie : TrieView) (name : List ℕ) (linked : ℕ) (fresh : List ℕ) : Type 0 where
  pub live : IsTrue trie.live
  pub writes : cell ≡ Writer (sets_of cell) None
  pub legal : LegalName name
  pub absent : find (tree_of (sets_of cell)) (parts_of name) ≡ 0
  pub under_way : trie.adding ≡ addition name linked fresh

-- the addition is so far
abbrev pub adding : TrieView → List ℕ → ℕ → List ℕ → TrieView
adding trie name linked fresh = record trie { adding = addition name linked fresh }

-- the addition is over, and the writer knows the place of the cell
abbrev pub linking : TrieView → List ℕ → ℕ → TrieView
linking trie name place = record trie { known = (name, place) ∷ trie.known; adding = None }

-- all nodes of the name are linked, and its cell's link and its cell come to lie at these places
pub record HasPath (words : ℕ) (sets : List Set) (name : List ℕ) (new : NewCell) : Type 0 where
  pub ends : EndsAt (tree_with sets name (missing_count sets name)) (parts_of name) new.link
  pub free : new.place ≡ cell_place (trie_of (sizes_of sets)) (parts_of name)
  pub inside : new.link < words

-- where the search of the writer ends for a name that is in no set
abbrev pub EndsAbsent : ℕ → List Set → List ℕ → SearchEnd → Type 0
EndsAbsent words sets name (Cell place) = ⊥
EndsAbsent words sets name (NoCell link) = EndsAt (tree_of sets) (parts_of name) link × (link < words)
EndsAbsent words sets name (NoNode link from) =
    (link ≡ link_at 1 (tree_of sets) (parts_of name)) × (parts_of (drop from name) ≡ missing_parts (tree_of sets) (parts_of name))
    × (from ≤ length name) × (link < words)

-- what a name misses that is in no set, and where the link stands to the first of it
abbrev pub IsMissing : ℕ → List Set → List ℕ → Missing → Type 0
IsMissing words sets name (MissingCell link) = EndsAt (tree_of sets) (parts_of name) link × (link < words)
IsMissing words sets name (MissingNodes link from) =
    (link ≡ link_at 1 (tree_of sets) (parts_of name)) × (parts_of (drop from name) ≡ missing_parts (tree_of sets) (parts_of name))
    × (from ≤ length name) × (link < words)

-- the first free word, from which on the missing nodes of the name have room
abbrev pub HasRoom : ℕ → List Set → List ℕ → ℕ → Type 0
HasRoom words sets name mark = (mark ≡ mark_of sets) × (new_place sets name ≤ words)

-- the view of the writer once all missing nodes of the name are linked
abbrev pub with_path : {V : Type 0} → (V → TrieView → V) → CellView → TrieView → V → List ℕ → V
with_path with_trie cell trie v name = with_trie v (adding trie name (missing_count (sets_of cell) name) [])

-- and once the set is accepted
module _ {V : Type 0} (with_cell : V → CellView → V) (with_trie : V → TrieView → V) where
  abbrev pub with_added : CellView → TrieView → V → List ℕ → List ℕ → ℕ → V
  with_added cell trie v name value place = with_cell (with_trie v (linking trie name place)) (accepted cell name value)
