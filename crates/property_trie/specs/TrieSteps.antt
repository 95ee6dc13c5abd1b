-- What each step at the trie does to the view of the seat that makes it.
-- A walk loads the link of the first level. At each node it loads the length of the node's part, as many of the part's words
-- as it needs, and the link that their order tells; at the node of the last part that is the link to the property's cell.
use Rattle.std.specs.Prelude.{◌≡◌, ◌≢◌, ℕ, ◌+◌, ◌<◌, ◌≤◌, ◌^◌, ◌⊎◌, IsTrue, List, [], ◌∷◌, length, drop, map, slice_index, Option, Some, None, ◌==◌, if◌then◌else◌}
use Rattle.atomic_table.specs.Seated.{TableId}
use Rattle.atomic_table.specs.declared.shared.Seat.{Seat}
use Rattle.init_machine.specs.Words.{Sized, cell_words}
use Rattle.init_machine.specs.Sets.{Set}
use Rattle.init_machine.specs.declared.report.Reading.{Reading}
use Rattle.init_machine.specs.declared.report.Reading.TheVariants.{Absent}
use Rattle.serial_value.specs.declared.view.CellView.{CellView}
use Rattle.serial_value.specs.declared.view.CellView.TheVariants.{Writer, Reader}
use Rattle.property_trie.specs.Parts.{parts_of, compare_parts, node_size}
use Rattle.property_trie.specs.Tree.{Tree, by_order, at_last, find, depth, node_sizes, trie_of}
use Rattle.property_trie.specs.TreeWords.{link_at}
use Rattle.property_trie.specs.Walk.{EndsAt}
use Rattle.property_trie.specs.declared.view.Trail.{Trail}
use Rattle.property_trie.specs.declared.view.TrieView.{TrieView}
use Rattle.property_trie.specs.declared.walk.SearchEnd.{SearchEnd}
use Rattle.property_trie.specs.declared.walk.SearchEnd.TheVariants.{Cell, NoCell, NoNode}

-- the table has this many words, few enough that each place is below 2 ^ 32
abbrev pub HasWords : TableId → ℕ → Type 0
HasWords table words = (words ≡ table.words) × (words ≤ 2 ^ 32)

module _ {S V : Type 0} where
  -- the seat is one of that table, which has this many words
  abbrev pub SitsAt : Seat S V → TableId → ℕ → Type 0
  SitsAt seat table words = (seat.table_id ≡ table) × HasWords table words

  -- the seat's table has this word, which is the link that is asked about
  abbrev pub IsAtLink : Seat S V → TableId → ℕ → ℕ → Type 0
  IsAtLink seat table link asked = (seat.table_id ≡ table) × (link < table.words) × (link ≡ asked)

-- the names of sets, in their order
abbrev pub names_of : List Set → List (List ℕ)
names_of sets = map (λ (set : Set). set.0) sets

-- the same, each with the length of its value
abbrev pub sizes_of : List Set → List Sized
sizes_of sets = map (λ (set : Set). (set.0, length set.1)) sets

-- the trie of the names of sets
abbrev pub tree_of : List Set → Tree
tree_of sets = (trie_of (sizes_of sets)).tree

-- those of the parts that have no node
abbrev pub missing_parts : Tree → List (List ℕ) → List (List ℕ)
missing_parts tree parts = drop (depth tree parts) parts

-- a name, and so a part of it, is at most 255 bytes
pub record IsShortText (text : List ℕ) : Type 0 where
  pub short : length text ≤ 255
  pub bytes : (i : ℕ) → slice_index text i < 256

-- the part that is looked for where these are left
abbrev pub first_of : List (List ℕ) → List ℕ
first_of [] = []
first_of (part ∷ parts) = part

-- the seat is live, and no walk or addition of it is under way
pub record IsAtRest (trie : TrieView) : Type 0 where
  pub live : IsTrue trie.live
  pub no_trail : trie.trail ≡ None
  pub no_adding : trie.adding ≡ None

-- from a node a walk goes to the siblings before or behind it, or, where the part is the node's and others are left, down
-- to its children
abbrev pub GoesOn : ℕ → List ℕ → List (List ℕ) → ℕ → List (List ℕ) → Type 0
GoesOn place part [] link rest = ⊥
GoesOn place part (p ∷ ps) link rest =
    by_order (compare_parts p part)
    ((link ≡ place + 1) × (rest ≡ p ∷ ps))
    (at_last ps ⊥ ((link ≡ place + 3) × (rest ≡ ps)))
    ((link ≡ place + 2) × (rest ≡ p ∷ ps))

abbrev pub LeadsFrom : Option Trail → List ℕ → ℕ → List (List ℕ) → Type 0
LeadsFrom None name link rest = ⊥
LeadsFrom (Some trail) name link rest = (trail.name ≡ name) × GoesOn trail.place trail.part trail.rest link rest

-- a walk for the name comes to the link at this place, with these parts left: it begins at word 1, or goes on from its node
pub record LeadsTo (trie : TrieView) (name : List ℕ) (link : ℕ) (rest : List (List ℕ)) : Type 0 where
  pub live : IsTrue trie.live
  pub no_adding : trie.adding ≡ None
  pub next : ((link ≡ 1) × (rest ≡ parts_of name)) ⊎ LeadsFrom trie.trail name link rest

-- the walk stands at the node at this place
abbrev pub StandsAt : Option Trail → ℕ → Type 0
StandsAt None place = ⊥
StandsAt (Some trail) place = trail.place ≡ place

-- the part of the node that the walk stands at
abbrev pub part_at : Option Trail → List ℕ
part_at None = []
part_at (Some trail) = trail.part

-- the walk for the name stands at the node of its last part, whose link to the cell lies at this place
abbrev pub EndsFrom : Option Trail → List ℕ → ℕ → Type 0
EndsFrom None name link = ⊥
EndsFrom (Some trail) name link = (trail.name ≡ name) × (link ≡ trail.place + 4) × (trail.rest ≡ trail.part ∷ [])

pub record ComesTo (trie : TrieView) (name : List ℕ) (link : ℕ) : Type 0 where
  pub live : IsTrue trie.live
  pub no_adding : trie.adding ≡ None
  pub next : EndsFrom trie.trail name link

-- the walk is over
abbrev pub rested : TrieView → TrieView
rested trie = record trie { trail = None }

-- the walk for the name, with these parts left, stands at the node at this place, of this part
abbrev pub standing : TrieView → List ℕ → List (List ℕ) → ℕ → List ℕ → TrieView
standing trie name rest place part = record trie { trail = Some (record { name = name; rest = rest; place = place; part = part }) }

-- the walk is over, and the seat knows the place of the name's cell
abbrev pub knowing : TrieView → List ℕ → ℕ → TrieView
knowing trie name place = record trie { known = (name, place) ∷ trie.known; trail = None }

-- the writer knows whether the name has a cell, and where; a reader knows the cells that it has found
abbrev pub HasCellAt : CellView → List ℕ → ℕ → Type 0
HasCellAt (Writer sets making) name place = find (tree_of sets) (parts_of name) ≡ place
HasCellAt (Reader number copying) name place = Unit {0}

-- the walk of the writer ends at the link at this place, and the parts that are left have no node
abbrev pub EndsWithout : CellView → List ℕ → ℕ → List (List ℕ) → Type 0
EndsWithout (Writer sets making) name link rest =
    (link ≡ link_at 1 (tree_of sets) (parts_of name)) × (rest ≡ missing_parts (tree_of sets) (parts_of name))
EndsWithout (Reader number copying) name link rest = Unit {0}

-- the walk of the writer ends at the node of the whole name, whose link to the cell lies at this place
abbrev pub EndsAtNode : CellView → List ℕ → ℕ → Type 0
EndsAtNode (Writer sets making) name link = EndsAt (tree_of sets) (parts_of name) link
EndsAtNode (Reader number copying) name link = Unit {0}

-- the room that a node, or a cell, has among the words: a long cell has more than the 13 words of a short one
abbrev pub NodeInside : ℕ → ℕ → List ℕ → Type 0
NodeInside words place part = (place + node_size part ≤ words) × IsShortText part

abbrev pub CellInside : ℕ → ℕ → Type 0
CellInside words place = (16 ≤ place) × (place + 13 ≤ words)

-- by how the parts of a view are put in place, and a reading is noted
module _ {V : Type 0} (with_trie : V → TrieView → V) (noted : V → Reading → V) where
  -- the name has no cell: a reader notes that it is absent
  abbrev pub Misses : CellView → TrieView → V → List ℕ → V → Type 0
  Misses (Writer sets making) trie v name after = (find (tree_of sets) (parts_of name) ≡ 0) × (after ≡ with_trie v (rested trie))
  Misses (Reader number copying) trie v name after = after ≡ noted (with_trie v (rested trie)) (Absent name number)

  -- the load of a link to siblings, by the number of words: it is 0, or leads to a node above it
  pub record Follows (words : ℕ) (cell : CellView) (trie : TrieView) (v : V) (name : List ℕ) (link : ℕ) (rest : List (List ℕ)) (word : ℕ) (after : V) : Type 0 where
    pub none : word ≡ 0 → Misses cell trie v name after × EndsWithout cell name link rest
    pub some : word ≢ 0 → (part : List ℕ) × (link < word) × NodeInside words word part × (after ≡ with_trie v (standing trie name rest word part))

  -- the load of the link to the cell
  pub record Ends (words : ℕ) (cell : CellView) (trie : TrieView) (v : V) (name : List ℕ) (link word : ℕ) (after : V) : Type 0 where
    pub none : word ≡ 0 → Misses cell trie v name after × EndsAtNode cell name link
    pub some : word ≢ 0 → CellInside words word × HasCellAt cell name word × (after ≡ with_trie v (knowing trie name word))

  -- the walk among the siblings for the first of these parts: to its node, or to none
  abbrev pub ReachesNode : ℕ → CellView → TrieView → V → List ℕ → List (List ℕ) → ℕ → V → Type 0
  ReachesNode words cell trie v name rest place after =
      NodeInside words place (first_of rest) × (after ≡ with_trie v (standing trie name rest place (first_of rest)))

  abbrev pub ReachesNone : CellView → TrieView → V → List ℕ → List (List ℕ) → ℕ → V → Type 0
  ReachesNone cell trie v name rest link after = Misses cell trie v name after × EndsWithout cell name link rest

  -- where a search for a name ends
  abbrev pub Searches : ℕ → CellView → TrieView → V → List ℕ → SearchEnd → V → Type 0
  Searches words cell trie v name (Cell place) after =
      CellInside words place × HasCellAt cell name place × (after ≡ with_trie v (knowing trie name place))
  Searches words cell trie v name (NoCell link) after = Misses cell trie v name after × EndsAtNode cell name link
  Searches words cell trie v name (NoNode link from) after =
      Misses cell trie v name after × EndsWithout cell name link (parts_of (drop from name)) × (from ≤ length name)

  -- the name has no cell, and nothing of the view changes but that a reader notes that it is absent
  abbrev pub Lacks : CellView → V → List ℕ → V → Type 0
  Lacks (Writer sets making) v name after = (find (tree_of sets) (parts_of name) ≡ 0) × (after ≡ v)
  Lacks (Reader number copying) v name after = after ≡ noted v (Absent name number)

  -- what `find` answers: the place of the name's cell, or none
  abbrev pub Finds : ℕ → CellView → TrieView → V → List ℕ → Option ℕ → V → Type 0
  Finds words cell trie v name (Some place) after =
      CellInside words place × HasCellAt cell name place × (after ≡ with_trie v (knowing trie name place))
  Finds words cell trie v name None after = Lacks cell v name after

-- the view of the writer once it has looked for the name: a cell that it has found is known to it
module _ {V : Type 0} (with_trie : V → TrieView → V) where
  abbrev pub looked_up : Tree → TrieView → V → List ℕ → V
  looked_up tree trie v name = let place = find tree (parts_of name) in if place == 0 then v else with_trie v (knowing trie name place)

-- the words that are missing for a value of so many bytes where a search for the name ended
abbrev pub words_missing : List ℕ → ℕ → SearchEnd → ℕ
words_missing name len (Cell place) = 0
words_missing name len (NoCell link) = cell_words len
words_missing name len (NoNode link from) = cell_words len + node_sizes (parts_of (drop from name))

-- the search ended inside the name
abbrev pub IsWithin : List ℕ → SearchEnd → Type 0
IsWithin name (Cell place) = Unit {0}
IsWithin name (NoCell link) = Unit {0}
IsWithin name (NoNode link from) = from ≤ length name

-- the link at which the search ended is inside the table
abbrev pub LinkInside : ℕ → SearchEnd → Type 0
LinkInside words (Cell place) = Unit {0}
LinkInside words (NoCell link) = link < words
LinkInside words (NoNode link from) = link < words
