-- The tree at one moment, while nodes of a name may be under way; and what a store beside it leaves.
use Rattle.std.proofs.Common.{◌≡◌, ◌≢◌, ℕ, zero, suc, ◌+◌, ◌<◌, ◌≤◌, List, [], ◌∷◌, ◌++◌, length, get_or, set, take, drop, Option, Some, None, Bool, sym, refl, ap, ◌∙◌, subst, arith, length-set, get_or-set_other, ne_eqb, if◌then◌else◌}
use Rattle.init_machine.specs.Sets.{Set}
use Rattle.property_trie.specs.Parts.{parts_of}
use Rattle.init_machine.specs.Words.{Sized, cell_words}
use Rattle.property_trie.specs.Tree.{Tree, Cell, cell_in, Trie, find, depth, grown, node_sizes, with_property, added, trie_from, trie_of}
use Rattle.property_trie.specs.Places.{InCell}
use Rattle.property_trie.specs.TrieSteps.{sizes_of, tree_of}
use Rattle.property_trie.specs.Additions.{addition, tree_with, free_place, mark_of}
use Rattle.property_trie.specs.Held.{TrieStands, AdditionStands}
use Rattle.property_trie.specs.declared.view.Adding.{Adding}
use Rattle.property_trie.proofs.Growing.{grown_none}
use Rattle.property_trie.proofs.Growth.{cell-grown}
use Rattle.property_trie.proofs.Marks.{trie_is}
use Rattle.property_trie.proofs.Names.{same_name}
use Rattle.property_trie.proofs.Cells.{found_takes, cell_no_node, cells_apart}
use Rattle.property_trie.proofs.Frames.{InNodes, nodes_take, tree_else}
use Rattle.property_area.specs.Area.{tree_now, AddingStands, word_at}

abbrev pub Parts : Type 0
Parts = List (List ℕ)

-- the first free word, while nodes of a name are added
abbrev pub mark_now : List Set → Option Adding → ℕ
mark_now sets None = mark_of sets
mark_now sets (Some adding) = free_place sets adding.name adding.linked

none_tree : (sets : List Set) (name : List ℕ) → tree_with sets name 0 ≡ tree_of sets
none_tree sets name = grown_none (tree_of sets) (parts_of name) (mark_of sets)

none_mark : (sets : List Set) (name : List ℕ) → free_place sets name 0 ≡ mark_of sets
none_mark sets name = omega arith

pub mark_high : (sets : List Set) (adding : Option Adding) → 16 ≤ mark_now sets adding
mark_high sets None = (trie_is (sizes_of sets)).above
mark_high sets (Some adding) = let high = (trie_is (sizes_of sets)).above in omega arith

-- the trie as it stands now
pub now_stands : (words : List ℕ) (sets : List Set) (adding : Option Adding) → AddingStands words sets adding → TrieStands words (tree_now sets adding) (mark_now sets adding)
now_stands words sets None h = h
now_stands words sets (Some adding) h = h.trie

pub cell_now : (sets : List Set) (adding : Option Adding) (ps : Parts) → cell_in (tree_now sets adding) ps ≡ cell_in (tree_of sets) ps
cell_now sets None ps = refl
cell_now sets (Some adding) ps = cell-grown adding.linked (tree_of sets) (parts_of adding.name) (mark_of sets) ps

pub find_now : (sets : List Set) (adding : Option Adding) (ps : Parts) → find (tree_now sets adding) ps ≡ find (tree_of sets) ps
find_now sets adding ps = ap (λ (c : Cell). c.place) (cell_now sets adding ps)

-- an addition that is so far
pub stands_addition : (words : List ℕ) (sets : List Set) (name : List ℕ) (linked : ℕ) (fresh : List ℕ) → AddingStands words sets (addition name linked fresh) → AdditionStands words sets name linked fresh
stands_addition words sets name zero [] h = record {
  trie = subst (λ (x : Tree × ℕ). TrieStands words x.0 x.1) (λ i. (sym (none_tree sets name) i, sym (none_mark sets name) i)) h;
  spelt = λ k small. absurd (omega arith);
  inside = let room = h.room in let m = none_mark sets name in omega arith;
}
stands_addition words sets name zero (word ∷ fresh) h = h
stands_addition words sets name (suc linked) fresh h = h

pub addition_stands : (words : List ℕ) (sets : List Set) (name : List ℕ) (linked : ℕ) (fresh : List ℕ) → AdditionStands words sets name linked fresh → AddingStands words sets (addition name linked fresh)
addition_stands words sets name zero [] h = subst (λ (x : Tree × ℕ). TrieStands words x.0 x.1) (λ i. (none_tree sets name i, none_mark sets name i)) h.trie
addition_stands words sets name zero (word ∷ fresh) h = h
addition_stands words sets name (suc linked) fresh h = h

pub tree_addition : (sets : List Set) (name : List ℕ) (linked : ℕ) (fresh : List ℕ) → tree_now sets (addition name linked fresh) ≡ tree_with sets name linked
tree_addition sets name zero [] = sym (none_tree sets name)
tree_addition sets name zero (word ∷ fresh) = refl
tree_addition sets name (suc linked) fresh = refl

pub mark_addition : (sets : List Set) (name : List ℕ) (linked : ℕ) (fresh : List ℕ) → mark_now sets (addition name linked fresh) ≡ free_place sets name linked
mark_addition sets name zero [] = sym (none_mark sets name)
mark_addition sets name zero (word ∷ fresh) = refl
mark_addition sets name (suc linked) fresh = refl

-- a store beside the trie
pub trie_else : (words : List ℕ) (tree : Tree) (mark i n : ℕ) → TrieStands words tree mark → 1 ≢ i → (InNodes tree i → ⊥) → TrieStands (set words i n) tree mark
trie_else words tree mark i n h top outside = record {
  holds = record {
    top = get_or-set_other words i 1 n 0 top ∙ h.holds.top;
    nodes = tree_else words i n tree outside h.holds.nodes;
  };
  lies = h.lies;
  room = let l = length-set words i n in let r = h.room in omega arith;
  parts = h.parts;
}

pub adding_else : (words : List ℕ) (sets : List Set) (adding : Option Adding) (i n : ℕ) → AddingStands words sets adding → 1 ≢ i → (InNodes (tree_now sets adding) i → ⊥) → i < mark_now sets adding
    → AddingStands (set words i n) sets adding
adding_else words sets None i n h top outside below = trie_else words (tree_of sets) (mark_of sets) i n h top outside
adding_else words sets (Some adding) i n h top outside below = record {
  trie = trie_else words (tree_with sets adding.name adding.linked) (free_place sets adding.name adding.linked) i n h.trie top outside;
  spelt = λ k small. get_or-set_other words i (free_place sets adding.name adding.linked + k) n 0 (λ e. omega arith) ∙ h.spelt k small;
  inside = let l = length-set words i n in let r = h.inside in omega arith;
}

-- where the words of a cell lie: above the head, below the mark, and in no node
pub cell_lies : (words : List ℕ) (tree : Tree) (mark : ℕ) → TrieStands words tree mark → (ps : Parts) (word : ℕ) → InCell (cell_in tree ps) word
    → (16 ≤ word) × (word < mark) × (InNodes tree word → ⊥)
cell_lies words tree mark h ps word is =
    let w = h.lies.within word (found_takes tree ps word is) in
    (w.0, w.1, λ in_node. cell_no_node tree ps word h.lies.apart is in_node)

-- a node's word too lies there
pub node_lies : (words : List ℕ) (tree : Tree) (mark : ℕ) → TrieStands words tree mark → (word : ℕ) → InNodes tree word → (16 ≤ word) × (word < mark)
node_lies words tree mark h word is = h.lies.within word (nodes_take tree word is)

-- no word is of two names' cells
pub names_apart : (words : List ℕ) (tree : Tree) (mark : ℕ) → TrieStands words tree mark → (name q : List ℕ) (word : ℕ) → q ≢ name
    → InCell (cell_in tree (parts_of name)) word → InCell (cell_in tree (parts_of q)) word → ⊥
names_apart words tree mark h name q word other is is' =
    cells_apart tree (parts_of name) (parts_of q) word h.lies.apart (λ same. other (sym (same_name name q same))) is is'

-- the word at a place that isn't 0, and after a store elsewhere
pub word_is : (words : List ℕ) (place : ℕ) → place ≢ 0 → word_at words place ≡ get_or words place 0
word_is words zero some = absurd (some refl)
word_is words (suc n) some = refl

pub word_else : (words : List ℕ) (i n place : ℕ) → (place ≢ 0 → place ≢ i) → word_at (set words i n) place ≡ word_at words place
word_else words i n zero outside = refl
word_else words i n (suc k) outside = get_or-set_other words i (suc k) n 0 (outside (λ e. omega arith))

pub none_word : (words : List ℕ) (place : ℕ) → place ≡ 0 → word_at words place ≡ 0
none_word words place none = ap (word_at words) none

from_end : (trie : Trie) (sized : List Sized) (s : Sized) → trie_from trie (sized ++ s ∷ []) ≡ added (trie_from trie sized) s
from_end trie [] s = refl
from_end trie (other ∷ sized) s = from_end (added trie other) sized s

pub sizes_end : (sets : List Set) (set : Set) → sizes_of (sets ++ set ∷ []) ≡ sizes_of sets ++ (set.0, length set.1) ∷ []
sizes_end [] set = refl
sizes_end (s ∷ sets) set = ap (λ (sized : List Sized). (s.0, length s.1) ∷ sized) (sizes_end sets set)

-- a set of a name that has a cell leaves the trie
pub trie_same : (sets : List Set) (name value : List ℕ) → find (tree_of sets) (parts_of name) ≢ 0 → trie_of (sizes_of (sets ++ (name, value) ∷ [])) ≡ trie_of (sizes_of sets)
trie_same sets name value some =
    let trie : Trie = trie_of (sizes_of sets) in
    ap trie_of (sizes_end sets (name, value)) ∙ from_end (trie_of []) (sizes_of sets) (name, length value)
    ∙ ap (λ (b : Bool). if b then with_property trie (parts_of name) (cell_words (length value)) else trie) (ne_eqb (find trie.tree (parts_of name)) 0 some)

-- sets with the same trie
pub adding_same : (words : List ℕ) (sets sets' : List Set) (adding : Option Adding) → trie_of (sizes_of sets') ≡ trie_of (sizes_of sets) → AddingStands words sets adding → AddingStands words sets' adding
adding_same words sets sets' None same h = subst (λ (t : Trie). TrieStands words t.tree t.mark) (sym same) h
adding_same words sets sets' (Some a) same h =
    let free : Trie → ℕ = λ (t : Trie). t.mark + node_sizes (take a.linked (drop (depth t.tree (parts_of a.name)) (parts_of a.name))) in record {
      trie = subst (λ (t : Trie). TrieStands words (grown a.linked t.tree (parts_of a.name) t.mark) (free t)) (sym same) h.trie;
      spelt = subst (λ (t : Trie). (k : ℕ) → k < length a.fresh → get_or words (free t + k) 0 ≡ get_or a.fresh k 0) (sym same) h.spelt;
      inside = subst (λ (t : Trie). free t + length a.fresh ≤ length words) (sym same) h.inside;
    }

pub tree_same : (sets sets' : List Set) (adding : Option Adding) → trie_of (sizes_of sets') ≡ trie_of (sizes_of sets) → tree_now sets' adding ≡ tree_now sets adding
tree_same sets sets' None same = ap (λ (t : Trie). t.tree) same
tree_same sets sets' (Some a) same = ap (λ (t : Trie). grown a.linked t.tree (parts_of a.name) t.mark) same
