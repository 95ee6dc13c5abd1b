-- A store at the backup or in a name's cell leaves the trie, the head and all other cells.
use Rattle.std.proofs.Common.{◌≡◌, ◌≢◌, ℕ, ◌+◌, ◌<◌, ◌≤◌, ◌⊎◌, List, [], length, get_or, set, Option, Some, None, sym, refl, ◌∙◌, subst, inl, inr, ⊎_elim, arith, get_or-set_other}
use mathlib.Core.Logic.{dite}
use native.Mathlib.Decide.{dec_lt}
use Rattle.init_machine.specs.Sets.{Set}
use Rattle.serial_value.specs.declared.view.Making.{Making}
use Rattle.serial_value.specs.Words.{body_size}
use Rattle.serial_value.specs.Cell.{name_of}
use Rattle.serial_value.specs.World.{Moved}
use Rattle.serial_value.specs.World.Moved.{stays}
use Rattle.serial_value.specs.One.{CellHolds, done_of, new_value}
use Rattle.serial_value.specs.impl_laws.Bodies.{twelve, short_size, cell_words_body}
use Rattle.serial_value.specs.impl_laws.Sets.{at_last_set}
use Rattle.property_trie.specs.Parts.{parts_of}
use Rattle.property_trie.specs.Tree.{Tree, Cell, find}
use Rattle.property_trie.specs.Places.{InCell}
use Rattle.property_trie.specs.TrieSteps.{tree_of}
use Rattle.property_trie.specs.Held.{TrieStands}
use Rattle.property_trie.proofs.Frames.{InNodes, nodes_take}
use Rattle.property_trie.proofs.Lies.{wide_cell}
use Rattle.property_area.specs.Area.{tree_now, cell_of, made_on, AddingStands, CellStands, MayMake, Moment, world_of, WordsHold}
use Rattle.property_area.specs.impl_laws.Making.{same_or_other, made_few, made_short}
use Rattle.property_area.specs.impl_laws.Trees.{mark_now, mark_high, now_stands, cell_now, adding_else, cell_lies, names_apart, word_else}

-- the word at i is none of the cell with this value
abbrev pub IsOutside : ℕ → List ℕ → ℕ → Type 0
IsOutside place value i = (i < place) ⊎ (place + 1 + body_size value ≤ i)

-- a store that isn't in the cell, nor in the backup while that is needed
pub cell_else : (words : List ℕ) (i n place number : ℕ) (value new : List ℕ) (done : ℕ) → done ≤ 25 → IsOutside place value i → ((k : ℕ) → k < body_size value → k < done → 4 + k ≢ i)
    → CellHolds words place number value new done → CellHolds (set words i n) place number value new done
cell_else words i n place number value new done few outside backup h =
    let wide = twelve value in
    let differs : (k : ℕ) → k < body_size value → place + 1 + k ≢ i = λ k inside e. ⊎_elim (λ low. omega arith) (λ high. omega arith) outside in
    let first : place ≢ i = λ e. ⊎_elim (λ low. omega arith) (λ high. omega arith) outside in record {
      clean = λ d. get_or-set_other words i place n 0 first ∙ h.clean d;
      dirty = λ d. get_or-set_other words i place n 0 first ∙ h.dirty d;
      backup = λ k short d. get_or-set_other words i (4 + k) n 0 (backup k short d) ∙ h.backup k short d;
      stored = λ k short d. get_or-set_other words i (place + 1 + k) n 0 (differs k (omega arith)) ∙ h.stored k short d;
      kept = λ k short d. get_or-set_other words i (place + 1 + k) n 0 (differs k short) ∙ h.kept k short d;
    }

-- a word that isn't in the cell of a name
pub cell_outside : (words : List ℕ) (sets : List Set) (making : Option Making) (q : List ℕ) (i : ℕ) → find (tree_of sets) (parts_of q) ≢ 0
    → (InCell (cell_of sets q) i → ⊥) → (c : CellStands words sets making q) → IsOutside (find (tree_of sets) (parts_of q)) c.value i
cell_outside words sets making q i some outside c =
    let place : ℕ = find (tree_of sets) (parts_of q) in
    let size : (cell_of sets q).words ≡ 1 + body_size c.value = c.sized ∙ cell_words_body c.value in
    dite (dec_lt i place) (λ low. inl low) (λ from. dite (dec_lt i (place + 1 + body_size c.value))
    (λ below. absurd (outside (omega arith, omega arith, omega arith)))
    (λ high. inr (omega arith)))

-- a name that isn't being updated
pub at_rest : (words : List ℕ) (place number : ℕ) (value : List ℕ) (made made' : Option Making) → made ≡ None → made' ≡ None
    → CellHolds words place number value (new_value made) (done_of made) → CellHolds words place number value (new_value made') (done_of made')
at_rest words place number value made made' none none' h =
    subst (λ (m : Option Making). CellHolds words place number value (new_value m) (done_of m)) (none ∙ sym none') h

-- a store that isn't in the cell of a name that isn't being updated
pub stands_else : (words : List ℕ) (i n : ℕ) (sets : List Set) (making making' : Option Making) (q : List ℕ) → find (tree_of sets) (parts_of q) ≢ 0
    → (InCell (cell_of sets q) i → ⊥) → made_on q making ≡ None → made_on q making' ≡ None
    → CellStands words sets making q → CellStands (set words i n) sets making' q
stands_else words i n sets making making' q some outside none none' c =
    let place : ℕ = find (tree_of sets) (parts_of q) in record {
      number = c.number;
      value = c.value;
      last = c.last;
      sized = c.sized;
      cell = at_rest (set words i n) place c.number c.value None (made_on q making') refl none'
          (cell_else words i n place c.number c.value [] 0 (omega arith) (cell_outside words sets making q i some outside c) (λ k short d. absurd (omega arith))
          (at_rest words place c.number c.value (made_on q making) None none refl c.cell));
    }

-- a store that isn't in the cell of a name, nor in the backup
pub stands_beside : (words : List ℕ) (i n : ℕ) (sets : List Set) (making : Option Making) (q : List ℕ) → MayMake sets making → find (tree_of sets) (parts_of q) ≢ 0
    → (InCell (cell_of sets q) i → ⊥) → ((k : ℕ) → k < 12 → 4 + k ≢ i)
    → CellStands words sets making q → CellStands (set words i n) sets making q
stands_beside words i n sets making q may some outside backup c =
    let place : ℕ = find (tree_of sets) (parts_of q) in record {
      number = c.number;
      value = c.value;
      last = c.last;
      sized = c.sized;
      cell = cell_else words i n place c.number c.value (new_value (made_on q making)) (done_of (made_on q making)) (made_few sets making q may)
          (cell_outside words sets making q i some outside c)
          (λ k inside d.
          let short = made_short sets making q may (omega arith) c.value (at_last_set sets (length sets) (omega arith) q c.number c.value c.last) in
          let size = short_size c.value short in
          backup k (omega arith)) c.cell;
    }

module _ (words : List ℕ) (m : Moment) (h : WordsHold words m) where
  abbrev tree : Tree
  tree = tree_now m.sets m.adding

  abbrev place_of : List ℕ → ℕ
  place_of q = find (tree_of m.sets) (parts_of q)

  pub now : TrieStands words (tree_now m.sets m.adding) (mark_now m.sets m.adding)
  now = now_stands words m.sets m.adding h.trie

  -- where the words of a name's cell lie
  pub own_lies : (q : List ℕ) (word : ℕ) → InCell (cell_of m.sets q) word → (16 ≤ word) × (word < mark_now m.sets m.adding) × (InNodes (tree_now m.sets m.adding) word → ⊥)
  own_lies q word is = cell_lies words tree (mark_now m.sets m.adding) now (parts_of q) word (subst (λ (c : Cell). InCell c word) (sym (cell_now m.sets m.adding (parts_of q))) is)

  -- a cell has at least the words of a short one
  pub own_wide : (q : List ℕ) → place_of q ≢ 0 → 13 ≤ (cell_of m.sets q).words
  own_wide q some = subst (λ (c : Cell). c.place ≢ 0 → 13 ≤ c.words) (cell_now m.sets m.adding (parts_of q)) (wide_cell tree (parts_of q) now.lies.wide) some

  -- its serial is another word than one that isn't in it
  pub serial_apart : (q : List ℕ) (i : ℕ) → (InCell (cell_of m.sets q) i → ⊥) → place_of q ≢ 0 → place_of q ≢ i
  serial_apart q i outside some e = let wide = own_wide q some in outside (omega arith, omega arith, omega arith)

  -- the bounds of a cell
  pub own_bounds : (q : List ℕ) → place_of q ≢ 0 → (16 ≤ place_of q) × (place_of q + 13 ≤ length words)
  own_bounds q some =
      let p : ℕ = place_of q in
      let wide = own_wide q some in
      let low = (own_lies q p (omega arith, omega arith, omega arith)).0 in
      let high = (own_lies q (p + 12) (omega arith, omega arith, omega arith)).1 in
      let room = now.room in
      (low, omega arith)

  pub cells_differ : (name q : List ℕ) (word : ℕ) → q ≢ name → InCell (cell_of m.sets name) word → InCell (cell_of m.sets q) word → ⊥
  cells_differ name q word other is is' =
      names_apart words tree (mark_now m.sets m.adding) now name q word other
      (subst (λ (c : Cell). InCell c word) (sym (cell_now m.sets m.adding (parts_of name))) is)
      (subst (λ (c : Cell). InCell c word) (sym (cell_now m.sets m.adding (parts_of q))) is')

  -- a store in the backup or in the name's cell
  module _ (name : List ℕ) (i n : ℕ) (touch : ((4 ≤ i) × (i < 16)) ⊎ InCell (cell_of m.sets name) i) where
    pub touch_low : 4 ≤ i
    touch_low = ⊎_elim (λ t. t.0) (λ t. let l = (own_lies name i t).0 in omega arith) touch

    pub touch_below : i < mark_now m.sets m.adding
    touch_below = ⊎_elim (λ t. let high = mark_high m.sets m.adding in let b = t.1 in omega arith) (λ t. (own_lies name i t).1) touch

    pub touch_no_node : InNodes tree i → ⊥
    touch_no_node is = ⊎_elim
        (λ (t : (4 ≤ i) × (i < 16)). let w = (now.lies.within i (nodes_take tree i is)).0 in let b = t.1 in absurd (omega arith))
        (λ t. (own_lies name i t).2 is)
        touch

    pub touch_other : (q : List ℕ) → q ≢ name → InCell (cell_of m.sets q) i → ⊥
    touch_other q other is = ⊎_elim
        (λ (t : (4 ≤ i) × (i < 16)). let l = (own_lies q i is).0 in let b = t.1 in absurd (omega arith))
        (λ t. cells_differ name q i other t is)
        touch

    pub touch_trie : AddingStands (set words i n) m.sets m.adding
    touch_trie = adding_else words m.sets m.adding i n h.trie (λ e. let l = touch_low in omega arith) touch_no_node touch_below

    pub touch_head : (j : ℕ) → j < 4 → get_or (set words i n) j 0 ≡ get_or words j 0
    touch_head j small = get_or-set_other words i j n 0 (λ e. let l = touch_low in omega arith)

    -- an update goes on, with the same sets
    module _ (making' : Option Making) (none : (q : List ℕ) → q ≢ name → made_on q m.making ≡ None) (none' : (q : List ℕ) → q ≢ name → made_on q making' ≡ None) where
      pub updates : MayMake m.sets making' → CellStands (set words i n) m.sets making' name → WordsHold (set words i n) (record m { making = making' })
      updates made own = record {
        few = h.few;
        legal = h.legal;
        fit = h.fit;
        head = touch_head 0 (omega arith) ∙ h.head;
        late = h.late;
        empty = (touch_head 2 (omega arith) ∙ h.empty.0, touch_head 3 (omega arith) ∙ h.empty.1);
        trie = touch_trie;
        made = made;
        cells = λ q some. ⊎_elim
            (λ (same : q ≡ name). subst (λ (x : List ℕ). CellStands (set words i n) m.sets making' x) (sym same) own)
            (λ (other : q ≢ name). stands_else words i n m.sets m.making making' q some (touch_other q other) (none q other) (none' q other) (h.cells q some))
            (same_or_other q name);
      }

      pub updates_later : ((q : List ℕ) → name_of m.making ≡ Some q → name_of making' ≡ Some q)
          → Moved (world_of words m) (world_of (set words i n) (record m { making = making' })) name
          → (q : List ℕ) → Moved (world_of words m) (world_of (set words i n) (record m { making = making' })) q
      updates_later kept moved q = ⊎_elim
          (λ (same : q ≡ name). subst (Moved (world_of words m) (world_of (set words i n) (record m { making = making' }))) (sym same) moved)
          (λ (other : q ≢ name). stays (word_else words i n (place_of q) (serial_apart q i (touch_other q other))) (λ k value above below e. omega arith))
          (same_or_other q name)
