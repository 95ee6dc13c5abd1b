-- The writer's stores before the clean serial keep the rule of the area.
use Rattle.std.proofs.Common.{◌≡◌, ◌≢◌, ℕ, zero, suc, ◌+◌, ◌<◌, ◌≤◌, ◌⊎◌, List, length, set, Option, Some, None, false, sym, refl, ap, ◌∙◌, subst, inl, inr, arith, length-set, get_or-set_other, get_or-set_same}
use Rattle.atomic_table.specs.Table.{Me, Allows, keeps, stepped}
use Rattle.init_machine.specs.Serial.{top_byte, clean_serial, dirty_serial, top_in, is_dirty}
use Rattle.init_machine.specs.Sets.{Set, LastSet}
use Rattle.serial_value.specs.declared.view.Making.{Making}
use Rattle.serial_value.specs.Words.{body_word, IsShortValue}
use Rattle.serial_value.specs.Cell.{sets_of, HasShortCell, name_of, update, updating, IsUpdating, IsPresentWord, IsPresentSerial}
use Rattle.serial_value.specs.World.{Moved}
use Rattle.serial_value.specs.World.Moved.{stays, dirtied}
use Rattle.serial_value.specs.One.{CellHolds, done_of, new_value}
use Rattle.serial_value.specs.impl_laws.Serials.{clean-is_clean}
use Rattle.serial_value.specs.impl_laws.Sets.{at_last_set}
use Rattle.serial_value.specs.impl_laws.Bodies.{short_size, short_top, cell_words_body}
use Rattle.serial_value.specs.impl_laws.CellWords.{cell_backup, cell_dirty, cell_value}
use Rattle.serial_value.specs.impl_laws.OneFrame.{done-update, new-update, name-update, name-update_later}
use Rattle.property_trie.specs.Parts.{parts_of}
use Rattle.property_trie.specs.Tree.{find}
use Rattle.property_trie.specs.Places.{InCell}
use Rattle.property_trie.specs.TrieSteps.{tree_of}
use Rattle.property_trie.proofs.Extending.{extends_self}
use Rattle.property_area.specs.declared.view.AreaView.{AreaView}
use Rattle.property_area.specs.Area.{tree_now, cell_of, made_on, word_at, CellStands, MayMake, Moment, world_of, WordsHold, ViewHolds, AreaHolds, with_cell, Linked, Settled}
use Rattle.property_area.specs.impl_laws.Making.{made_self, made_other}
use Rattle.property_area.specs.impl_laws.Present.{top_last}
use Rattle.property_area.specs.impl_laws.Trees.{find_now, word_is}
use Rattle.property_area.specs.impl_laws.Frame.{Mine, mine, clients_later, After, writes, goes_on}
use Rattle.property_area.specs.impl_laws.CellStores.{own_bounds, updates, updates_later}

-- an update that is under way is by a legal value
legal-update : (sets : List Set) (name value : List ℕ) (place done : ℕ) → 0 < done → MayMake sets (update name value place done) → IsShortValue value × HasShortCell sets name
legal-update sets name value place zero some_done made = absurd (omega arith)
legal-update sets name value place (suc done) some_done made = (made.2, made.3)

module _ (words : List ℕ) (m : Moment) (h : WordsHold words m) (id : ℕ) (v : AreaView) (view : ViewHolds words m id v) (name value : List ℕ) (place done : ℕ)
    (linked : Linked v name place) (is : IsUpdating v.cell name value place done) where
  pub known : Mine words m id v (sets_of v.cell) (update name value place done)
  known = mine words m id v (sets_of v.cell) (update name value place done) view is

  abbrev pub at : ℕ
  at = find (tree_of m.sets) (parts_of name)

  pub found : find (tree_of m.sets) (parts_of name) ≡ place
  found = sym (find_now m.sets m.adding (parts_of name)) ∙ (view.trie.known name place linked).1

  pub some : find (tree_of m.sets) (parts_of name) ≢ 0
  some = λ e. (view.trie.known name place linked).0 (sym found ∙ e)

  abbrev pub c : CellStands words m.sets m.making name
  c = h.cells name some

  pub none : (q : List ℕ) → q ≢ name → made_on q m.making ≡ None
  none q other = ap (made_on q) (sym known.making_is) ∙ made_other q name value place done other

  -- the cell as the writer knows it
  pub cell_known : CellHolds words at c.number c.value (new_value (update name value place done)) done
  cell_known =
      subst (λ (d : ℕ). CellHolds words at c.number c.value (new_value (update name value place done)) d) (done-update name value place done)
      (subst (λ (o : Option Making). CellHolds words at c.number c.value (new_value o) (done_of o)) (ap (made_on name) (sym known.making_is) ∙ made_self name value place done) c.cell)

  pub last_known : LastSet (sets_of v.cell) (length (sets_of v.cell)) name c.number c.value
  last_known = subst (λ (s : List Set). LastSet s (length s) name c.number c.value) (sym known.sets_are) c.last

  pub legal_known : 0 < done → IsShortValue value × HasShortCell m.sets name
  legal_known some_done = legal-update m.sets name value place done some_done (subst (MayMake m.sets) (sym known.making_is) h.made)

  pub name_known : 0 < done → name_of m.making ≡ Some name
  name_known some_done = ap name_of (sym known.making_is) ∙ name-update name value place done some_done

  made_next : (done' : ℕ) → IsShortValue value × HasShortCell m.sets name → done' ≤ 25 → MayMake m.sets (update name value place done')
  made_next zero legal few = tt
  made_next (suc d) legal few = (found, (view.trie.known name place linked).0, legal.0, legal.1, few)

  -- the value that is replaced is short
  pub short_last : HasShortCell m.sets name → length c.value ≤ 91
  short_last short = short c.value (at_last_set m.sets (length m.sets) (omega arith) name c.number c.value c.last)

  -- the cell isn't a long one
  pub short_serial : HasShortCell m.sets name → top_in (word_at words at) ≢ 255
  short_serial short top = short_top c.value (short_last short) (sym (top_last words m h name some) ∙ top)

  pub own_thirteen : HasShortCell m.sets name → (cell_of m.sets name).words ≡ 13
  own_thirteen short = let size = short_size c.value (short_last short) in c.sized ∙ cell_words_body c.value ∙ omega arith

  -- the serial is another word than the one that is stored
  pub serial_stays : (i n : ℕ) → at ≢ i → word_at (set words i n) at ≡ word_at words at
  serial_stays i n other = word_is (set words i n) at some ∙ (get_or-set_other words i at n 0 other ∙ sym (word_is words at some))

  module _ (done' i n : ℕ) (touch : ((4 ≤ i) × (i < 16)) ⊎ InCell (cell_of m.sets name) i) (some_done : 0 < done') (few : done' ≤ 25)
      (legal : IsShortValue value × HasShortCell m.sets name) where
    abbrev pub next : Option Making
    next = update name value place done'

    abbrev pub words' : List ℕ
    words' = set words i n

    abbrev pub m' : Moment
    m' = record m { making = next }

    none' : (q : List ℕ) → q ≢ name → made_on q next ≡ None
    none' q other = made_other q name value place done' other

    kept : (q : List ℕ) → name_of m.making ≡ Some q → name_of next ≡ Some q
    kept q e = name-update_later name value place done done' q some_done (ap name_of known.making_is ∙ e)

    own : CellHolds words' at c.number c.value (new_value next) done' → CellStands words' m.sets next name
    own cell = record {
      number = c.number;
      value = c.value;
      last = c.last;
      sized = c.sized;
      cell = subst (λ (o : Option Making). CellHolds words' at c.number c.value (new_value o) (done_of o)) (sym (made_self name value place done'))
          (subst (λ (d : ℕ). CellHolds words' at c.number c.value (new_value next) d) (sym (done-update name value place done')) cell);
    }

    pub after : CellHolds words' at c.number c.value (new_value next) done' → Moved (world_of words m) (world_of words' m') name → After words m words' m'
    after cell moved = record {
      wide = length-set words i n;
      holds = updates words m h name i n touch next none none' (made_next done' legal few) (own cell);
      later = goes_on words words' m next m.adding m.head kept (updates_later words m h name i n touch next none none' kept moved);
      extends = extends_self (tree_now m.sets m.adding);
      writer = refl;
      seats = refl;
      asked = λ seat v' a. a;
    }

    pub own_view : After words m words' m' → ViewHolds words' m' id (with_cell v (updating (sets_of v.cell) name value place done'))
    own_view a = record {
      width = view.width ∙ sym (length-set words i n);
      trie = view.trie;
      part = (
        known.writes,
        known.sets_are,
        refl,
        known.adding_is,
        known.head_is,
        clients_later (world_of words m) (world_of words' m') a.later v.clients known.clients,
        known.requests,
      );
    }

-- a word of the backup
pub area_backup : (key slots id : ℕ) (m : Me (Unit {0}) AreaView) (name value : List ℕ) (place k word : ℕ)
    → Settled m.0 → Linked m.0 name place → IsUpdating m.0.cell name value place k → k < 12 → IsShortValue value → HasShortCell (sets_of m.0.cell) name
    → IsPresentWord (sets_of m.0.cell) name k word
    → Allows AreaHolds slots id m (4 + k) (λ _. word) (λ _ after. after ≡ (with_cell m.0 (updating (sets_of m.0.cell) name value place (k + 1)), m.1))
area_backup key slots id m name value place k word settled linked is small legal short told s h size here fits =
    let words = s.words in
    let mo = h.moment in
    let v = m.0 in
    let view = h.each id v here in
    let cell = c words mo h.words id v view name value place k linked is in
    let p : ℕ = find (tree_of mo.sets) (parts_of name) in
    let bounds = own_bounds words mo h.words name (some words mo h.words id v view name value place k linked is) in
    let sets = sets_of v.cell in
    let right : word ≡ body_word cell.value k = told cell.value (at_last_set sets (length sets) (omega arith) name cell.number cell.value (last_known words mo h.words id v view name value place k linked is)) in
    let stored = subst (λ (x : ℕ). CellHolds (set words (4 + k) x) p cell.number cell.value (new_value (update name value place (k + 1))) (k + 1)) (sym right)
    (cell_backup words p cell.number cell.value (new_value (update name value place k)) bounds.0 bounds.1 (new_value (update name value place (k + 1))) k small
    (cell_known words mo h.words id v view name value place k linked is)) in
    let low = bounds.0 in
    let may : IsShortValue value × HasShortCell mo.sets name = (legal, subst (λ (x : List Set). HasShortCell x name) (known words mo h.words id v view name value place k linked is).sets_are short) in
    let a = after words mo h.words id v view name value place k linked is (k + 1) (4 + k) word (inl (omega arith, omega arith)) (omega arith) (omega arith) may stored
    (stays (serial_stays words mo h.words id v view name value place k linked is (4 + k) word (λ e. omega arith)) (λ j u above below e. omega arith)) in (
      with_cell v (updating sets name value place (k + 1)),
      keeps,
      tt,
      writes s h (4 + k) word id m.1 (record mo { making = update name value place (k + 1) }) (with_cell v (updating sets name value place (k + 1))) a
          (known words mo h.words id v view name value place k linked is).writes
          (own_view words mo h.words id v view name value place k linked is (k + 1) (4 + k) word (inl (omega arith, omega arith)) (omega arith) (omega arith) may a),
      refl,
    )

-- the dirty serial
pub area_dirty : (key slots id : ℕ) (m : Me (Unit {0}) AreaView) (name value : List ℕ) (place clean : ℕ)
    → Settled m.0 → Linked m.0 name place → IsUpdating m.0.cell name value place 12 → IsPresentSerial (sets_of m.0.cell) name clean
    → Allows AreaHolds slots id m place (λ _. dirty_serial clean) (λ _ after. after ≡ (with_cell m.0 (updating (sets_of m.0.cell) name value place 13), m.1))
area_dirty key slots id m name value place clean settled linked is told s h size here fits =
    let words = s.words in
    let mo = h.moment in
    let v = m.0 in
    let view = h.each id v here in
    let cell = c words mo h.words id v view name value place 12 linked is in
    let p : ℕ = find (tree_of mo.sets) (parts_of name) in
    let there = some words mo h.words id v view name value place 12 linked is in
    let bounds = own_bounds words mo h.words name there in
    let legal = legal_known words mo h.words id v view name value place 12 linked is (omega arith) in
    let sets = sets_of v.cell in
    let right : clean ≡ clean_serial (top_byte cell.value) cell.number = told cell.number cell.value (last_known words mo h.words id v view name value place 12 linked is) in
    let before = cell_known words mo h.words id v view name value place 12 linked is in
    let serial : word_at words p ≡ clean = word_is words p there ∙ before.clean (omega arith) ∙ sym right in
    let word = dirty_serial clean in
    let stored = subst (λ (x : ℕ). CellHolds (set words p (dirty_serial x)) p cell.number cell.value (new_value (update name value place 13)) 13) (sym right)
    (cell_dirty words p cell.number cell.value value bounds.0 bounds.1 (short_last words mo h.words id v view name value place 12 linked is legal.1) before) in
    let room = own_thirteen words mo h.words id v view name value place 12 linked is legal.1 in
    let low = bounds.0 in
    let high = bounds.1 in
    let touch : ((4 ≤ p) × (p < 16)) ⊎ InCell (cell_of mo.sets name) p = inr (omega arith, omega arith, omega arith) in
    let pure : is_dirty (word_at words p) ≡ false = ap is_dirty (serial ∙ right) ∙ clean-is_clean (top_byte cell.value) cell.number in
    let a = after words mo h.words id v view name value place 12 linked is 13 p word touch (omega arith) (omega arith) legal stored
    (dirtied (word_is (set words p word) p there ∙ get_or-set_same words p word 0 (omega arith) ∙ ap dirty_serial (sym serial)) pure
    (short_serial words mo h.words id v view name value place 12 linked is legal.1)) in
    let own = own_view words mo h.words id v view name value place 12 linked is 13 p word touch (omega arith) (omega arith) legal a in (
      with_cell v (updating sets name value place 13),
      keeps,
      tt,
      subst (λ (i : ℕ). AreaHolds (stepped s i word id m.1 (with_cell v (updating sets name value place 13)) keeps)) (found words mo h.words id v view name value place 12 linked is)
          (writes s h p word id m.1 (record mo { making = update name value place 13 }) (with_cell v (updating sets name value place 13)) a
          (known words mo h.words id v view name value place 12 linked is).writes own),
      refl,
    )

-- a word of the new value
pub area_value : (key slots id : ℕ) (m : Me (Unit {0}) AreaView) (name value : List ℕ) (place k : ℕ)
    → Settled m.0 → Linked m.0 name place → IsUpdating m.0.cell name value place (13 + k) → k < 12
    → Allows AreaHolds slots id m (place + 1 + k) (λ _. body_word value k) (λ _ after. after ≡ (with_cell m.0 (updating (sets_of m.0.cell) name value place (13 + k + 1)), m.1))
area_value key slots id m name value place k settled linked is small s h size here fits =
    let words = s.words in
    let mo = h.moment in
    let v = m.0 in
    let view = h.each id v here in
    let done : ℕ = 13 + k in
    let cell = c words mo h.words id v view name value place done linked is in
    let p : ℕ = find (tree_of mo.sets) (parts_of name) in
    let there = some words mo h.words id v view name value place done linked is in
    let bounds = own_bounds words mo h.words name there in
    let legal = legal_known words mo h.words id v view name value place done linked is (omega arith) in
    let sets = sets_of v.cell in
    let before : CellHolds words p cell.number cell.value value done =
    subst (λ (new : List ℕ). CellHolds words p cell.number cell.value new done) (new-update name value place done (omega arith)) (cell_known words mo h.words id v view name value place done linked is) in
    let word = body_word value k in
    let low = bounds.0 in
    let high = bounds.1 in
    let i : ℕ = p + 1 + k in
    let stored = subst (λ (new : List ℕ). CellHolds (set words i word) p cell.number cell.value new (done + 1)) (sym (new-update name value place (done + 1) (omega arith)))
    (cell_value words p cell.number cell.value value low high (short_last words mo h.words id v view name value place done linked is legal.1) k small before) in
    let room = own_thirteen words mo h.words id v view name value place done linked is legal.1 in
    let touch : ((4 ≤ i) × (i < 16)) ⊎ InCell (cell_of mo.sets name) i = inr (omega arith, omega arith, omega arith) in
    let a = after words mo h.words id v view name value place done linked is (done + 1) i word touch (omega arith) (omega arith) legal stored
    (stays (serial_stays words mo h.words id v view name value place done linked is i word (λ e. omega arith)) (λ j u above below e. omega arith)) in
    let own = own_view words mo h.words id v view name value place done linked is (done + 1) i word touch (omega arith) (omega arith) legal a in (
      with_cell v (updating sets name value place (done + 1)),
      keeps,
      tt,
      subst (λ (q : ℕ). AreaHolds (stepped s (q + 1 + k) word id m.1 (with_cell v (updating sets name value place (done + 1))) keeps)) (found words mo h.words id v view name value place done linked is)
          (writes s h i word id m.1 (record mo { making = update name value place (done + 1) }) (with_cell v (updating sets name value place (done + 1))) a
          (known words mo h.words id v view name value place done linked is).writes own),
      refl,
    )
