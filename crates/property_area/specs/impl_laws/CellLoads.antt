-- The loads of a read keep the rule of the area.
use Rattle.std.proofs.Common.{◌≡◌, ◌≢◌, ℕ, ◌+◌, ◌<◌, List, [], ◌∷◌, ◌++◌, length, get_or, Option, Some, None, sym, refl, ap, ◌∙◌, subst, arith}
use Rattle.atomic_table.specs.Table.{Me, Allows, keeps}
use Rattle.init_machine.specs.Serial.{top_byte, clean_serial, top_in}
use Rattle.init_machine.specs.Sets.{Set, LastSet}
use Rattle.serial_value.specs.declared.view.Making.{Making}
use Rattle.serial_value.specs.declared.view.Copying.{Copying}
use Rattle.serial_value.specs.declared.view.CellView.{CellView}
use Rattle.serial_value.specs.declared.view.CellView.TheVariants.{Writer, Reader}
use Rattle.serial_value.specs.Words.{body_size, body_word}
use Rattle.serial_value.specs.Cell.{HasValue, Begins, LiesAt, IsLongLength, Copies, IsCopied, Ends, words_place, copy_size}
use Rattle.serial_value.specs.World.{World, CopyHolds}
use Rattle.serial_value.specs.One.{CellHolds, done_of, new_value}
use Rattle.serial_value.specs.impl_laws.Sets.{last_once, at_last_set}
use Rattle.serial_value.specs.impl_laws.Bodies.{twelve, long_size, length_word, long_by_top, next_in_body}
use Rattle.serial_value.specs.impl_laws.Reads.{IsPresent, reader_begins, reader_copies, reader_ends}
use Rattle.property_trie.specs.Parts.{parts_of}
use Rattle.property_trie.specs.Tree.{find}
use Rattle.property_trie.specs.TrieSteps.{tree_of}
use Rattle.property_area.specs.declared.view.AreaView.{AreaView}
use Rattle.property_area.specs.Area.{made_on, word_at, serial_in, CellStands, Moment, world_of, WordsHold, PartHolds, ViewHolds, AreaHolds, with_cell, noted, Linked}
use Rattle.property_area.specs.impl_laws.Trees.{find_now, word_is}
use Rattle.property_area.specs.impl_laws.Frame.{reads}
use Rattle.property_area.specs.impl_laws.Requests.{asked_told}
use Rattle.property_area.specs.impl_laws.Present.{c, number_small, legal_last, fits_last, inside_last, top_last, area_present, value_is, present_word}

-- the cell's part of a view holds beside the same other parts
part_with : (w : World) (m : Moment) (id : ℕ) (v : AreaView) (d cell : CellView) → PartHolds w m id cell v → PartHolds w m id cell (with_cell v d)
part_with w m id v d (Writer sets making) part = part
part_with w m id v d (Reader number copying) part = part

module _ (words : List ℕ) (m : Moment) (h : WordsHold words m) (id : ℕ) (v : AreaView) (name : List ℕ) (there : find (tree_of m.sets) (parts_of name) ≢ 0) where
  abbrev at : ℕ
  at = find (tree_of m.sets) (parts_of name)

  abbrev Part : CellView → Type 0
  Part cell = PartHolds (world_of words m) m id cell v

  abbrev cell_of : CellStands words m.sets m.making name
  cell_of = c words m h name there

  loaded : word_at words at ≡ get_or words at 0
  loaded = word_is words at there

  -- the cell, while no set is being made
  rests : m.making ≡ None → CellHolds words at cell_of.number cell_of.value [] 0
  rests none = subst (λ (o : Option Making). CellHolds words at cell_of.number cell_of.value (new_value (made_on name o)) (done_of (made_on name o))) none cell_of.cell

  pub begun : (cell : CellView) (place : ℕ) → at ≡ place → Part cell → (u : CellView) × Part u × Begins (length words) cell name place (get_or words at 0) u
  begun (Writer sets None) place p part = let rest = rests (sym part.2) in (
    Writer sets None,
    part,
    (
      refl,
      record {
        number = cell_of.number;
        value = cell_of.value;
        last = subst (λ (x : List Set). LastSet x (length x) name cell_of.number cell_of.value) (sym part.1) cell_of.last;
        legal = legal_last words m h name there;
        fits = fits_last words m h name there;
        inside = let i = inside_last words m h name there in omega arith;
        small = number_small words m h name there;
        serial = rest.clean (omega arith);
      },
    ),
  )
  begun (Writer sets (Some making)) place p part = (Writer sets (Some making), part, refl)
  begun (Reader number copying) place p part = let first : ℕ = word_at words at in (
    Reader number (Some (record { name = name; place = place; first = first; words = [] })),
    (part.0, reader_begins (world_of words m) number v.began v.list copying name place (area_present words m h name there) part.1, part.2),
    (λ i. Reader number (Some (record { name = name; place = place; first = loaded i; words = [] }))),
  )

  -- where the serial hasn't moved, the word that is loaded is the value's
  right_word : (number : ℕ) (copying : Copying) (i : ℕ) → copying.name ≡ name
      → CopyHolds (world_of words m) number v.list copying → length copying.words < copy_size copying.first copying.words
      → i ≡ words_place at copying.first + length copying.words
      → serial_in words m.sets copying.name ≡ copying.first → (value : List ℕ) → HasValue m.sets copying.name value
      → get_or words i 0 ≡ body_word value (length copying.words)
  right_word number copying i n c less is same value on =
      let first : word_at words at ≡ copying.first = ap (serial_in words m.sets) (sym n) ∙ same in
      let on' = subst (λ (q : List ℕ). HasValue m.sets q value) n on in
      let top : top_in copying.first ≡ top_byte value = ap top_in (sym first) ∙ (top_last words m h name there ∙ ap top_byte (value_is words m h name there value on')) in
      let small = next_in_body copying.first copying.words value top (c.whole same value on) less in
      ap (λ (j : ℕ). get_or words j 0) (is ∙ ap (λ (f : ℕ). words_place at f + length copying.words) (sym first))
      ∙ present_word words m h name there (length copying.words) value small on'

  -- the first word of a long cell is the length
  length_word_of : (number : ℕ) (copying : Copying) (k i : ℕ) → (n : copying.name ≡ name) → CopyHolds (world_of words m) number v.list copying
      → i ≡ words_place at copying.first + k → top_in copying.first ≡ 255 → k ≡ 0 → IsLongLength (length words) name at (get_or words i 0)
  length_word_of number copying k i n c is top none =
      let first : word_at words at ≡ copying.first = ap (serial_in words m.sets) (sym n) ∙ c.lasting top in
      let value = cell_of.value in
      let long : 91 < length value = long_by_top value (sym (top_last words m h name there) ∙ (ap top_in first ∙ top)) in
      let size = long_size value long in
      let inside = inside_last words m h name there in
      let t = twelve value in
      let there_is : get_or words i 0 ≡ length value =
      ap (λ (j : ℕ). get_or words j 0) (is ∙ (λ j. words_place at (sym first j) + none j))
      ∙ (present_word words m h name there 0 value (omega arith) (at_last_set m.sets (length m.sets) (omega arith) name cell_of.number value cell_of.last) ∙ length_word value long) in
      subst (λ (l : ℕ). IsLongLength (length words) name at l) (sym there_is) (record { long = long; fits = fits_last words m h name there; inside = omega arith })

  pub copied : (cell : CellView) (place k i : ℕ) → at ≡ place → LiesAt cell name place k i → Part cell
      → (u : CellView) × Part u × Copies (length words) cell name k (get_or words i 0) u
  copied (Writer sets None) place k i p lies part = let rest = rests (sym part.2) in (
    Writer sets None,
    part,
    (
      refl,
      λ value on.
          let same = value_is words m h name there value (subst (λ (x : List Set). HasValue x name value) part.1 on) in
          ap (λ (j : ℕ). get_or words j 0) (lies.0 ∙ ap (λ (q : ℕ). q + 1 + k) (sym p))
          ∙ (rest.kept k (subst (λ (x : List ℕ). k < body_size x) (sym same) (lies.1 value on)) (omega arith) ∙ ap (λ (x : List ℕ). body_word x k) same),
    ),
  )
  copied (Writer sets (Some making)) place k i p lies part = (Writer sets (Some making), part, refl)
  copied (Reader number None) place k i p lies part = absurd lies
  copied (Reader number (Some copying)) place k i p lies part =
      let word = get_or words i 0 in
      let c = part.1.copy in
      let less = subst (λ (j : ℕ). j < copy_size copying.first copying.words) (sym lies.2) lies.4 in
      let is : i ≡ words_place at copying.first + length copying.words = lies.3 ∙ (λ j. words_place (sym p j) copying.first + sym lies.2 j) in (
        Reader number (Some (record copying { words = copying.words ++ word ∷ [] })),
        (
          part.0,
          reader_copies (world_of words m) number v.began v.list copying part.1 word
              (λ same value on. right_word number copying i lies.0 c less is same value on),
          part.2,
        ),
        (
          refl,
          λ top none. subst (λ (q : ℕ). IsLongLength (length words) name q word) (p ∙ sym lies.1)
              (length_word_of number copying k i lies.0 c (lies.3 ∙ (λ j. words_place (sym p j) copying.first + k)) top none),
        ),
      )

  pub ended : (view : ViewHolds words m id v) (place : ℕ) (cell : CellView) → IsCopied cell name place → Part cell
      → (u : AreaView) × ViewHolds words m id u × Ends with_cell noted cell v name (get_or words at 0) u
  ended view place (Writer sets None) whole part = let rest = rests (sym part.2) in (
    v,
    view,
    (
      refl,
      λ number value last.
          let last' = subst (λ (x : List Set). LastSet x (length x) name number value) part.1 last in
          let same = last_once m.sets (length m.sets) name cell_of.number number cell_of.value value cell_of.last last' in
          rest.clean (omega arith) ∙ (λ j. clean_serial (top_byte (same.1 j)) (same.0 j)),
    ),
  )
  ended view place (Writer sets (Some making)) whole part = (v, view, refl)
  ended view place (Reader number None) whole part = absurd whole
  ended view place (Reader number (Some copying)) whole part =
      let is : name ≡ copying.name = sym whole.0 in
      let e = reader_ends (world_of words m) number v.began v.list copying part.1 (subst (IsPresent (world_of words m)) is (area_present words m h name there)) with_cell noted v whole.2 in
      let u = noted (with_cell v (Reader e.0 None)) e.1 in (
        u,
        record { width = view.width; trie = view.trie; part = (part.0, e.2, asked_told m id v e.1 part.2) },
        subst (λ (x : List ℕ × ℕ). Ends with_cell noted (Reader number (Some copying)) v x.0 x.1 u) (λ j. (whole.0 j, (ap (serial_in words m.sets) (sym is) ∙ loaded) j)) e.3,
      )

-- the place of a linked cell
module _ (words : List ℕ) (m : Moment) (id : ℕ) (v : AreaView) (view : ViewHolds words m id v) (name : List ℕ) (place : ℕ) (linked : Linked v name place) where
  pub linked_at : find (tree_of m.sets) (parts_of name) ≡ place
  linked_at = sym (find_now m.sets m.adding (parts_of name)) ∙ (view.trie.known name place linked).1

  pub linked_some : find (tree_of m.sets) (parts_of name) ≢ 0
  linked_some = λ e. (view.trie.known name place linked).0 (sym linked_at ∙ e)

pub area_first : (key slots id : ℕ) (m : Me (Unit {0}) AreaView) (name : List ℕ) (place : ℕ) → Linked m.0 name place
    → Allows AreaHolds slots id m place (λ n. n) (λ n after. (after ≡ (with_cell m.0 after.0.cell, m.1)) × Begins m.0.words m.0.cell name place n after.0.cell)
area_first key slots id m name place linked s h size here fits =
    let v = m.0 in
    let view = h.each id v here in
    let b = begun s.words h.moment h.words id v name (linked_some s.words h.moment id v view name place linked) v.cell place (linked_at s.words h.moment id v view name place linked) view.part in
    let w = with_cell v b.0 in (
      w,
      keeps,
      tt,
      reads s h place id m.1 w record { width = view.width; trie = view.trie; part = part_with (world_of s.words h.moment) h.moment id v b.0 b.0 b.1 },
      (refl, subst (λ (x : ℕ × ℕ). Begins x.0 v.cell name place (get_or s.words x.1 0) b.0) (λ j. (sym view.width j, linked_at s.words h.moment id v view name place linked j)) b.2),
    )

pub area_copied : (key slots id : ℕ) (m : Me (Unit {0}) AreaView) (name : List ℕ) (place k i : ℕ) → Linked m.0 name place → LiesAt m.0.cell name place k i
    → Allows AreaHolds slots id m i (λ n. n) (λ n after. (after ≡ (with_cell m.0 after.0.cell, m.1)) × Copies m.0.words m.0.cell name k n after.0.cell)
area_copied key slots id m name place k i linked lies s h size here fits =
    let v = m.0 in
    let view = h.each id v here in
    let b = copied s.words h.moment h.words id v name (linked_some s.words h.moment id v view name place linked) v.cell place k i (linked_at s.words h.moment id v view name place linked) lies view.part in
    let w = with_cell v b.0 in (
      w,
      keeps,
      tt,
      reads s h i id m.1 w record { width = view.width; trie = view.trie; part = part_with (world_of s.words h.moment) h.moment id v b.0 b.0 b.1 },
      (refl, subst (λ (x : ℕ). Copies x v.cell name k (get_or s.words i 0) b.0) (sym view.width) b.2),
    )

pub area_last : (key slots id : ℕ) (m : Me (Unit {0}) AreaView) (name : List ℕ) (place : ℕ) → Linked m.0 name place → IsCopied m.0.cell name place
    → Allows AreaHolds slots id m place (λ n. n) (λ n after. (after.1 ≡ m.1) × Ends with_cell noted m.0.cell m.0 name n after.0)
area_last key slots id m name place linked whole s h size here fits =
    let v = m.0 in
    let view = h.each id v here in
    let b = ended s.words h.moment h.words id v name (linked_some s.words h.moment id v view name place linked) view place v.cell whole view.part in (
      b.0,
      keeps,
      tt,
      reads s h place id m.1 b.0 b.1,
      (refl, subst (λ (i : ℕ). Ends with_cell noted v.cell v name (get_or s.words i 0) b.0) (linked_at s.words h.moment id v view name place linked) b.2),
    )
