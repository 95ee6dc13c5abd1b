-- The load of a word of a value keeps the rule of the one cell.
use Rattle.std.proofs.Common.{◌≡◌, ℕ, ◌+◌, ◌<◌, List, [], ◌∷◌, ◌++◌, length, get_or, Some, None, sym, refl, ap, ◌∙◌, subst, arith}
use Rattle.atomic_table.specs.Table.{Me, Allows, keeps}
use Rattle.init_machine.specs.Serial.{top_byte, top_in}
use Rattle.init_machine.specs.Sets.{Set}
use Rattle.init_machine.specs.declared.client.ClientItem.{ClientItem}
use Rattle.serial_value.specs.declared.view.Copying.{Copying}
use Rattle.serial_value.specs.declared.view.CellView.{CellView}
use Rattle.serial_value.specs.declared.view.CellView.TheVariants.{Writer, Reader}
use Rattle.serial_value.specs.declared.one.OneView.{OneView}
use Rattle.serial_value.specs.Words.{body_size, body_word}
use Rattle.serial_value.specs.Cell.{HasValue, LiesAt, Copies, words_place, copy_size}
use Rattle.serial_value.specs.World.{CopyHolds}
use Rattle.serial_value.specs.One.{the_name, the_place, OneHolds, ViewHolds, done_of, serial_on, world_of, with_cell, Linked}
use Rattle.serial_value.specs.impl_laws.OneFrame.{St, serial_in, reads}
use Rattle.serial_value.specs.impl_laws.OnePresent.{top_last, serial_short, value_is, present_word}
use Rattle.serial_value.specs.impl_laws.Bodies.{next_in_body}
use Rattle.serial_value.specs.impl_laws.Reads.{reader_copies}

module _ (s : St) (h : OneHolds s) where
  abbrev View : ℕ → CellView → List Set → List ClientItem → Type 0
  View id cell began list = ViewHolds (serial_in s) h.writer h.sets h.making id cell began list

  -- where the serial hasn't moved, the word that is loaded is the value's
  right_word : (number : ℕ) (list : List ClientItem) (copying : Copying) (i : ℕ) → copying.name ≡ the_name
      → CopyHolds (world_of (serial_in s) h.sets h.making) number list copying → length copying.words < copy_size copying.first copying.words
      → i ≡ words_place the_place copying.first + length copying.words
      → serial_on (serial_in s) copying.name ≡ copying.first → (value : List ℕ) → HasValue h.sets copying.name value
      → get_or s.words i 0 ≡ body_word value (length copying.words)
  right_word number list copying i n c less there same value at =
      let first : serial_in s ≡ copying.first = ap (serial_on (serial_in s)) (sym n) ∙ same in
      let has = subst (λ (q : List ℕ). HasValue h.sets q value) n at in
      let top : top_in copying.first ≡ top_byte value = ap top_in (sym first) ∙ (top_last s h ∙ ap top_byte (value_is s h value has)) in
      let small = next_in_body copying.first copying.words value top (c.whole same value at) less in
      ap (λ (j : ℕ). get_or s.words j 0) (there ∙ ap (λ (f : ℕ). words_place the_place f + length copying.words) (sym first))
      ∙ present_word s h (length copying.words) value small has

  copied : (id : ℕ) (cell : CellView) (began : List Set) (list : List ClientItem) (name : List ℕ) (place k i : ℕ)
      → name ≡ the_name → place ≡ the_place → LiesAt cell name place k i → View id cell began list
      → (c : CellView) × View id c began list × Copies 29 cell name k (get_or s.words i 0) c
  copied id (Writer sets None) began list name place k i n p lies v =
      let rest : done_of h.making ≡ 0 = ap done_of (sym v.2) in (
        Writer sets None,
        v,
        (
          refl,
          λ value at.
              let same = value_is s h value (subst (λ (x : List Set × List ℕ). HasValue x.0 x.1 value) (λ j. (v.1 j, n j)) at) in
              ap (λ (j : ℕ). get_or s.words j 0) (lies.0 ∙ ap (λ (q : ℕ). q + 1 + k) p)
              ∙ (h.cell.kept k (subst (λ (x : List ℕ). k < body_size x) (sym same) (lies.1 value at)) (omega arith) ∙ ap (λ (x : List ℕ). body_word x k) same),
        ),
      )
  copied id (Writer sets (Some making)) began list name place k i n p lies v = (Writer sets (Some making), v, refl)
  copied id (Reader number None) began list name place k i n p lies v = absurd lies
  copied id (Reader number (Some copying)) began list name place k i n p lies v =
      let word = get_or s.words i 0 in
      let c = v.1.copy in
      let there : i ≡ words_place the_place copying.first + length copying.words = lies.3 ∙ (λ j. words_place (p j) copying.first + sym lies.2 j) in (
        Reader number (Some (record copying { words = copying.words ++ word ∷ [] })),
        (
          v.0,
          reader_copies (world_of (serial_in s) h.sets h.making) number began list copying v.1 word
              (λ same value at. right_word number list copying i (lies.0 ∙ n) c (subst (λ (j : ℕ). j < copy_size copying.first copying.words) (sym lies.2) lies.4) there same value at),
        ),
        (refl, λ long none. absurd (serial_short s h (ap top_in (ap (serial_on (serial_in s)) (sym (lies.0 ∙ n)) ∙ c.lasting long) ∙ long))),
      )

pub one_copied : (key : List ℕ) (slots id : ℕ) (m : Me (Unit {0}) OneView) (name : List ℕ) (place k i : ℕ)
    → Linked m.0 name place → LiesAt m.0.cell name place k i
    → Allows OneHolds slots id m i (λ n. n) (λ n after. (after ≡ (with_cell m.0 after.0.cell, m.1)) × Copies 29 m.0.cell name k n after.0.cell)
one_copied key slots id m name place k i linked lies s h size here fits =
    let b = copied s h id m.0.cell m.0.began m.0.list name place k i linked.0 linked.1 lies (h.each id m.0 here) in
    let w = with_cell m.0 b.0 in
    (w, keeps, tt, reads s h i id m.1 w b.1, (refl, b.2))
