-- The load of the last serial, which tells a reading, keeps the rule of the one cell.
use Rattle.std.proofs.Common.{◌≡◌, ℕ, List, length, get_or, Some, None, sym, refl, ap, ◌∙◌, subst, arith}
use Rattle.atomic_table.specs.Table.{Me, Allows, keeps}
use Rattle.init_machine.specs.Serial.{top_byte, clean_serial}
use Rattle.init_machine.specs.Sets.{Set, LastSet}
use Rattle.init_machine.specs.declared.client.ClientItem.{ClientItem}
use Rattle.serial_value.specs.declared.view.CellView.{CellView}
use Rattle.serial_value.specs.declared.view.CellView.TheVariants.{Writer, Reader}
use Rattle.serial_value.specs.declared.one.OneView.{OneView}
use Rattle.serial_value.specs.Cell.{IsCopied, Ends}
use Rattle.serial_value.specs.World.{World}
use Rattle.serial_value.specs.One.{the_name, OneHolds, ViewHolds, done_of, serial_on, world_of, with_cell, noted, Linked}
use Rattle.serial_value.specs.impl_laws.OneFrame.{St, serial_in, reads}
use Rattle.serial_value.specs.impl_laws.OnePresent.{one_present}
use Rattle.serial_value.specs.impl_laws.Sets.{last_once}
use Rattle.serial_value.specs.impl_laws.Reads.{IsPresent, reader_ends}

module _ (s : St) (h : OneHolds s) where
  abbrev View : ℕ → CellView → List Set → List ClientItem → Type 0
  View id cell began list = ViewHolds (serial_in s) h.writer h.sets h.making id cell began list

  abbrev w : World
  w = world_of (serial_in s) h.sets h.making

  ended : (id : ℕ) (v : OneView) (name : List ℕ) (place : ℕ) → name ≡ the_name → View id v.cell v.began v.list
      → (cell : CellView) → IsCopied cell name place → View id cell v.began v.list
      → (u : OneView) × View id u.cell u.began u.list × Ends with_cell noted cell v name (serial_in s) u
  ended id v name place n whole (Writer sets None) copied known =
      let rest : done_of h.making ≡ 0 = ap done_of (sym known.2) in (
        v,
        whole,
        (
          refl,
          λ number value last.
              let there = subst (λ (x : List Set × List ℕ). LastSet x.0 (length x.0) x.1 number value) (λ j. (known.1 j, n j)) last in
              let same = last_once h.sets (length h.sets) the_name h.number number h.value value h.last there in
              h.cell.clean (omega arith) ∙ (λ j. clean_serial (top_byte (same.1 j)) (same.0 j)),
        ),
      )
  ended id v name place n whole (Writer sets (Some making)) copied known = (v, whole, refl)
  ended id v name place n whole (Reader number None) copied known = absurd copied
  ended id v name place n whole (Reader number (Some copying)) copied known =
      let is : the_name ≡ copying.name = sym n ∙ sym copied.0 in
      let e = reader_ends w number v.began v.list copying known.1 (subst (IsPresent w) is (one_present s h)) with_cell noted v copied.2 in
      let u = noted (with_cell v (Reader e.0 None)) e.1 in (
        u,
        (known.0, e.2),
        subst (λ (x : List ℕ × ℕ). Ends with_cell noted (Reader number (Some copying)) v x.0 x.1 u) (λ j. (copied.0 j, serial_on (serial_in s) (sym is j))) e.3,
      )

pub one_last : (key : List ℕ) (slots id : ℕ) (m : Me (Unit {0}) OneView) (name : List ℕ) (place : ℕ)
    → Linked m.0 name place → IsCopied m.0.cell name place
    → Allows OneHolds slots id m place (λ n. n) (λ n after. (after.1 ≡ m.1) × Ends with_cell noted m.0.cell m.0 name n after.0)
one_last key slots id m name place linked copied s h size here fits =
    let known = h.each id m.0 here in
    let b = ended s h id m.0 name place linked.0 known m.0.cell copied known in (
      b.0,
      keeps,
      tt,
      reads s h place id m.1 b.0 b.1,
      (refl, subst (λ (i : ℕ). Ends with_cell noted m.0.cell m.0 name (get_or s.words i 0) b.0) (sym linked.1) b.2),
    )
