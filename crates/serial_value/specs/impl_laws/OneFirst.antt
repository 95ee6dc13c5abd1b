-- The load of the first serial keeps the rule of the one cell.
use Rattle.std.proofs.Common.{◌≡◌, ℕ, List, [], length, get_or, Some, None, sym, refl, ap, subst, arith}
use Rattle.atomic_table.specs.Table.{Me, Allows, keeps}
use Rattle.init_machine.specs.Sets.{Set, LastSet}
use Rattle.init_machine.specs.declared.client.ClientItem.{ClientItem}
use Rattle.serial_value.specs.declared.view.CellView.{CellView}
use Rattle.serial_value.specs.declared.view.CellView.TheVariants.{Writer, Reader}
use Rattle.serial_value.specs.declared.one.OneView.{OneView}
use Rattle.serial_value.specs.Cell.{Begins}
use Rattle.serial_value.specs.One.{the_name, the_place, OneHolds, ViewHolds, done_of, world_of, with_cell, Linked}
use Rattle.serial_value.specs.impl_laws.OneFrame.{St, serial_in, reads}
use Rattle.serial_value.specs.impl_laws.OnePresent.{number_small, short_last, legal_last, size_last, one_present}
use Rattle.serial_value.specs.impl_laws.Reads.{reader_begins}

module _ (s : St) (h : OneHolds s) where
  abbrev View : ℕ → CellView → List Set → List ClientItem → Type 0
  View id cell began list = ViewHolds (serial_in s) h.writer h.sets h.making id cell began list

  begun : (id : ℕ) (cell : CellView) (began : List Set) (list : List ClientItem) (place : ℕ) → place ≡ the_place → View id cell began list
      → (c : CellView) × View id c began list × Begins 29 cell the_name place (serial_in s) c
  begun id (Writer sets None) began list place p v =
      let rest : done_of h.making ≡ 0 = ap done_of (sym v.2) in (
        Writer sets None,
        v,
        (
          refl,
          record {
            number = h.number;
            value = h.value;
            last = subst (λ (x : List Set). LastSet x (length x) the_name h.number h.value) (sym v.1) h.last;
            legal = legal_last s h;
            fits = (short_last s h).short;
            inside = let size = size_last s h in omega arith;
            small = number_small s h;
            serial = h.cell.clean (omega arith);
          },
        ),
      )
  begun id (Writer sets (Some making)) began list place p v = (Writer sets (Some making), v, refl)
  begun id (Reader number copying) began list place p v = (
    Reader number (Some (record { name = the_name; place = place; first = serial_in s; words = [] })),
    (v.0, reader_begins (world_of (serial_in s) h.sets h.making) number began list copying the_name place (one_present s h) v.1),
    refl,
  )

pub one_first : (key : List ℕ) (slots id : ℕ) (m : Me (Unit {0}) OneView) (name : List ℕ) (place : ℕ)
    → Linked m.0 name place
    → Allows OneHolds slots id m place (λ n. n) (λ n after. (after ≡ (with_cell m.0 after.0.cell, m.1)) × Begins 29 m.0.cell name place n after.0.cell)
one_first key slots id m name place linked s h size here fits =
    let b = begun s h id m.0.cell m.0.began m.0.list place linked.1 (h.each id m.0 here) in
    let w = with_cell m.0 b.0 in (
      w,
      keeps,
      tt,
      reads s h place id m.1 w b.1,
      (
        refl,
        subst (λ (x : ℕ × List ℕ). Begins 29 m.0.cell x.1 place (get_or s.words x.0 0) b.0) (λ i. (sym linked.1 i, sym linked.0 i)) b.2,
      ),
    )
