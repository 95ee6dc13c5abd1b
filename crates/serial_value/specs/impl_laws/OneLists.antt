-- What readers at the one cell were told stands in the writer's sets.
use Rattle.std.proofs.Common.{◌≡◌, ℕ, List, Option, sym, ap, subst}
use mathlib.Core.Option.{some}
use lib.ListN.{get_elem?}
use Rattle.init_machine.specs.Sets.{Set}
use Rattle.init_machine.specs.declared.client.ClientItem.{ClientItem}
use Rattle.serial_value.specs.declared.view.CellView.{CellView}
use Rattle.serial_value.specs.declared.view.CellView.TheVariants.{Writer, Reader}
use Rattle.serial_value.specs.declared.one.OneView.{OneView}
use Rattle.serial_value.specs.Cell.{sets_of, name_of, making_of, IsWriter, ReaderStands}
use Rattle.serial_value.specs.One.{OneHolds, ViewHolds}
use Rattle.serial_value.specs.impl_laws.Places.{at_there}
use Rattle.serial_value.specs.impl_laws.OneFrame.{St, serial_in}

module _ (s : St) (h : OneHolds s) where
  abbrev View : ℕ → CellView → List Set → List ClientItem → Type 0
  View id cell began list = ViewHolds (serial_in s) h.writer h.sets h.making id cell began list

  writers_cell : (cell : CellView) (began : List Set) (list : List ClientItem) → View h.writer cell began list → IsWriter cell
  writers_cell (Writer sets making) began list v = tt
  writers_cell (Reader number copying) began list v = absurd (v.0 (λ i. h.writer))

  sets_known : (id : ℕ) (cell : CellView) (began : List Set) (list : List ClientItem) → IsWriter cell → View id cell began list
      → (h.sets ≡ sets_of cell) × (name_of h.making ≡ making_of cell)
  sets_known id (Writer sets making) began list is v = (sym v.1, ap name_of (sym v.2))
  sets_known id (Reader number copying) began list is v = absurd is

  reader_known : (id : ℕ) (cell : CellView) (began : List Set) (list : List ClientItem) → View id cell began list → ReaderStands h.sets (name_of h.making) cell began list
  reader_known id (Writer sets making) began list v = tt
  reader_known id (Reader number copying) began list v = (v.1.early, v.1.seen, v.1.holds.stands)

pub one_writer : (key : List ℕ) (s : St) → OneHolds s → (writer : ℕ) × (w : OneView) × (get_elem? s.views writer ≡ some w) × IsWriter w.cell
one_writer key s h =
    let t = at_there s.views h.writer h.there in
    (h.writer, t.0, t.1, writers_cell s h t.0.cell t.0.began t.0.list (h.each h.writer t.0 t.1))

pub one_lists : (key : List ℕ) (s : St) (writer seat : ℕ) (w v : OneView) → OneHolds s → get_elem? s.views writer ≡ some w → IsWriter w.cell → get_elem? s.views seat ≡ some v
    → ReaderStands (sets_of w.cell) (making_of w.cell) v.cell v.began v.list
one_lists key s writer seat w v h there is here =
    let known = sets_known s h writer w.cell w.began w.list is (h.each writer w there) in
    subst (λ (x : List Set × Option (List ℕ)). ReaderStands x.0 x.1 v.cell v.began v.list) (λ i. (known.0 i, known.1 i))
    (reader_known s h seat v.cell v.began v.list (h.each seat v here))
