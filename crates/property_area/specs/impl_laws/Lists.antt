-- What readers at the area were told stands in the writer's sets.
use Rattle.std.proofs.Common.{◌≡◌, ℕ, List, Option, sym, refl, ap, subst}
use mathlib.Core.Option.{some}
use lib.ListN.{get_elem?}
use Rattle.init_machine.specs.Sets.{Set}
use Rattle.serial_value.specs.declared.view.CellView.{CellView}
use Rattle.serial_value.specs.declared.view.CellView.TheVariants.{Writer, Reader}
use Rattle.serial_value.specs.Cell.{sets_of, name_of, making_of, IsWriter, ReaderStands}
use Rattle.serial_value.specs.impl_laws.Places.{at_there}
use Rattle.property_area.specs.declared.view.AreaView.{AreaView}
use Rattle.property_area.specs.Area.{Moment, world_of, PartHolds, AreaHolds}
use Rattle.property_area.specs.impl_laws.Frame.{St}

module _ (words : List ℕ) (m : Moment) (v : AreaView) where
  writers_cell : (id : ℕ) → id ≡ m.writer → (cell : CellView) → PartHolds (world_of words m) m id cell v → IsWriter cell
  writers_cell id is (Writer sets making) part = tt
  writers_cell id is (Reader number copying) part = absurd (part.0 is)

  pub sets_known : (id : ℕ) (cell : CellView) → IsWriter cell → PartHolds (world_of words m) m id cell v → (m.sets ≡ sets_of cell) × (name_of m.making ≡ making_of cell)
  sets_known id (Writer sets making) is part = (sym part.1, ap name_of (sym part.2))
  sets_known id (Reader number copying) is part = absurd is

  reader_known : (id : ℕ) (cell : CellView) → PartHolds (world_of words m) m id cell v → ReaderStands m.sets (name_of m.making) cell v.began v.list
  reader_known id (Writer sets making) part = tt
  reader_known id (Reader number copying) part = (part.1.early, part.1.seen, part.1.holds.stands)

pub area_writer : (key : ℕ) (s : St) → AreaHolds s → (writer : ℕ) × (w : AreaView) × (get_elem? s.views writer ≡ some w) × IsWriter w.cell
area_writer key s h =
    let m = h.moment in
    let t = at_there s.views m.writer h.there in
    (m.writer, t.0, t.1, writers_cell s.words m t.0 m.writer refl t.0.cell (h.each m.writer t.0 t.1).part)

pub area_lists : (key : ℕ) (s : St) (writer seat : ℕ) (w v : AreaView) → AreaHolds s → get_elem? s.views writer ≡ some w → IsWriter w.cell → get_elem? s.views seat ≡ some v
    → ReaderStands (sets_of w.cell) (making_of w.cell) v.cell v.began v.list
area_lists key s writer seat w v h there is here =
    let known = sets_known s.words h.moment w writer w.cell is (h.each writer w there).part in
    subst (λ (x : List Set × Option (List ℕ)). ReaderStands x.0 x.1 v.cell v.began v.list) (λ i. (known.0 i, known.1 i))
    (reader_known s.words h.moment v seat v.cell (h.each seat v here).part)
