-- A load tells what a reader was told.
use Rattle.std.proofs.Common.{◌≡◌, ℕ, List, get_or, Option, sym, refl, subst}
use mathlib.Core.Option.{some}
use lib.ListN.{get_elem?}
use lib.Seq.{set-get_or}
use Rattle.atomic_table.specs.Table.{State, Me, Allows, keeps, stepped}
use Rattle.atomic_table.proofs.Lists.{set_again}
use Rattle.init_machine.specs.Sets.{Set}
use Rattle.init_machine.specs.declared.client.ClientItem.{ClientItem}
use Rattle.serial_value.specs.declared.view.CellView.{CellView}
use Rattle.serial_value.specs.declared.view.CellView.TheVariants.{Writer, Reader}
use Rattle.serial_value.specs.Cell.{sets_of, making_of, IsWriter, ReaderStands}
use Rattle.serial_value.specs.History.{SomeHistory, FewRanks}
use Rattle.serial_value.proofs.Agains.{few_by_ranks, few_by_sets}

some_history : (sets : List Set) (making : Option (List ℕ)) (cell : CellView) (began : List Set) (list : List ClientItem)
    → ReaderStands sets making cell began list → SomeHistory cell began list × FewRanks cell began list
some_history sets making (Writer sets' making') began list stands = (tt, tt)
some_history sets making (Reader number copying) began list stands = (
  (sets, making, stands, λ name. few_by_sets sets making began list stands.2 name),
  λ name. few_by_ranks sets making began list stands.2 name,
)

module _ {V : Type 0} (holds : State (Unit {0}) V → Type 0) (cell : V → CellView) (began : V → List Set) (list : V → List ClientItem)
    (writer_there : (s : State (Unit {0}) V) → holds s → (writer : ℕ) × (w : V) × (get_elem? s.views writer ≡ some w) × IsWriter (cell w))
    (lists_stand : (s : State (Unit {0}) V) (writer seat : ℕ) (w v : V) → holds s → get_elem? s.views writer ≡ some w → IsWriter (cell w) → get_elem? s.views seat ≡ some v
    → ReaderStands (sets_of (cell w)) (making_of (cell w)) (cell v) (began v) (list v)) where
  -- a load that changes no view leaves the table as it is
  same_state : (s : State (Unit {0}) V) (id i : ℕ) (m : Me (Unit {0}) V) → get_elem? s.views id ≡ some m.0 → holds s → holds (stepped s i (get_or s.words i 0) id m.1 m.0 keeps)
  same_state s id i m here h =
      subst (λ (x : List ℕ × List V). holds record { words = x.0; homes = s.homes; views = x.1 }) (λ j. (sym (set-get_or s.words i 0) j, sym (set_again s.views id m.0 here) j)) h

  pub tells_history : (slots id : ℕ) (m : Me (Unit {0}) V) (i : ℕ)
      → Allows holds slots id m i (λ n. n) (λ n after. (after ≡ m) × SomeHistory (cell m.0) (began m.0) (list m.0) × FewRanks (cell m.0) (began m.0) (list m.0))
  tells_history slots id m i s h size here fits =
      let t = writer_there s h in
      let told = some_history (sets_of (cell t.1)) (making_of (cell t.1)) (cell m.0) (began m.0) (list m.0) (lists_stand s t.0 id t.1 m.0 h t.2 t.3 here) in
      (m.0, keeps, tt, same_state s id i m here h, (refl, told.0, told.1))
