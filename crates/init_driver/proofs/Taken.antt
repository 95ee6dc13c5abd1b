-- What the calls of a machine leave, by what its desk and its readers did.
use Rattle.std.proofs.Common.{◌≡◌, All, ℕ, ◌+◌, ◌≤◌, Bool, true, false, ◌==◌, ◌||◌, List, [], ◌∷◌, ◌++◌, length, get_or, set, nat_lt, Option, Some, None, Result, Ok, Err, length-append, refl, sym, ap, ◌∙◌, subst, arith, ne_eqb}
use Rattle.std.specs.Result.{IfOk}
use Rattle.std.proofs.lemmas.List.{length-map}
use Rattle.atomic_table.specs.Seated.{TableId}
use Rattle.init_base.specs.declared.memory.NoMemory.{NoMemory}
use Rattle.init_core.specs.Core.{without_saved}
use Rattle.init_machine.specs.History.{after, inputs_of}
use Rattle.init_machine.specs.Orderly.{readings_in}
use Rattle.init_machine.specs.State.{Opening, first_state}
use Rattle.init_machine.specs.declared.input.Input.{Input}
use Rattle.init_machine.specs.declared.report.Entry.{Entry}
use Rattle.property_area.specs.Area.{out_seat}
use Rattle.property_area.specs.Readers.{handed}
use Rattle.property_area.specs.Seats.{Seated}
use Rattle.property_area.specs.declared.view.AreaView.{AreaView}
use Rattle.property_service.specs.Back.{ComesBackFrom}
use Rattle.property_service.specs.Ending.{HasReader, taking_all}
use Rattle.property_service.specs.Record.{log_of, recorded}
use Rattle.property_service.specs.Service.{Agrees, ServiceView, has_seat, next_entry, state_after}
use Rattle.init_driver.specs.Learning.{HasSameHistory}
use Rattle.init_driver.specs.Machine.{AllSeated, EachSeated, MachineView, StaysSo, entry_of, machine_of, step_of, told_to}
use Rattle.init_driver.specs.Seat.{readings_at}
use Rattle.init_driver.proofs.Machines.{TookEntry, all_kept, all_some, each_at, each_has, lines_same, lists_given, state_behind, told_taken}
use Rattle.init_driver.proofs.Places.{seated_end, told_end}

-- ---- an input

-- the machine took an input
pub record TakenSo (m n : MachineView) (i : Input) : Type 0 where
  pub config : n.config ≡ m.config
  pub policy : n.policy ≡ m.policy
  pub state : n.state ≡ (step_of m i).state
  pub opening : n.desk.opening ≡ m.desk.opening
  pub history : n.desk.history ≡ m.desk.history ++ entry_of i (step_of m i).lines ∷ []
  pub told : (who : ℕ) → told_to n.readers who ≡ told_to m.readers who

module _ (area : TableId) (s : ServiceView) (rs : List (Option Seated)) (k : ℕ) (reader : Seated) (h : AllSeated area s rs) (known : k ≤ length s.opening.config.domains)
    (at : Some reader ≡ get_or rs k (Some reader)) (t : ServiceView) where
  pub taken_so : (i : Input) (back : Seated) (spent : Bool) → TookEntry s t i → ComesBackFrom s.history (next_entry s i) reader back
      → TakenSo (machine_of s rs spent) (machine_of t (set (set rs k None) k (Some back)) false) i
  taken_so i back spent took comes = record {
    config = ap (λ (o : Opening). without_saved o.config) took.opening;
    policy = ap (λ (o : Opening). o.policy) took.opening;
    state = state_behind s t i took;
    opening = took.opening;
    history = took.history ∙ ap (λ (x : Entry). s.history ++ x ∷ []) (lines_same s i);
    told = told_taken area s rs k reader h known at (next_entry s i) back comes;
  }

  -- ---- a request

  pub stays_so : (spent spent' : Bool) (readers : List (Option Seated)) → HasSameHistory s t → StaysSo (machine_of s rs spent) (machine_of t readers spent')
  stays_so spent spent' readers same = record {
    config = ap (λ (o : Opening). without_saved o.config) same.opening;
    policy = ap (λ (o : Opening). o.policy) same.opening;
    state = λ j. state_after (record { opening = same.opening j; history = same.history j; seat = s.seat; spent = s.spent });
    opening = same.opening;
    history = same.history;
  }

-- ---- the readers enter

-- so many have entered
pub record Entered (area : TableId) (s t : ServiceView) (count : ℕ) (rs : List (Option Seated)) : Type 0 where
  pub each : EachSeated area s.opening 0 rs
  pub many : length rs ≡ count
  pub told : (who : ℕ) → told_to rs who ≡ []
  pub nobody : (who : ℕ) → count ≤ who → has_seat t.seat who ≡ false
  pub same : HasSameHistory s t
  pub ready : t.spent ≡ false

or_none : (a b : Bool) → a ≡ false → b ≡ false → (a || b) ≡ false
or_none true b h k = h
or_none false b h k = k

pub entered_none : (area : TableId) (s : ServiceView) → ((who : ℕ) → has_seat s.seat who ≡ false) → s.spent ≡ false → Entered area s s 0 []
entered_none area s nobody ready = record {
  each = tt;
  many = refl;
  told = λ who. refl;
  nobody = λ who past. nobody who;
  same = record { opening = refl; history = refl; ready = λ r. r };
  ready = ready;
}

pub entered_one : (area : TableId) (s t u : ServiceView) (count : ℕ) (rs : List (Option Seated)) (reader : Seated) → Entered area s t count rs
    → reader.table ≡ area → reader.view ≡ handed count t.seat → reader.view.list ≡ [] → reader.view.opening ≡ Some (recorded t.opening)
    → u.opening ≡ t.opening → u.history ≡ t.history → ((q : ℕ) → has_seat u.seat q ≡ (has_seat t.seat q || (count == q))) → u.spent ≡ false
    → Entered area s u (count + 1) (rs ++ Some reader ∷ [])
entered_one area s t u count rs reader h table view list opening same_opening same_history seats ready = record {
  each = seated_end area s.opening 0 rs reader h.each (record {
    table = table;
    who_is = ap (λ (v : AreaView). v.who) view ∙ (let at : count ≡ 0 + length rs = let many = h.many in omega arith in at);
    opening = opening ∙ ap (λ (o : Opening). Some (recorded o)) h.same.opening;
  });
  many = length-append rs (Some reader ∷ []) ∙ ap (λ n. n + 1) h.many;
  told = told_end rs reader h.told (ap readings_in list);
  nobody = λ who past.
      let other : (count ≡ who → ⊥) = λ e. absurd (omega arith) in
      seats who ∙ or_none (has_seat t.seat who) (count == who) (h.nobody who (omega arith)) (ne_eqb count who other);
  same = record { opening = same_opening ∙ h.same.opening; history = same_history ∙ h.same.history; ready = λ r. ready };
  ready = ready;
}

-- the machine that was opened over a desk without a history stands at its first state
pub first_of : (r : Result MachineView NoMemory) (s : ServiceView) (o : Opening) → IfOk r (λ m. HasSameHistory s m.desk)
    → IfOk r (λ m. m ≡ machine_of m.desk m.readers m.spent) → s.opening ≡ o → s.history ≡ [] → IfOk r (λ m. m.state ≡ first_state o)
first_of (Ok m) s o same fits opening empty =
    ap (λ (x : MachineView). x.state) fits ∙ (λ j. after ((same.opening ∙ opening) j) (inputs_of ((same.history ∙ empty) j)))
first_of (Err e) s o same fits opening empty = tt

-- nobody has a seat
pub none_seated : (v : AreaView) → v.out ≡ [] → (who : ℕ) → has_seat v who ≡ false
none_seated v none who = ap (λ out. nat_lt 0 (out_seat out who)) none

-- ---- the end

module _ (area : TableId) (s : ServiceView) (rs : List (Option Seated)) (readers : List Seated) (h : AllSeated area s rs) (all : all_some readers ≡ rs) where
  each_one : EachSeated area s.opening 0 (all_some readers)
  each_one = subst (EachSeated area s.opening 0) (sym all) h.each

  many_readers : length readers ≡ length s.opening.config.domains + 1
  many_readers = sym (length-map readers (λ (reader : Seated). Some reader)) ∙ ap (λ (l : List (Option Seated)). length l) all ∙ h.wide

  pub of_area : All (λ (reader : Seated). reader.table ≡ area) readers
  of_area = each_at area s.opening 0 readers each_one

  -- none of those that entered is missing
  pub none_missing : (who : ℕ) → who ≤ length s.opening.config.domains → HasReader readers who
  none_missing who known =
      let here : 0 + who ≡ who = omega arith in
      let many = many_readers in
      subst (HasReader readers) here (each_has area s.opening 0 readers who each_one (omega arith))

  pub ended_opening : Agrees s → (taking_all s.seat readers).opening ≡ Some (recorded s.opening)
  ended_opening agrees = (all_kept s.seat readers).1 ∙ agrees.opened

  pub ended_log : Agrees s → (taking_all s.seat readers).log ≡ log_of s.history
  ended_log agrees = (all_kept s.seat readers).0 ∙ agrees.log

  pub ended_told : (who : ℕ) → who ≤ length s.opening.config.domains → readings_at (taking_all s.seat readers) who ≡ told_to rs who
  ended_told who known =
      let here : who ≡ 0 + who = omega arith in
      let many = many_readers in
      ap (readings_at (taking_all s.seat readers)) here ∙ lists_given area s.opening s.seat 0 readers who each_one (omega arith)
      ∙ ap (λ (l : List (Option Seated)). told_to l who) all

-- a machine that is spent says nothing
pub spent_over : {P : Type 0} → true ≡ false → P
spent_over e = cc
