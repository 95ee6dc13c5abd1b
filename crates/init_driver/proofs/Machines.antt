-- The machine takes an input, and its client's reader comes back; and it ends.
use Rattle.std.proofs.Common.{◌≡◌, ◌≢◌, All, ℕ, zero, suc, ◌+◌, ◌<◌, ◌≤◌, inl, inr, Bool, false, ◌==◌, if◌then◌else◌, List, [], ◌∷◌, ◌++◌, length, get_or, set, map, Option, Some, None, refl, sym, ap, ◌∙◌, subst, arith, eq-eqb}
use Rattle.std.specs.List.{flat_map}
use Rattle.std.proofs.lemmas.List.{map-append}
use Rattle.std.proofs.lemmas.List.Elements.{All-cons, All-nil}
use Rattle.atomic_table.specs.Seated.{TableId}
use Rattle.init_core.specs.Core.{IsDeclared, without_saved}
use Rattle.init_machine.specs.Changes.{Change}
use Rattle.init_machine.specs.History.{after, inputs_of}
use Rattle.init_machine.specs.Orderly.{readings_in}
use Rattle.init_machine.specs.State.{Opening, first_state}
use Rattle.init_machine.specs.Step.{step}
use Rattle.init_machine.specs.declared.client.ClientItem.{ClientItem}
use Rattle.init_machine.specs.declared.client.ClientItem.TheVariants.{Asked, Told}
use Rattle.init_machine.specs.declared.client.ClientRequest.{ClientRequest}
use Rattle.init_machine.specs.declared.config.Config.{Config}
use Rattle.init_machine.specs.declared.input.Input.{Input}
use Rattle.init_machine.specs.declared.input.Input.TheVariants as input
use Rattle.init_machine.specs.declared.report.Entry.{Entry}
use Rattle.init_machine.specs.declared.report.Reading.{Reading}
use Rattle.machine_laws.proofs.Legal.{same_step}
use Rattle.property_area.specs.Area.{list_in}
use Rattle.property_area.specs.Readers.{asker_of, client_of, others_in}
use Rattle.property_area.specs.Seats.{Seated}
use Rattle.property_area.specs.declared.view.AreaView.{AreaView}
use Rattle.property_area.specs.declared.view.LogOpening.{LogOpening}
use Rattle.property_service.proofs.Clients.{list_behind, others_else}
use Rattle.property_service.specs.Back.{ComesBackFrom}
use Rattle.property_service.specs.Ending.{HasReader, taking_all}
use Rattle.property_service.specs.Record.{recorded}
use Rattle.property_service.specs.Service.{DeclaredIn, MayAsk, ServiceView, next_entry, state_after}
use Rattle.script_lang.specs.declared.script.Ask.{Ask}
use Rattle.init_driver.specs.Learning.{Learns}
use Rattle.init_driver.specs.Machine.{AllSeated, EachSeated, IsSeated, entry_of, told_to}
use Rattle.init_driver.specs.Readings.{readings_in as readings_told}
use Rattle.init_driver.specs.Seat.{readings_at, told_with}
use Rattle.init_driver.proofs.Courses.{after_more}
use Rattle.init_driver.proofs.Places.{returned_is, returned_many, seated_at, seated_put, told_returned, told_still}

-- ---- whose input it is

pub asker_known : (config : Config) (i : Input) → IsDeclared config i → asker_of i ≤ length config.domains
asker_known config input.Boot h = omega arith
asker_known config input.Next h = omega arith
asker_known config (input.Tick ms) h = omega arith
asker_known config (input.Exit name status) h = omega arith
asker_known config (input.File path content) h = omega arith
asker_known config (input.Set who name value) h = h.1

pub may_ask : (o : Opening) (opening : Option LogOpening) (i : Input) → opening ≡ Some (recorded o) → IsDeclared (without_saved o.config) i → MayAsk opening i
may_ask o opening input.Boot is h = tt
may_ask o opening input.Next is h = tt
may_ask o opening (input.Tick ms) is h = tt
may_ask o opening (input.Exit name status) is h = tt
may_ask o opening (input.File path content) is h = tt
may_ask o opening (input.Set who name value) is h = subst (λ (x : Option LogOpening). DeclaredIn x who.0) (sym is) h

-- ---- the state behind an input

-- the desk took an input
pub record TookEntry (s t : ServiceView) (i : Input) : Type 0 where
  pub opening : t.opening ≡ s.opening
  pub history : t.history ≡ s.history ++ next_entry s i ∷ []
  pub ready : t.spent ≡ false

pub lines_same : (s : ServiceView) (i : Input) → next_entry s i ≡ entry_of i (step (without_saved s.opening.config) s.opening.policy (state_after s) i).lines
lines_same s i = ap (λ (c : Change). entry_of i c.lines) (sym (same_step s.opening.config s.opening.policy [] (state_after s) i))

pub state_behind : (s t : ServiceView) (i : Input) → TookEntry s t i → state_after t ≡ (step (without_saved s.opening.config) s.opening.policy (state_after s) i).state
state_behind s t i took =
    let o = s.opening in
    (λ j. after (took.opening j) (inputs_of (took.history j)))
    ∙ ap (after o) (map-append (λ (e : Entry). e.input) s.history (next_entry s i ∷ []))
    ∙ after_more o.config o.policy (first_state o) (inputs_of s.history) (i ∷ [])
    ∙ ap (λ (c : Change). c.state) (sym (same_step o.config o.policy [] (state_after s) i))

-- ---- the readers

asked_more : (list : List ClientItem) (request : ClientRequest) → readings_in (list ++ Asked request ∷ []) ≡ readings_in list
asked_more [] request = refl
asked_more (Told told ∷ list) request = ap (λ (rs : List Reading). told ∷ rs) (asked_more list request)
asked_more (Asked first ∷ list) request = asked_more list request

-- each client has its place
pub within_seats : (area : TableId) (s : ServiceView) (rs : List (Option Seated)) (k : ℕ) → AllSeated area s rs → k ≤ length s.opening.config.domains → k < length rs
within_seats area s rs k h known = let wide = h.wide in omega arith

module _ (area : TableId) (s : ServiceView) (rs : List (Option Seated)) (k : ℕ) (reader : Seated) (h : AllSeated area s rs) (known : k ≤ length s.opening.config.domains)
    (at : Some reader ≡ get_or rs k (Some reader)) where
  pub within : k < length rs
  within = let wide = h.wide in omega arith

  pub seated_here : IsSeated area s.opening k reader
  seated_here = let zero_more : 0 + k ≡ k = omega arith in subst (λ n. IsSeated area s.opening n reader) zero_more (seated_at area s.opening 0 rs k reader h.each within at)

  -- it comes back
  pub seated_again : (t : ServiceView) (back : Seated) → t.opening ≡ s.opening → t.spent ≡ false → back.table ≡ reader.table → back.view.who ≡ reader.view.who
      → back.view.opening ≡ reader.view.opening → AllSeated area t (set (set rs k None) k (Some back))
  seated_again t back same ready table who opening =
      let is : IsSeated area s.opening k back =
      record { table = table ∙ seated_here.table; who_is = who ∙ seated_here.who_is; opening = opening ∙ seated_here.opening } in
      let zero_more : k ≡ 0 + k = omega arith in
      record {
        ready = ready;
        each =
            subst (λ (x : Opening × List (Option Seated)). EachSeated area x.0 0 x.1) (λ j. (sym same j, sym (returned_is rs k reader back within at) j))
            (seated_put area s.opening 0 rs k back h.each within (subst (λ n. IsSeated area s.opening n back) zero_more is));
        wide = returned_many rs k reader back within at ∙ h.wide ∙ ap (λ (o : Opening). length o.config.domains + 1) (sym same);
      }

  pub told_taken : (e : Entry) (back : Seated) → ComesBackFrom s.history e reader back → (q : ℕ) → told_to (set (set rs k None) k (Some back)) q ≡ told_to rs q
  told_taken e back comes = told_still rs k reader back within at (ap readings_in comes.list ∙ asked_more reader.view.list _)

  pub told_learned : (ask : Ask) (told : Option Reading) (back : Seated) → Learns s reader back ask told
      → (q : ℕ) → told_to (set (set rs k None) k (Some back)) q ≡ told_to rs q ++ (if k == q then flat_map told_with (readings_told told) else [])
  told_learned ask told back learns = told_returned rs k reader back within at (flat_map told_with (readings_told told)) learns.heard

-- ---- the end

abbrev pub all_some : List Seated → List (Option Seated)
all_some readers = map (λ (reader : Seated). Some reader) readers

pub each_at : (area : TableId) (o : Opening) (id : ℕ) (readers : List Seated) → EachSeated area o id (all_some readers) → All (λ (reader : Seated). reader.table ≡ area) readers
each_at area o id [] h = All-nil (λ (reader : Seated). reader.table ≡ area)
each_at area o id (r ∷ readers) h = All-cons (λ (reader : Seated). reader.table ≡ area) r readers h.0.table (each_at area o (id + 1) readers h.1)

pub each_has : (area : TableId) (o : Opening) (id : ℕ) (readers : List Seated) (k : ℕ) → EachSeated area o id (all_some readers) → k < length readers → HasReader readers (id + k)
each_has area o id [] k h within = absurd (omega arith)
each_has area o id (r ∷ readers) zero h within = let here : id ≡ id + 0 = omega arith in inl (h.0.who_is ∙ here)
each_has area o id (r ∷ readers) (suc k) h within =
    let there : id + 1 + k ≡ id + suc k = omega arith in
    inr (subst (HasReader readers) there (each_has area o (id + 1) readers k h.1 (omega arith)))

pub all_kept : (v : AreaView) (readers : List Seated) → ((taking_all v readers).log ≡ v.log) × ((taking_all v readers).opening ≡ v.opening)
all_kept v [] = (refl, refl)
all_kept v (r ∷ readers) = all_kept v readers

-- the list of each client is that of its reader
pub lists_given : (area : TableId) (o : Opening) (v : AreaView) (id : ℕ) (readers : List Seated) (k : ℕ) → EachSeated area o id (all_some readers) → k < length readers
    → readings_at (taking_all v readers) (id + k) ≡ told_to (all_some readers) k
lists_given area o v id [] k h within = absurd (omega arith)
lists_given area o v id (r ∷ readers) zero h within =
    let same : r.view.who ≡ id + 0 = let is = h.0.who_is in omega arith in
    ap (λ (b : Bool). readings_in (if b then r.view.list else list_in (others_in (taking_all v readers).clients r.view.who) (id + 0))) (eq-eqb r.view.who (id + 0) same)
lists_given area o v id (r ∷ readers) (suc k) h within =
    let there : id + 1 + k ≡ id + suc k = omega arith in
    let other : r.view.who ≢ id + suc k = λ e. let is = h.0.who_is in absurd (omega arith) in
    ap (λ (l : List ClientItem). readings_in l)
    (list_behind (client_of r.view) (others_in (taking_all v readers).clients r.view.who) (id + suc k) other
    ∙ others_else (taking_all v readers).clients r.view.who (id + suc k) other)
    ∙ ap (readings_at (taking_all v readers)) (sym there)
    ∙ lists_given area o v (id + 1) readers k h.1 (omega arith)
