-- How a desk ends: what its callers learn.
use Rattle.std.proofs.Common.{◌≡◌, ◌<◌, ◌+◌, ℕ, All, Bool, true, false, List, length, get_or, Result, Ok, Err, IfOk, OnOk, sym, ap, ◌∙◌, subst, arith}
use Rattle.std.proofs.lemmas.List.Elements.{All-weaker}
use Rattle.init_base.specs.declared.units.ClientId.{ClientId}
use Rattle.init_machine.specs.Sets.{Set}
use Rattle.property_area.specs.Area.{requests_of}
use Rattle.property_area.specs.Readers.{ClientStands, client_of}
use Rattle.property_area.specs.Seats.{Seated}
use Rattle.property_area.specs.declared.view.AreaView.{AreaView}
use Rattle.property_area.specs.declared.view.LogEntry.{LogEntry}
use Rattle.property_service.proofs.GivenBack.{missing_where, none_missing, within_seats}
use Rattle.property_service.specs.Ending.{HasItsPart, HasPart, IsFirstMissing, IsMissing, taking_all}
use Rattle.property_service.specs.Service.{Agrees, ServiceView, has_seat, recorded_service}

pub if_ok : {T E : Type 0} (P Q : T → Type 0) (r : Result T E) → ((x : T) → P x → Q x) → IfOk r P → IfOk r Q
if_ok P Q (Ok x) step holds = step x holds
if_ok P Q (Err e) step holds = tt

pub on_ok : {T E : Type 0} (P Q : Type 0) (r : Result T E) → (P → Q) → OnOk r P → OnOk r Q
on_ok P Q (Ok x) step holds = step holds
on_ok P Q (Err e) step holds = tt

pub on_each : {T E : Type 0} (P : Type 0) (r : Result T E) → P → OnOk r P
on_each P (Ok x) holds = holds
on_each P (Err e) holds = tt

pub holds_at : {T E : Type 0} (P : Type 0) (r : Result T E) (x : T) → r ≡ Ok x → OnOk r P → P
holds_at {T} {E} P r x is holds = subst (λ (a : Result T E). OnOk a P) is holds

pub through : {T C E : Type 0} (A : T → Type 0) (B : T → C) (P : Type 0) (r : Result T E) (closed : Result C E)
    → IfOk r (λ (x : T). A x × (closed ≡ Ok (B x))) → OnOk closed P → OnOk r P
through A B P (Ok x) closed made holds = holds_at P closed (B x) made.1 holds
through A B P (Err e) closed made holds = tt

pub never : (P : Type 0) → false ≡ true → P
never P e = absurd (cc)

-- the first client that is noted to have a seat
pub first_noted : (seats seats' : List Bool) (left : AreaView) (first who : ClientId) → ((q : ℕ) → get_or seats' q false ≡ has_seat left q) → length seats' ≡ length seats
    → get_or seats' first.0 false ≡ true → ((q : ℕ) → q < first.0 → get_or seats' q false ≡ false) → first ≡ who
    → (has_seat left who.0 ≡ true) × ((q : ℕ) → q < who.0 → has_seat left q ≡ false) × (who.0 < length seats)
first_noted seats seats' left first who noted wide here earlier same =
    let within = within_seats seats' first.0 here in
    let below : first.0 < length seats = omega arith in
    let P : ClientId → Type 0 = λ x. (has_seat left x.0 ≡ true) × ((q : ℕ) → q < x.0 → has_seat left q ≡ false) × (x.0 < length seats) in
    subst P same (sym (noted first.0) ∙ here, λ q less. sym (noted q) ∙ earlier q less, below)

module _ (v : AreaView) (readers : List Seated) (seats : List Bool) (agrees : Agrees (recorded_service v false)) (wide : length seats ≡ length (recorded_service v false).opening.config.domains + 1) where
  abbrev s : ServiceView
  s = recorded_service v false

  pub own_parts : All (HasPart v) readers → All (HasItsPart s) readers
  own_parts = All-weaker (HasPart v) (HasItsPart s) (λ r part. record {
    opening = part.opening ∙ agrees.opened;
    asked = part.asked ∙ ap (λ (log : List LogEntry). requests_of r.view.who log) agrees.log;
    stands = subst (λ (sets : List Set). ClientStands sets (client_of r.view)) agrees.sets part.stands;
  }) readers

  pub none_lacks : ((q : ℕ) → has_seat (taking_all v readers) q ≡ false) → (q : ℕ) → ¬ IsMissing s readers q
  none_lacks free q = none_missing v readers q (free q)

  pub first_lacks : (who : ClientId) → (has_seat (taking_all v readers) who.0 ≡ true) × ((q : ℕ) → q < who.0 → has_seat (taking_all v readers) q ≡ false) × (who.0 < length seats)
      → IsFirstMissing s readers who
  first_lacks who found =
      let below = found.2 in (
        missing_where v readers who.0 found.0,
        λ q less. none_missing v readers q (found.1 q less),
        omega arith,
      )
