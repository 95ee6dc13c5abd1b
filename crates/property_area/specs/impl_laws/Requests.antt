-- The requests in a list, and in the log.
use Rattle.std.proofs.Common.{◌≡◌, ◌≢◌, ℕ, List, [], ◌∷◌, ◌++◌, Bool, true, false, ◌==◌, if◌then◌else◌, refl, ap, ◌∙◌, ne_eqb, eq-eqb}
use Rattle.init_machine.specs.declared.report.Reading.{Reading}
use Rattle.init_machine.specs.declared.client.ClientItem.{ClientItem}
use Rattle.init_machine.specs.declared.client.ClientItem.TheVariants.{Told, Asked}
use Rattle.init_machine.specs.declared.client.ClientRequest.{ClientRequest}
use Rattle.property_area.specs.declared.view.LogEntry.{LogEntry}
use Rattle.property_area.specs.declared.view.AreaView.{AreaView}
use Rattle.property_area.specs.Area.{requests_in, requests_of, Moment, AskedHolds, noted}

pub requests_told : (list : List ClientItem) (reading : Reading) → requests_in (list ++ Told reading ∷ []) ≡ requests_in list
requests_told [] reading = refl
requests_told (Told r ∷ list) reading = requests_told list reading
requests_told (Asked q ∷ list) reading = ap (λ (qs : List ClientRequest). q ∷ qs) (requests_told list reading)

pub requests_asked : (list : List ClientItem) (request : ClientRequest) → requests_in (list ++ Asked request ∷ []) ≡ requests_in list ++ request ∷ []
requests_asked [] request = refl
requests_asked (Told r ∷ list) request = requests_asked list request
requests_asked (Asked q ∷ list) request = ap (λ (qs : List ClientRequest). q ∷ qs) (requests_asked list request)

-- one more entry of the log
pub requests_own : (log : List LogEntry) (e : LogEntry) → requests_of e.who (log ++ e ∷ []) ≡ requests_of e.who log ++ e.request ∷ []
requests_own [] e = ap (λ (b : Bool). if b then e.request ∷ [] else []) (eq-eqb e.who e.who refl)
requests_own (x ∷ log) e =
    elim (x.who == e.who) as (λ b. (if b then x.request ∷ requests_of e.who (log ++ e ∷ []) else requests_of e.who (log ++ e ∷ []))
    ≡ (if b then x.request ∷ requests_of e.who log else requests_of e.who log) ++ e.request ∷ []) [
      | true ↦ ap (λ (qs : List ClientRequest). x.request ∷ qs) (requests_own log e)
      | false ↦ requests_own log e
    ]

pub requests_other : (log : List LogEntry) (e : LogEntry) (q : ℕ) → e.who ≢ q → requests_of q (log ++ e ∷ []) ≡ requests_of q log
requests_other [] e q other = ap (λ (b : Bool). if b then e.request ∷ [] else []) (ne_eqb e.who q other)
requests_other (x ∷ log) e q other =
    elim (x.who == q) as (λ b. (if b then x.request ∷ requests_of q (log ++ e ∷ []) else requests_of q (log ++ e ∷ [])) ≡ (if b then x.request ∷ requests_of q log else requests_of q log)) [
      | true ↦ ap (λ (qs : List ClientRequest). x.request ∷ qs) (requests_other log e q other)
      | false ↦ requests_other log e q other
    ]

-- a reader is told something
pub asked_told : (m : Moment) (seat : ℕ) (v : AreaView) (reading : Reading) → AskedHolds m seat v → AskedHolds m seat (noted v reading)
asked_told m seat v reading h live = let a = h live in (a.0, a.1, requests_told v.list reading ∙ a.2)
