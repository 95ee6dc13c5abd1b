-- What the items of a client's requests say of its readings and its sets.
use Rattle.std.proofs.Common.{◌≡◌, ℕ, Bool, true, List, [], ◌∷◌, Some, None, if◌then◌else◌, refl, ap, ◌∙◌, eq-eqb}
use Rattle.std.specs.List.{cons_option, filter_map}
use Rattle.init_machine.specs.Orderly.{readings_in}
use Rattle.init_machine.specs.declared.client.ClientItem.{ClientItem}
use Rattle.init_machine.specs.declared.client.ClientItem.TheVariants.{Told, Asked}
use Rattle.init_machine.specs.declared.client.ClientRequest.{ClientRequest}
use Rattle.init_machine.specs.declared.config.Pair.{Pair}
use Rattle.init_machine.specs.declared.input.Input.{Input}
use Rattle.property_area.specs.Area.{requests_in}
use Rattle.property_service.specs.Service.{set_by as set_of}
use Rattle.script_lang.specs.Laws.{set_by, set_in}
use Rattle.script_lang.specs.declared.script.Ask.{Ask}
use Rattle.script_lang.specs.declared.script.Ask.TheVariants as ask
use Rattle.trace_audit.specs.Audited.{answer_all, list_of}
use Rattle.init_race.specs.Acting.{AreItemsOf}

-- the readings answer the requests
pub parts_answer : (who : ℕ) (asks : List Ask) (items : List ClientItem) → AreItemsOf who asks items → answer_all asks (readings_in items) ≡ true
parts_answer who [] [] fit = refl
parts_answer who [] (item ∷ items) fit = absurd fit
parts_answer who (one ∷ asks) [] fit = absurd fit
parts_answer who (ask.Set pair ∷ asks) (Asked request ∷ items) fit = parts_answer who asks items fit.1
parts_answer who (ask.Set pair ∷ asks) (Told reading ∷ items) fit = absurd fit.0
parts_answer who (ask.Read name ∷ asks) (Asked request ∷ items) fit = absurd fit.0
parts_answer who (ask.Read name ∷ asks) (Told reading ∷ items) fit = let one = fit.0 in rw one (parts_answer who asks items fit.1)
parts_answer who (ask.Sync ∷ asks) (Asked request ∷ items) fit = absurd fit.0
parts_answer who (ask.Sync ∷ asks) (Told reading ∷ items) fit = let one = fit.0 in rw one (parts_answer who asks items fit.1)
parts_answer who (ask.Catch ∷ asks) (Asked request ∷ items) fit = absurd fit.0
parts_answer who (ask.Catch ∷ asks) (Told reading ∷ items) fit = let one = fit.0 in rw one (parts_answer who asks items fit.1)

-- the list is that of the requests and the readings
pub parts_list : (who : ℕ) (asks : List Ask) (items : List ClientItem) → AreItemsOf who asks items
    → list_of asks (requests_in items) (readings_in items) ≡ items
parts_list who [] [] fit = refl
parts_list who [] (item ∷ items) fit = absurd fit
parts_list who (one ∷ asks) [] fit = absurd fit
parts_list who (ask.Set pair ∷ asks) (Asked request ∷ items) fit = ap (λ rest. Asked request ∷ rest) (parts_list who asks items fit.1)
parts_list who (ask.Set pair ∷ asks) (Told reading ∷ items) fit = absurd fit.0
parts_list who (ask.Read name ∷ asks) (Asked request ∷ items) fit = absurd fit.0
parts_list who (ask.Read name ∷ asks) (Told reading ∷ items) fit = ap (λ rest. Told reading ∷ rest) (parts_list who asks items fit.1)
parts_list who (ask.Sync ∷ asks) (Asked request ∷ items) fit = absurd fit.0
parts_list who (ask.Sync ∷ asks) (Told reading ∷ items) fit = ap (λ rest. Told reading ∷ rest) (parts_list who asks items fit.1)
parts_list who (ask.Catch ∷ asks) (Asked request ∷ items) fit = absurd fit.0
parts_list who (ask.Catch ∷ asks) (Told reading ∷ items) fit = ap (λ rest. Told reading ∷ rest) (parts_list who asks items fit.1)

-- what a request of the client sets
own_set : (who : ℕ) (pair : Pair) (i : Input) → i ≡ set_of who pair.name pair.value → set_by who i ≡ Some pair
own_set who pair i is =
    ap (set_by who) is ∙ ap (λ (mine : Bool). if mine then Some (record { name = pair.name; value = pair.value }) else None) (eq-eqb who who refl)

-- the sets among the requests are those of the part
pub parts_set : (who : ℕ) (asks : List Ask) (items : List ClientItem) → AreItemsOf who asks items
    → filter_map (λ (request : ClientRequest). set_by who request.input) (requests_in items) ≡ filter_map set_in asks
parts_set who [] [] fit = refl
parts_set who [] (item ∷ items) fit = absurd fit
parts_set who (one ∷ asks) [] fit = absurd fit
parts_set who (ask.Set pair ∷ asks) (Asked request ∷ items) fit =
    ap (λ o. cons_option o (filter_map (λ (request : ClientRequest). set_by who request.input) (requests_in items))) (own_set who pair request.input fit.0)
    ∙ ap (λ rest. pair ∷ rest) (parts_set who asks items fit.1)
parts_set who (ask.Set pair ∷ asks) (Told reading ∷ items) fit = absurd fit.0
parts_set who (ask.Read name ∷ asks) (Asked request ∷ items) fit = absurd fit.0
parts_set who (ask.Read name ∷ asks) (Told reading ∷ items) fit = parts_set who asks items fit.1
parts_set who (ask.Sync ∷ asks) (Asked request ∷ items) fit = absurd fit.0
parts_set who (ask.Sync ∷ asks) (Told reading ∷ items) fit = parts_set who asks items fit.1
parts_set who (ask.Catch ∷ asks) (Asked request ∷ items) fit = absurd fit.0
parts_set who (ask.Catch ∷ asks) (Told reading ∷ items) fit = parts_set who asks items fit.1
