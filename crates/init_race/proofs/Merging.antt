-- The history of a race merges the script's parts.
use Rattle.std.proofs.Common.{◌≡◌, ℕ, zero, suc, ◌+◌, ◌<◌, ◌≤◌, inl, inr, Bool, ◌==◌, List, [], ◌∷◌, length, map, filter, Option, Some, None, if◌then◌else◌, refl, sym, ap, ◌∙◌, subst, arith, ne_eqb}
use Rattle.std.specs.List.{cons_option, filter_map}
use Rattle.std.proofs.lemmas.Bool.Decides.{leb_tells}
use Rattle.init_driver.specs.Run.{AsksAreMet}
use Rattle.init_machine.specs.History.{inputs_of}
use Rattle.init_machine.specs.declared.client.ClientRequest.{ClientRequest}
use Rattle.init_machine.specs.declared.config.Config.{Config}
use Rattle.init_machine.specs.declared.config.Pair.{Pair}
use Rattle.init_machine.specs.declared.input.Input.{Input}
use Rattle.init_machine.specs.declared.input.Input.TheVariants as input
use Rattle.init_machine.specs.declared.report.Entry.{Entry}
use Rattle.property_area.specs.Area.{requests_in, requests_of}
use Rattle.property_area.specs.Seats.{Seated}
use Rattle.property_service.specs.Record.{log_of}
use Rattle.property_service.specs.Service.{Agrees, EachDeclared, ServiceView}
use Rattle.run_laws.proofs.Merged.{no_part, part_is}
use Rattle.script_lang.specs.Inputs.{Parts, part_of}
use Rattle.script_lang.specs.Laws.{set_by, set_in}
use Rattle.script_lang.specs.Merges.{Merges, is_main}
use Rattle.script_lang.specs.declared.script.Script.{Script}
use Rattle.init_race.specs.Acting.{inputs_in}
use Rattle.init_race.specs.internal.Ended.{EachDone, IsDone, IsMainDone}
use Rattle.init_race.specs.declared.actors.Acted.{Acted}
use Rattle.init_race.proofs.Parts.{parts_set}
use Rattle.init_race.proofs.Records.{first_input, inputs_are, sets_are}

-- no set is of a number that no client has
not_set : (n who : ℕ) (other : ℕ) (pair : Pair) → (1 ≤ who → who ≤ n → ⊥) → 1 ≤ other → other ≤ n → (if other == who then Some pair else None) ≡ None
not_set n who other pair outside first last =
    ap (λ (b : Bool). if b then Some pair else None) (ne_eqb other who (λ is. let same : other ≡ who = is in outside (omega arith) (omega arith)))

none_set : (config : Config) (who : ℕ) (inputs : List Input) → (1 ≤ who → who ≤ length config.domains → ⊥) → EachDeclared config inputs
    → filter_map (set_by who) inputs ≡ []
none_set config who [] outside declared = refl
none_set config who (input.Boot ∷ inputs) outside declared = none_set config who inputs outside declared.1
none_set config who (input.Next ∷ inputs) outside declared = none_set config who inputs outside declared.1
none_set config who (input.Tick ms ∷ inputs) outside declared = none_set config who inputs outside declared.1
none_set config who (input.Exit name status ∷ inputs) outside declared = none_set config who inputs outside declared.1
none_set config who (input.File path content ∷ inputs) outside declared = none_set config who inputs outside declared.1
none_set config who (input.Set other name value ∷ inputs) outside declared =
    ap (λ (o : Option Pair). cons_option o (filter_map (set_by who) inputs))
    (not_set (length config.domains) who other.0 (record { name = name; value = value }) outside declared.0.0 declared.0.1)
    ∙ none_set config who inputs outside declared.1

-- the client at a place
done_at : (script : Script) (s : ServiceView) (who : ℕ) (acted : List Acted) (k : ℕ) → k < length acted → EachDone script s who acted
    → (one : Acted) × IsDone script s (who + k) one
done_at script s who [] k within each = absurd (omega arith)
done_at script s who (one ∷ rest) zero within each = (one, let e : who ≡ who + 0 = omega arith in subst (λ n. IsDone script s n one) e each.0)
done_at script s who (one ∷ rest) (suc k) within each =
    let found = done_at script s (who + 1) rest k (omega arith) each.1 in
    (found.0, let e : who + 1 + k ≡ who + suc k = omega arith in subst (λ n. IsDone script s n found.0) e found.1)

-- a client that is through has set in the history what its part sets
sets_of_client : (script : Script) (s : ServiceView) (k : ℕ) (one : Acted) → IsDone script s (suc k) one
    → filter_map (set_by (suc k)) (inputs_of s.history) ≡ filter_map set_in (part_of (suc k) script)
sets_of_client script s k one done =
    let asked : requests_in one.reader.view.list ≡ requests_of (suc k) (log_of s.history) =
    done.has.asked ∙ ap (λ who. requests_of who (log_of s.history)) done.client in
    sets_are k 0 0 s.history
    ∙ ap (filter_map (λ (r : ClientRequest). set_by (suc k) r.input)) (sym asked)
    ∙ parts_set (suc k) (part_of (suc k) script) one.reader.view.list done.part.0

sets_of_all : (script : Script) (s : ServiceView) (acted : List Acted) (who : ℕ) → AsksAreMet script → Agrees s → EachDone script s 1 acted
    → length acted ≡ length script.clients → length script.clients ≡ length s.opening.config.domains
    → filter_map (set_by who) (inputs_of s.history) ≡ filter_map set_in (part_of who script)
sets_of_all script s acted zero met agrees each many wide =
    none_set s.opening.config zero (inputs_of s.history) (λ first last. absurd (omega arith)) agrees.declared
    ∙ ap (filter_map set_in) (sym (no_part zero (length script.clients) script.acts (λ first last. absurd (omega arith)) met))
sets_of_all script s acted (suc k) met agrees each many wide =
    elim (leb_tells (length script.clients) k) [
      | inr within ↦
          let few = within.1 in
          let found = done_at script s 1 acted k (omega arith) each in
          let e : 1 + k ≡ suc k = omega arith in
          sets_of_client script s k found.0 (subst (λ n. IsDone script s n found.0) e found.1)
      | inl past ↦
          let far = past.1 in
          none_set s.opening.config (suc k) (inputs_of s.history) (λ first last. absurd (omega arith)) agrees.declared
          ∙ ap (filter_map set_in) (sym (no_part (suc k) (length script.clients) script.acts (λ first last. absurd (omega arith)) met))
    ]

tails : (i j : Input) (xs ys : List Input) → i ∷ xs ≡ j ∷ ys → xs ≡ ys
tails i j xs ys same = cc

pub race_merges : (script : Script) (s : ServiceView) (main : Seated) (acted : List Acted) → AsksAreMet script → Agrees s → IsMainDone script s main
    → EachDone script s 1 acted → length acted ≡ length script.clients → length script.clients ≡ length s.opening.config.domains
    → Merges s.history (Parts script)
race_merges script s main acted met agrees through each many wide =
    let asked : requests_of 0 (log_of s.history) ≡ through.boot ∷ requests_in through.items =
    sym (through.has.asked ∙ ap (λ who. requests_of who (log_of s.history)) through.who) ∙ ap requests_in through.list in
    let first = first_input 0 s.history through.boot (requests_in through.items) asked through.first in
    let e : Entry = first.0 in
    let more : List Entry = first.1 in
    let boots : e.input ≡ input.Boot = first.3 ∙ through.boots in
    let begins : inputs_of s.history ≡ input.Boot ∷ inputs_of more =
    ap inputs_of first.2 ∙ ap (λ (i : Input). i ∷ inputs_of more) boots in
    record {
      rest = inputs_of more;
      begins = begins;
      main =
          tails input.Boot through.boot.input (filter is_main (inputs_of more)) (inputs_in through.items)
          (sym (ap (filter is_main) begins) ∙ inputs_are s.opening.config 0 0 s.history agrees.declared
          ∙ ap (map (λ (r : ClientRequest). r.input)) asked)
          ∙ through.part;
      sets = λ who.
          sym (ap (filter_map (set_by who)) begins)
          ∙ sets_of_all script s acted who met agrees each many wide
          ∙ ap (filter_map set_in) (part_is script met who);
    }
