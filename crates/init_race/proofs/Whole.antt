-- The report of a race is audited.
use Rattle.std.proofs.Common.{◌≡◌, ℕ, suc, ◌+◌, List, [], ◌∷◌, length, map, All, None, refl, sym, ap, ◌∙◌, subst, arith, IsTrue}
use Rattle.std.proofs.lemmas.List.Elements.{All-nil, All-cons}
use Rattle.init_driver.specs.Run.{AsksAreMet}
use Rattle.init_machine.specs.Facts.{Stands}
use Rattle.init_machine.specs.History.{sets_of}
use Rattle.init_machine.specs.Orderly.{EachStands, InOrder, Orderly, readings_in}
use Rattle.init_machine.specs.Sets.{Set}
use Rattle.init_machine.specs.declared.client.ClientItem.{ClientItem}
use Rattle.init_machine.specs.declared.client.ClientItem.TheVariants.{Told, Asked}
use Rattle.init_machine.specs.declared.client.ClientRequest.{ClientRequest}
use Rattle.init_machine.specs.declared.diagnostic.Diagnostic.{Diagnostic}
use Rattle.init_machine.specs.declared.report.Reading.{Reading}
use Rattle.property_area.specs.Area.{requests_in, requests_of}
use Rattle.property_area.specs.Seats.{Seated}
use Rattle.property_service.specs.Record.{log_of}
use Rattle.property_service.specs.Service.{Agrees, ServiceView}
use Rattle.script_lang.specs.Inputs.{part_of}
use Rattle.script_lang.specs.declared.script.Client.{Client}
use Rattle.script_lang.specs.declared.script.Script.{Script}
use Rattle.trace_audit.specs.Audited.{Audited, EachHolds, ReadingsHold, answer_all, client_of, list_of, requests_from}
use Rattle.init_race.specs.internal.Ended.{EachDone, IsDone, IsMainDone, parts_of}
use Rattle.init_race.specs.declared.actors.Acted.{Acted}
use Rattle.init_race.proofs.Merging.{race_merges}
use Rattle.init_race.proofs.Parts.{parts_answer, parts_list}
use Rattle.init_race.proofs.Records.{requests_are}

-- all that stands in the list stands among the readings
all_stand : (sets : List Set) (list : List ClientItem) → EachStands sets None list → All (Stands sets None) (readings_in list)
all_stand sets [] each = All-nil (Stands sets None)
all_stand sets (Told reading ∷ list) each =
    All-cons (Stands sets None) reading (readings_in list) (each 0 reading refl) (all_stand sets list (λ i other at. each (suc i) other at))
all_stand sets (Asked request ∷ list) each = all_stand sets list (λ i other at. each (suc i) other at)

-- whoever has seen some has seen none before
from_none : (seen : ℕ) (list : List ClientItem) → InOrder seen list → InOrder 0 list
from_none seen [] order = tt
from_none seen (item ∷ list) order = (omega arith, order.1, order.2)

orderly_from : (seen : ℕ) (list : List ClientItem) → Orderly seen list → Orderly 0 list
orderly_from seen list orderly = record { order = from_none seen list orderly.order; rise = orderly.rise }

-- the readings of a client that is through hold
one_holds : (script : Script) (s : ServiceView) (k : ℕ) (one : Acted) → IsDone script s (suc k) one → ReadingsHold script s.history (suc k) one.readings
one_holds script s k one done =
    let list = one.reader.view.list in
    let asks = part_of (suc k) script in
    let told : one.readings ≡ readings_in list = done.part.1 in
    let asked : requests_in list ≡ requests_from (suc k) 1 0 s.history =
    done.has.asked ∙ ap (λ who. requests_of who (log_of s.history)) done.client ∙ requests_are k 0 0 s.history in
    let whole : list_of asks (requests_from (suc k) 1 0 s.history) one.readings ≡ list =
    ap (λ (requests : List ClientRequest). list_of asks requests one.readings) (sym asked)
    ∙ ap (λ (readings : List Reading). list_of asks (requests_in list) readings) told
    ∙ parts_list (suc k) asks list done.part.0 in
    let stands = done.has.stands.0 in
    record {
      answer = subst (λ (readings : List Reading). IsTrue (answer_all asks readings)) (sym told) (parts_answer (suc k) asks list done.part.0);
      stand = subst (λ (readings : List Reading). All (Stands (sets_of s.history) None) readings) (sym told) (all_stand (sets_of s.history) list stands.each);
      orderly = subst (Orderly 0) (sym whole) (orderly_from (length one.reader.view.began) list stands.orderly);
    }

each_holds : (script : Script) (s : ServiceView) (k : ℕ) (clients : List Client) (acted : List Acted) → length acted ≡ length clients
    → EachDone script s (suc k) acted → EachHolds script s.history (suc k) (parts_of clients acted)
each_holds script s k [] acted many each = tt
each_holds script s k (client ∷ clients) [] many each = absurd (omega arith)
each_holds script s k (client ∷ clients) (one ∷ acted) many each =
    let e : suc k + 1 ≡ suc (suc k) = omega arith in (
      one_holds script s k one each.0,
      subst (λ n. EachHolds script s.history n (parts_of clients acted)) (sym e)
          (each_holds script s (suc k) clients acted (omega arith) (subst (λ n. EachDone script s n acted) e each.1)),
    )

clients_are : (clients : List Client) (acted : List Acted) → clients ≡ map (λ part. client_of part) (parts_of clients acted)
clients_are [] acted = refl
clients_are (client ∷ clients) [] = ap (λ rest. client ∷ rest) (clients_are clients [])
clients_are (client ∷ clients) (one ∷ acted) = ap (λ rest. client ∷ rest) (clients_are clients acted)

pub race_is_audited : (script : Script) (s : ServiceView) (diagnostics : List Diagnostic) (main : Seated) (acted : List Acted) → AsksAreMet script → Agrees s
    → IsMainDone script s main → EachDone script s 1 acted → length acted ≡ length script.clients
    → length script.clients ≡ length s.opening.config.domains
    → Audited s.opening diagnostics script (record { diagnostics = diagnostics; history = s.history; clients = parts_of script.clients acted })
race_is_audited script s diagnostics main acted met agrees through each many wide = record {
  diagnostics = refl;
  clients = clients_are script.clients acted;
  merges = race_merges script s main acted met agrees through each many wide;
  legal = agrees.legal;
  readings = each_holds script s 0 script.clients acted many each;
}
