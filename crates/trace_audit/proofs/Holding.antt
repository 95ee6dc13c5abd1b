-- When the readings of a client hold, and of each client.
use Rattle.std.proofs.Common.{◌≡◌, ◌+◌, ◌<◌, ℕ, suc, true, All, List, [], ◌∷◌, ◌++◌, length, map, take, drop, get_or, None, sym, ap, ◌∙◌, subst, arith}
use Rattle.std.proofs.lemmas.List.{length-take-le, take-append-drop}
use Rattle.std.proofs.Math.Numerals.{add-one}
use Rattle.std.proofs.Math.Seq.{drop-cons, take-suc}
use Rattle.init_machine.specs.Facts.{Stands}
use Rattle.init_machine.specs.History.{sets_of}
use Rattle.init_machine.specs.Sets.{Set}
use Rattle.init_machine.specs.declared.client.ClientItem.{ClientItem}
use Rattle.init_machine.specs.declared.report.ClientPart.{ClientPart}
use Rattle.init_machine.specs.declared.report.Entry.{Entry}
use Rattle.init_machine.specs.declared.report.Reading.{Reading}
use Rattle.script_lang.specs.Inputs.{part_of}
use Rattle.script_lang.specs.declared.script.Script.{Script}
use Rattle.init_machine.specs.declared.report.Report.{Report}
use Rattle.trace_audit.specs.Audited.{EachHolds, FailsAt, ReadingsHold, answer_all, client_of, clients_in, list_of, requests_from}
use Rattle.trace_audit.specs.Lists.{all_requests, ascending, bounds_by, bounds_list, rises}
use Rattle.trace_audit.specs.declared.told.Bounds.{Bounds}
use Rattle.trace_audit.specs.declared.told.Request.{Request}
use Rattle.trace_audit.proofs.Listing.{ascends, in_order, item_bounds, list_bounds, list_rise, request_bounds, rise_list, told_all}

-- the client's list
abbrev list_by : Script → List Entry → ℕ → List Reading → List ClientItem
list_by script history who readings = list_of (part_of who script) (requests_from who 1 0 history) readings

bounds_are : (script : Script) (history : List Entry) (who : ℕ) (readings : List Reading) (requests : List Request) (bounds : List Bounds)
    → requests ≡ all_requests 0 history → bounds ≡ bounds_by who requests
    → map item_bounds (list_by script history who readings) ≡ bounds_list (part_of who script) bounds readings
bounds_are script history who readings requests bounds all own =
    list_bounds (part_of who script) (requests_from who 1 0 history) readings
    ∙ ap (λ (bs : List Bounds). bounds_list (part_of who script) bs readings)
    (request_bounds who 1 0 history ∙ ap (λ (rs : List Request). bounds_by who rs) (sym all) ∙ sym own)

pub holds : (script : Script) (history : List Entry) (who : ℕ) (readings : List Reading) (sets : List Set) (requests : List Request) (bounds : List Bounds)
    → sets ≡ sets_of history → requests ≡ all_requests 0 history → bounds ≡ bounds_by who requests
    → answer_all (part_of who script) readings ≡ true → All (Stands sets None) readings → rises readings ≡ true
    → ascending 0 (bounds_list (part_of who script) bounds readings) ≡ true → ReadingsHold script history who readings
holds script history who readings sets requests bounds those all own answers stand rise ascend = record {
  answer = answers;
  stand = subst (λ (ss : List Set). All (Stands ss None) readings) those stand;
  orderly = record {
    order =
        in_order 0 (list_by script history who readings)
        (ap (λ (bs : List Bounds). ascending 0 bs) (bounds_are script history who readings requests bounds all own) ∙ ascend);
    rise =
        rise_list (list_by script history who readings)
        (ap (λ (rs : List Reading). rises rs) (told_all (part_of who script) (requests_from who 1 0 history) readings answers) ∙ rise);
  };
}

pub hold_rise : (script : Script) (history : List Entry) (who : ℕ) (readings : List Reading)
    → ReadingsHold script history who readings → rises readings ≡ true
hold_rise script history who readings hold =
    ap (λ (rs : List Reading). rises rs) (sym (told_all (part_of who script) (requests_from who 1 0 history) readings hold.answer))
    ∙ list_rise (list_by script history who readings) hold.orderly.rise

pub hold_ascend : (script : Script) (history : List Entry) (who : ℕ) (readings : List Reading) (requests : List Request) (bounds : List Bounds)
    → requests ≡ all_requests 0 history → bounds ≡ bounds_by who requests
    → ReadingsHold script history who readings → ascending 0 (bounds_list (part_of who script) bounds readings) ≡ true
hold_ascend script history who readings requests bounds all own hold =
    ap (λ (bs : List Bounds). ascending 0 bs) (sym (bounds_are script history who readings requests bounds all own))
    ∙ ascends 0 (list_by script history who readings) hold.orderly.order

-- ---- each client

each_more : (script : Script) (history : List Entry) (n : ℕ) (parts : List ClientPart) (part : ClientPart) → EachHolds script history n parts
    → ReadingsHold script history (n + length parts) part.readings → EachHolds script history n (parts ++ part ∷ [])
each_more script history n [] part each hold =
    let e : n + 0 ≡ n = omega arith in (subst (λ (who : ℕ). ReadingsHold script history who part.readings) e hold, tt)
each_more script history n (p ∷ parts) part each hold =
    let e : n + suc (length parts) ≡ n + 1 + length parts = omega arith in
    (each.0, each_more script history (n + 1) parts part each.1 (subst (λ (who : ℕ). ReadingsHold script history who part.readings) e hold))

pub each_to : (script : Script) (history : List Entry) (parts : List ClientPart) (k : ℕ) (part : ClientPart) → k < length parts → part ≡ get_or parts k part
    → EachHolds script history 1 (take k parts) → ReadingsHold script history (k + 1) part.readings → EachHolds script history 1 (take (k + 1) parts)
each_to script history parts k part within is each hold =
    let long : length (take k parts) ≡ k = length-take-le k parts (omega arith) in
    let e : k + 1 ≡ 1 + length (take k parts) = omega arith in
    let next : take (k + 1) parts ≡ take k parts ++ part ∷ [] =
    rw add-one (take-suc parts k part within ∙ ap (λ (p : ClientPart). take k parts ++ p ∷ []) (sym is)) in
    subst (λ (ps : List ClientPart). EachHolds script history 1 ps) (sym next)
    (each_more script history 1 (take k parts) part each (subst (λ (who : ℕ). ReadingsHold script history who part.readings) e hold))

pub fails_at : (script : Script) (history : List Entry) (parts : List ClientPart) (k : ℕ) (part : ClientPart) → k < length parts → part ≡ get_or parts k part
    → EachHolds script history 1 (take k parts) → ¬ ReadingsHold script history (k + 1) part.readings → FailsAt script history parts (k + 1)
fails_at script history parts k part within is each fail = record {
  before = take k parts;
  part = part;
  behind = drop (suc k) parts;
  parts_are =
      sym (take-append-drop k parts)
      ∙ ap (λ (ps : List ClientPart). take k parts ++ ps) (drop-cons parts k part within ∙ ap (λ (p : ClientPart). p ∷ drop (suc k) parts) (sym is));
  number_is = let long : length (take k parts) ≡ k = length-take-le k parts (omega arith) in omega arith;
  hold = each;
  fail = fail;
}

-- where there are no clients, nobody was told anything
pub none_hold : (script : Script) (history : List Entry) (report : Report) → script.clients ≡ clients_in report → length script.clients ≡ 0
    → EachHolds script history 1 report.clients
none_hold script history report same none = none_of report.clients (ap length (sym same) ∙ none)
  where
    none_of : (parts : List ClientPart) → length (map (λ part. client_of part) parts) ≡ 0 → EachHolds script history 1 parts
    none_of [] none = tt
    none_of (part ∷ parts) none = cc
