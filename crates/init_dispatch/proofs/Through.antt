-- Each actor of a dispatched script is through its part.
use Rattle.std.proofs.Common.{◌≡◌, ℕ, zero, suc, ◌+◌, ◌≤◌, Bool, true, false, ◌==◌, All, IsTrue, List, [], ◌∷◌, ◌++◌, length, map, Option, Some, None, if◌then◌else◌, refl, sym, ap, ◌∙◌, subst, arith}
use Rattle.std.specs.List.{cons_option, filter_map}
use Rattle.std.proofs.lemmas.List.Elements.{All-head, All-tail, All-nil, All-cons}
use Rattle.std.proofs.lemmas.Slice.Zip.{AllZip-long}
use Rattle.atomic_table.specs.Seated.{TableId}
use Rattle.init_machine.specs.Orderly.{readings_in}
use Rattle.init_machine.specs.State.{Opening}
use Rattle.init_machine.specs.declared.client.ClientItem.{ClientItem}
use Rattle.init_machine.specs.declared.client.ClientItem.TheVariants.{Asked}
use Rattle.init_machine.specs.declared.client.ClientRequest.{ClientRequest}
use Rattle.init_race.specs.Acting.{AreItemsOf, IsPart, IsThrough}
use Rattle.init_race.specs.Seating.{EachSeated, IsSeated}
use Rattle.init_race.specs.Threads.{EachThrough}
use Rattle.init_race.specs.internal.Ended.{parts_of, readers_of}
use Rattle.init_race.specs.declared.actors.Acted.{Acted}
use Rattle.prop_dispatch.specs.Relayed.{HasAsked, HaveAsked, sets_for}
use Rattle.prop_dispatch.specs.declared.session.Session.{Session}
use Rattle.property_area.specs.Seats.{Seated}
use Rattle.property_service.specs.Record.{recorded}
use Rattle.property_service.specs.Service.{ServiceView, set_by}
use Rattle.script_lang.specs.Inputs.{ask_by, part_of}
use Rattle.script_lang.specs.Laws.{set_in}
use Rattle.script_lang.specs.Sets.{IsSetOrMain, is_set_ask}
use Rattle.script_lang.specs.declared.script.Act.{Act}
use Rattle.script_lang.specs.declared.script.Act.TheVariants as act
use Rattle.script_lang.specs.declared.script.Ask.{Ask}
use Rattle.script_lang.specs.declared.script.Ask.TheVariants as ask
use Rattle.script_lang.specs.declared.script.Client.{Client}
use Rattle.script_lang.specs.declared.script.Script.{Script}
use Rattle.init_dispatch.specs.internal.Parts.{silent}
use Rattle.init_dispatch.specs.internal.Sessions.{AreSessions, IsSession, sets_among}

-- ---- a client's part is sets alone

abbrev pub AreSets : List Ask → Type 0
AreSets asks = All (λ one. IsTrue (is_set_ask one)) asks

mine_are_sets : (who : ℕ) (found : Option Ask) (later : List Ask) → ((one : Ask) → found ≡ Some one → IsTrue (is_set_ask one)) → AreSets later
    → AreSets (cons_option found later)
mine_are_sets who None later mine rest = rest
mine_are_sets who (Some one) later mine rest = All-cons (λ (x : Ask). IsTrue (is_set_ask x)) one later (mine one refl) rest

act_sets : (who : ℕ) (a : Act) (one : Ask) → IsSetOrMain a → ask_by who a ≡ Some one → IsTrue (is_set_ask one)
act_sets who (act.Step count) one is found = cc
act_sets who (act.Tick ms) one is found = cc
act_sets who (act.Exit name status) one is found = cc
act_sets who (act.File path content) one is found = cc
act_sets who (act.Ask other asked) one is found = chosen (other.0 == who) found
  where
    chosen : (b : Bool) → (if b then Some asked else None) ≡ Some one → IsTrue (is_set_ask one)
    chosen true e =
        let same : asked ≡ one = cc in
        subst (λ a. IsTrue (is_set_ask a)) same is
    chosen false e = cc

pub part_sets : (who : ℕ) (acts : List Act) → All IsSetOrMain acts → AreSets (filter_map (ask_by who) acts)
part_sets who [] only = All-nil _
part_sets who (a ∷ acts) only =
    mine_are_sets who (ask_by who a) (filter_map (ask_by who) acts) (λ one found. act_sets who a one (All-head IsSetOrMain a acts only) found)
    (part_sets who acts (All-tail IsSetOrMain a acts only))

-- ---- what a client asked

-- the items of requests alone
abbrev asked_items : List ClientRequest → List ClientItem
asked_items asked = map (λ r. Asked r) asked

no_readings : (asked : List ClientRequest) → [] ≡ readings_in (asked_items asked)
no_readings [] = refl
no_readings (r ∷ asked) = no_readings asked

items_fit : (who : ℕ) (asks : List Ask) (asked : List ClientRequest) → AreSets asks
    → map (λ (r : ClientRequest). r.input) asked ≡ sets_for who (filter_map set_in asks) → AreItemsOf who asks (asked_items asked)
items_fit who [] [] sets same = tt
items_fit who [] (r ∷ asked) sets same = cc
items_fit who (ask.Set pair ∷ asks) [] sets same = cc
items_fit who (ask.Set pair ∷ asks) (r ∷ asked) sets same =
    let first : r.input ≡ set_by who pair.name pair.value = cc in
    let rest : map (λ (r : ClientRequest). r.input) asked ≡ sets_for who (filter_map set_in asks) = cc in
    (first, items_fit who asks asked (All-tail (λ (x : Ask). IsTrue (is_set_ask x)) (ask.Set pair) asks sets) rest)
items_fit who (ask.Read name ∷ asks) asked sets same = let bad : false ≡ true = All-head (λ (x : Ask). IsTrue (is_set_ask x)) (ask.Read name) asks sets in cc
items_fit who (ask.Sync ∷ asks) asked sets same = let bad : false ≡ true = All-head (λ (x : Ask). IsTrue (is_set_ask x)) ask.Sync asks sets in cc
items_fit who (ask.Catch ∷ asks) asked sets same = let bad : false ≡ true = All-head (λ (x : Ask). IsTrue (is_set_ask x)) ask.Catch asks sets in cc

-- ---- the readers before and after

-- the reader as its client got it, before it asked anything
abbrev pub fresh : Seated → Seated
fresh reader = record reader { view = record reader.view { list = [] } }

-- the reader of a client that was told nothing
abbrev pub untold : Seated → Acted
untold reader = record { reader = reader; readings = [] }

-- the part of a client with this number is done
part_done : (script : Script) (who : ℕ) (asked : List ClientRequest) → 1 ≤ who → All IsSetOrMain script.acts
    → map (λ (r : ClientRequest). r.input) asked ≡ sets_for who (sets_among who script.acts) → IsPart script who (asked_items asked) []
part_done script zero asked least only same = absurd (omega arith)
part_done script (suc place) asked least only same =
    (items_fit (suc place) (part_of (suc place) script) asked (part_sets (suc place) script.acts only) same, no_readings asked)

client_through : (script : Script) (area : TableId) (old new : ServiceView) (who : ℕ) (session : Session) (reader : Seated) → 1 ≤ who
    → All IsSetOrMain script.acts → IsSession script.acts who session → HasAsked area old new session.who.0 session.requests reader
    → IsThrough script (fresh reader) reader []
client_through script area old new who session reader least only is has =
    let mine : map (λ (r : ClientRequest). r.input) has.asked ≡ sets_for who (sets_among who script.acts) =
    has.inputs ∙ ap (λ n. sets_for n session.requests) is.client ∙ ap (sets_for who) is.requests in
    record {
      items = asked_items has.asked;
      goes = record { table = refl; who = refl; opening = refl; began = refl; list = has.list };
      part = subst (λ n. IsPart script n (asked_items has.asked) []) (sym (has.client ∙ is.client))
          (part_done script who has.asked least only mine);
    }

client_seated : (script : Script) (area : TableId) (o : Opening) (old new : ServiceView) (who : ℕ) (session : Session) (reader : Seated) → old.opening ≡ o
    → IsSession script.acts who session → HasAsked area old new session.who.0 session.requests reader → IsSeated area o who (fresh reader)
client_seated script area o old new who session reader same is has = record {
  table = has.table;
  who = has.client ∙ is.client;
  opening = has.opening ∙ ap (λ p. Some (recorded p)) same;
  list = refl;
}

-- ---- all actors

pub each_seated : (script : Script) (area : TableId) (o : Opening) (old new : ServiceView) (who : ℕ) (sessions : List Session) (readers : List Seated)
    → old.opening ≡ o → AreSessions script.acts who sessions → HaveAsked area old new sessions readers → EachSeated area o who (map fresh readers)
each_seated script area o old new who [] [] same are have = tt
each_seated script area o old new who [] (r ∷ readers) same are have = absurd have
each_seated script area o old new who (s ∷ sessions) [] same are have = absurd have
each_seated script area o old new who (s ∷ sessions) (r ∷ readers) same are have =
    (client_seated script area o old new who s r same are.0 have.0, each_seated script area o old new (who + 1) sessions readers same are.1 have.1)

-- the clients are through, and the main actor after them
pub all_through : (script : Script) (area : TableId) (old new : ServiceView) (who : ℕ) (sessions : List Session) (readers : List Seated) (booted main : Seated)
    → 1 ≤ who → All IsSetOrMain script.acts → AreSessions script.acts who sessions → HaveAsked area old new sessions readers
    → IsThrough script booted main []
    → EachThrough script (map fresh readers ++ booted ∷ []) (map untold readers ++ untold main ∷ [])
all_through script area old new who [] [] booted main least only are have last = (last, tt)
all_through script area old new who [] (r ∷ readers) booted main least only are have last = absurd have
all_through script area old new who (s ∷ sessions) [] booted main least only are have last = absurd have
all_through script area old new who (s ∷ sessions) (r ∷ readers) booted main least only are have last = (
  client_through script area old new who s r least only are.0 have.0,
  all_through script area old new (who + 1) sessions readers booted main (omega arith) only are.1 have.1 last,
)

pub readers_kept : (readers : List Seated) → readers_of (map untold readers) ≡ readers
readers_kept [] = refl
readers_kept (r ∷ readers) = ap (λ rest. r ∷ rest) (readers_kept readers)

-- what the clients were told is nothing
pub parts_silent : (clients : List Client) (readers : List Seated) → parts_of clients (map untold readers) ≡ map silent clients
parts_silent [] readers = refl
parts_silent (client ∷ clients) [] = ap (λ rest. silent client ∷ rest) (parts_silent clients [])
parts_silent (client ∷ clients) (r ∷ readers) = ap (λ rest. silent client ∷ rest) (parts_silent clients readers)

pub many_readers : (area : TableId) (old new : ServiceView) (sessions : List Session) (readers : List Seated) → HaveAsked area old new sessions readers
    → length readers ≡ length sessions
many_readers area old new sessions readers have = AllZip-long _ sessions readers have

pub tables_kept : (area : TableId) (old new : ServiceView) (sessions : List Session) (readers : List Seated) → HaveAsked area old new sessions readers
    → All (λ (r : Seated). r.table ≡ area) readers
tables_kept area old new [] [] have = All-nil _
tables_kept area old new [] (r ∷ readers) have = absurd have
tables_kept area old new (s ∷ sessions) [] have = absurd have
tables_kept area old new (s ∷ sessions) (r ∷ readers) have = All-cons (λ (x : Seated). x.table ≡ area) r readers have.0.table (tables_kept area old new sessions readers have.1)
