-- What a dispatched script leaves, once the service has ended.
use Rattle.std.proofs.Common.{◌≡◌, All, List, [], ◌∷◌, ◌++◌, length, map, Result, Ok, Err, IfOk, IsOkAnd, refl, sym, ap, ◌∙◌, subst, arith}
use Rattle.std.proofs.lemmas.List.{length-map, map-append}
use Rattle.std.proofs.lemmas.List.Elements.{All-append, All-cons, All-map, All-nil}
use Rattle.atomic_table.specs.Seated.{TableId}
use Rattle.init_base.specs.declared.memory.NoMemory.{NoMemory}
use Rattle.init_driver.specs.Run.{AsksAreMet}
use Rattle.init_machine.specs.State.{Opening}
use Rattle.init_machine.specs.declared.diagnostic.Diagnostic.{Diagnostic}
use Rattle.init_machine.specs.declared.report.ClientPart.{ClientPart}
use Rattle.init_machine.specs.declared.report.Report.{Report}
use Rattle.init_race.proofs.Parting.{told_first}
use Rattle.init_race.proofs.Returning.{all_come}
use Rattle.init_race.proofs.Through.{are_raced}
use Rattle.init_race.specs.Acting.{IsPart, IsThrough}
use Rattle.init_race.specs.Race.{AreAll, AreRaced, HasEnded, IsReportOf}
use Rattle.init_race.specs.Seating.{AllSeated}
use Rattle.init_race.specs.Threads.{EachThrough}
use Rattle.init_race.specs.declared.actors.Acted.{Acted}
use Rattle.init_race.specs.declared.racing.Ended.{Ended}
use Rattle.init_race.specs.declared.racing.Raced.{Raced}
use Rattle.init_race.specs.declared.refusal.RaceRefusal.{RaceRefusal}
use Rattle.init_race.specs.internal.Ended.{readers_of, told_to}
use Rattle.prop_dispatch.specs.declared.session.Session.{Session}
use Rattle.property_area.specs.Seats.{Seated}
use Rattle.property_service.specs.Service.{ServiceView}
use Rattle.property_service.specs.declared.ending.Finished.{Finished}
use Rattle.script_lang.specs.Sets.{IsSetOrMain}
use Rattle.script_lang.specs.declared.script.Client.{Client}
use Rattle.script_lang.specs.declared.script.Script.{Script}
use Rattle.init_dispatch.specs.Dispatched.{IsDispatched}
use Rattle.init_dispatch.specs.internal.Ending.{AreDispatched, HasBegun, IsServed}
use Rattle.init_dispatch.specs.internal.Parts.{silent}
use Rattle.init_dispatch.proofs.Through.{all_through, each_seated, fresh, many_readers, parts_silent, readers_kept, tables_kept, untold}

-- the main actor is through its part
main_through : (area : TableId) (o : Opening) (script : Script) (s : ServiceView) (main : Seated) (sessions : List Session)
    (begun : HasBegun area o script s main sessions) → IsThrough script begun.booted main []
main_through area o script s main sessions begun = record {
  items = begun.asks.items;
  goes = begun.asks.goes;
  part = subst (λ n. IsPart script n begun.asks.items []) (sym begun.boot.who) (begun.asks.asked, refl);
}

-- the clients' readers and the main actor's, as each got its own
all_seated : (area : TableId) (o : Opening) (script : Script) (s t : ServiceView) (main : Seated) (sessions : List Session) (readers : List Seated)
    (begun : HasBegun area o script s main sessions) → IsServed area s t sessions readers
    → AllSeated area o (length script.clients) (map fresh readers ++ begun.booted ∷ [])
all_seated area o script s t main sessions readers begun served = record {
  clients = map fresh readers;
  main = begun.booted;
  all = refl;
  table = begun.table;
  booted = begun.boot;
  each = each_seated script area o s t 1 sessions readers begun.opening begun.sessions_are served.asked;
  many_are = length-map readers fresh ∙ many_readers area s t sessions readers served.asked ∙ begun.many;
}

each_through : (area : TableId) (o : Opening) (script : Script) (s t : ServiceView) (main : Seated) (sessions : List Session) (readers : List Seated)
    → All IsSetOrMain script.acts → (begun : HasBegun area o script s main sessions) → IsServed area s t sessions readers
    → EachThrough script (map fresh readers ++ begun.booted ∷ []) (map untold readers ++ untold main ∷ [])
each_through area o script s t main sessions readers only begun served =
    all_through script area s t 1 sessions readers begun.booted main (omega arith) only begun.sessions_are served.asked
    (main_through area o script s main sessions begun)

back_of : (readers : List Seated) (main : Seated) → readers_of (map untold readers ++ untold main ∷ []) ≡ readers ++ main ∷ []
back_of readers main =
    map-append (λ (one : Acted). one.reader) (map untold readers) (untold main ∷ []) ∙ ap (λ rs. rs ++ main ∷ []) (readers_kept readers)

-- among the readers that come back none is missing
pub none_missing : (area : TableId) (o : Opening) (script : Script) (s t : ServiceView) (main : Seated) (sessions : List Session) (readers : List Seated)
    → All IsSetOrMain script.acts → length script.clients ≡ length o.config.domains → HasBegun area o script s main sessions
    → IsServed area s t sessions readers → AreAll (readers ++ main ∷ [])
none_missing area o script s t main sessions readers only domains begun served =
    subst AreAll (back_of readers main)
    (all_come area o script (map fresh readers ++ begun.booted ∷ []) (map untold readers ++ untold main ∷ []) domains
    (all_seated area o script s t main sessions readers begun served)
    (each_through area o script s t main sessions readers only begun served))

-- they are of the area
pub all_of_area : (area : TableId) (o : Opening) (script : Script) (s t : ServiceView) (main : Seated) (sessions : List Session) (readers : List Seated)
    → HasBegun area o script s main sessions → IsServed area s t sessions readers → All (λ (r : Seated). r.table ≡ area) (readers ++ main ∷ [])
all_of_area area o script s t main sessions readers begun served =
    All-append (λ (x : Seated). x.table ≡ area) readers (main ∷ []) (tables_kept area s t sessions readers served.asked)
    (All-cons (λ (x : Seated). x.table ≡ area) main [] (begun.asks.goes.table ∙ begun.table) (All-nil _))

-- ---- the end

pub are_dispatched : (area : TableId) (o : Opening) (script : Script) (s t : ServiceView) (main : Seated) (sessions : List Session) (readers back : List Seated)
    (finished : Finished) (parts : List ClientPart) → AsksAreMet script → All IsSetOrMain script.acts → length script.clients ≡ length o.config.domains
    → HasBegun area o script s main sessions → IsServed area s t sessions readers → back ≡ readers ++ main ∷ [] → parts ≡ map silent script.clients
    → HasEnded back finished → finished.history ≡ t.history → AreDispatched o script finished parts
are_dispatched area o script s t main sessions readers back finished parts met only domains begun served back_is parts_are ended history =
    let acted : List Acted = map untold readers ++ untold main ∷ [] in
    let many : length (map untold readers) ≡ length script.clients =
    length-map readers untold ∙ many_readers area s t sessions readers served.asked ∙ begun.many in
    let told : parts ≡ told_to script.clients acted =
    parts_are ∙ sym (told_first script.clients (map untold readers) (untold main ∷ []) many ∙ parts_silent script.clients readers) in
    record {
      raced = are_raced area o script (map fresh readers ++ begun.booted ∷ []) acted back finished parts met domains
          (all_seated area o script s t main sessions readers begun served)
          (each_through area o script s t main sessions readers only begun served) (back_is ∙ sym (back_of readers main)) told ended;
      main_first = record {
        main = s.history;
        sets = served.entries;
        history_is = history ∙ served.history;
        main_is = begun.history;
        are_sets = served.are_sets;
      };
      parts_are = parts_are;
    }

-- the report of what is left
pub is_dispatched : (o : Opening) (found : List Diagnostic) (script : Script) (ended : Ended) (report : Report) → AreDispatched o script ended.finished ended.parts
    → report ≡ record { diagnostics = found; history = ended.finished.history; clients = ended.parts } → IsDispatched o found script report
is_dispatched o found script ended report are is =
    subst (IsDispatched o found script) (sym is) (record {
      audited = are.raced.audited found;
      main_first = are.main_first;
      no_readings = subst (All (λ (part : ClientPart). part.readings ≡ [])) (sym are.parts_are)
          (All-map (λ (part : ClientPart). part.readings ≡ []) silent script.clients (λ k d within. refl));
    })

-- ---- of what comes back, if anything does

pub back_with : (P : List Seated → Type 0) (whole : List Seated) (came : Result (List Seated × List ClientPart) NoMemory) → P whole
    → IfOk came (λ back. back.0 ≡ whole) → IfOk came (λ back. P back.0)
back_with P whole (Ok back) holds is = subst P (sym is) holds
back_with P whole (Err e) holds is = tt

pub ended_dispatched : (area : TableId) (o : Opening) (script : Script) (s t : ServiceView) (main : Seated) (sessions : List Session) (readers : List Seated)
    (came : Result (List Seated × List ClientPart) NoMemory) (result : Result Ended NoMemory) → AsksAreMet script → All IsSetOrMain script.acts
    → length script.clients ≡ length o.config.domains → HasBegun area o script s main sessions → IsServed area s t sessions readers
    → IfOk came (λ back. back.0 ≡ readers ++ main ∷ []) → IfOk came (λ back. back.1 ≡ map silent script.clients)
    → IfOk result (λ ended. IsOkAnd came (λ back. HasEnded back.0 ended.finished × (ended.parts ≡ back.1)))
    → IfOk result (λ ended. ended.finished.history ≡ t.history) → IfOk result (λ ended. AreDispatched o script ended.finished ended.parts)
ended_dispatched area o script s t main sessions readers came (Err e) met only domains begun served back_is parts_are with_it history = tt
ended_dispatched area o script s t main sessions readers (Err e) (Ok ended) met only domains begun served back_is parts_are with_it history = absurd with_it
ended_dispatched area o script s t main sessions readers (Ok back) (Ok ended) met only domains begun served back_is parts_are with_it history =
    are_dispatched area o script s t main sessions readers back.0 ended.finished ended.parts met only domains begun served back_is (with_it.1 ∙ parts_are)
    with_it.0 history

pub raced_too : (o : Opening) (script : Script) (ended : Result Ended NoMemory) → IfOk ended (λ e. AreDispatched o script e.finished e.parts)
    → IfOk ended (λ e. AreRaced o script e.finished e.parts)
raced_too o script (Ok e) are = are.raced
raced_too o script (Err why) are = tt

pub reported : (o : Opening) (found : List Diagnostic) (script : Script) (ended : Result Ended NoMemory) (result : Result Raced RaceRefusal)
    → IfOk ended (λ e. AreDispatched o script e.finished e.parts)
    → IfOk result (λ raced. IsOkAnd ended (λ e. raced.report ≡ record { diagnostics = found; history = e.finished.history; clients = e.parts }))
    → IfOk result (λ raced. IsDispatched o found script raced.report)
reported o found script ended (Err why) are is = tt
reported o found script (Err e) (Ok raced) are is = absurd is
reported o found script (Ok e) (Ok raced) are is = is_dispatched o found script e raced.report are is

-- the report of what was left is that of a dispatch
pub left_dispatched : (o : Opening) (found : List Diagnostic) (script : Script) (r : Result Ended NoMemory)
    → IfOk r (λ e. AreDispatched o script e.finished e.parts) → (report : Report) → IsReportOf found r report → IsDispatched o found script report
left_dispatched o found script (Ok ended) are report is = is_dispatched o found script ended report are is
left_dispatched o found script (Err e) are report is = absurd is

-- ---- of what a call left, if it left anything

pub served_of : (area : TableId) (s t : ServiceView) (sessions : List Session) (readers : List Seated) (r : Result (ServiceView × List Seated) NoMemory)
    → r ≡ Ok (t, readers) → IfOk r (λ back. IsServed area s back.0 sessions back.1) → IsServed area s t sessions readers
served_of area s t sessions readers r is served = subst (λ (q : Result (ServiceView × List Seated) NoMemory). IfOk q (λ back. IsServed area s back.0 sessions back.1)) is served

pub begun_with : (area : TableId) (o : Opening) (script : Script) (s : ServiceView) (main other : Seated) (sessions : List Session) → other ≡ main
    → HasBegun area o script s main sessions → HasBegun area o script s other sessions
begun_with area o script s main other sessions same begun = subst (λ (m : Seated). HasBegun area o script s m sessions) (sym same) begun

pub parts_silenced : (clients shown : List Client) (came : Result (List Seated × List ClientPart) NoMemory) → shown ≡ clients
    → IfOk came (λ back. back.1 ≡ map silent shown) → IfOk came (λ back. back.1 ≡ map silent clients)
parts_silenced clients shown came same parts = subst (λ (these : List Client). IfOk came (λ back. back.1 ≡ map silent these)) same parts
