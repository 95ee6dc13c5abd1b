-- What the actors leave, once the service has ended.
use Rattle.std.proofs.Common.{◌≡◌, ◌≢◌, ℕ, suc, ◌+◌, ◌<◌, Bool, All, List, [], ◌∷◌, ◌++◌, length, Option, Some, Result, Ok, Err, IfOk, IsOkAnd, if◌then◌else◌, refl, sym, ap, ◌∙◌, subst, arith, eq-eqb}
use Rattle.std.proofs.lemmas.List.{map-append}
use Rattle.std.proofs.lemmas.List.Elements.{All-cons, All-head, All-nil, All-tail}
use Rattle.atomic_table.specs.Seated.{TableId}
use Rattle.init_driver.specs.Run.{AsksAreMet}
use Rattle.init_machine.specs.History.{after, inputs_of}
use Rattle.init_machine.specs.Orderly.{readings_in}
use Rattle.init_machine.specs.State.{Opening}
use Rattle.init_machine.specs.declared.client.ClientItem.{ClientItem}
use Rattle.init_machine.specs.declared.diagnostic.Diagnostic.{Diagnostic}
use Rattle.init_machine.specs.declared.report.ClientPart.{ClientPart}
use Rattle.init_machine.specs.declared.report.Entry.{Entry}
use Rattle.property_area.specs.Area.{list_in}
use Rattle.property_area.specs.Readers.{client_of, others_in, taking}
use Rattle.property_area.specs.Seats.{Seated}
use Rattle.property_area.specs.declared.view.AreaView.{AreaView}
use Rattle.property_area.specs.declared.view.LogOpening.{LogOpening}
use Rattle.property_service.proofs.Clients.{list_behind, others_else}
use Rattle.property_service.proofs.GivenBack.{taking_keeps}
use Rattle.property_service.proofs.Openings.{opening_read}
use Rattle.property_service.specs.Ending.{HasItsPart, taking_all}
use Rattle.property_service.specs.Record.{log_of, opening_in, recorded}
use Rattle.property_service.specs.Service.{ServiceView}
use Rattle.property_service.specs.declared.ending.Finished.{Finished}
use Rattle.script_lang.specs.declared.script.Client.{Client}
use Rattle.script_lang.specs.declared.script.Script.{Script}
use Rattle.trace_audit.specs.Audited.{Audited}
use Rattle.init_race.specs.Acting.{IsPart, IsThrough}
use Rattle.init_race.specs.internal.Ended.{EachDone, IsDone, IsMainDone, ComeBack, parts_of, readers_of, told_to}
use Rattle.init_race.specs.Race.{AreRaced, HasEnded, HaveReadings}
use Rattle.init_race.specs.Seating.{AllSeated, EachSeated, IsBooted, IsSeated}
use Rattle.init_race.specs.Threads.{EachThrough, MayAct}
use Rattle.init_base.specs.declared.memory.NoMemory.{NoMemory}
use Rattle.init_race.specs.declared.actors.Acted.{Acted}
use Rattle.init_race.specs.declared.racing.Ended.{Ended}
use Rattle.init_race.proofs.Parting.{told_first, told_same}
use Rattle.init_race.proofs.Whole.{race_is_audited}

-- the clients that are through, and behind them the main actor
pub record Split (script : Script) (seated : List Seated) (main : Seated) (acted : List Acted) : Type 0 where
  pub clients : List Acted
  pub last : Acted
  pub all : acted ≡ clients ++ last ∷ []
  pub each : EachThrough script seated clients
  pub through : IsThrough script main last.reader last.readings

pub split_through : (script : Script) (seated : List Seated) (main : Seated) (acted : List Acted) → EachThrough script (seated ++ main ∷ []) acted → Split script seated main acted
split_through script [] main [] through = absurd through
split_through script [] main (last ∷ []) through = record { clients = []; last = last; all = refl; each = tt; through = through.0 }
split_through script [] main (one ∷ last ∷ acted) through = absurd through.1
split_through script (s ∷ seated) main [] through = absurd through
split_through script (s ∷ seated) main (one ∷ acted) through =
    let more = split_through script seated main acted through.1 in record {
      clients = one ∷ more.clients;
      last = more.last;
      all = ap (λ (rest : List Acted). one ∷ rest) more.all;
      each = (through.0, more.each);
      through = more.through;
    }

many_through : (script : Script) (seated : List Seated) (acted : List Acted) → EachThrough script seated acted → length acted ≡ length seated
many_through script [] [] through = refl
many_through script [] (one ∷ acted) through = absurd through
many_through script (s ∷ seated) [] through = absurd through
many_through script (s ∷ seated) (one ∷ acted) through = ap (λ (n : ℕ). suc n) (many_through script seated acted through.1)

-- ---- each actor is done

done_one : (script : Script) (s : ServiceView) (area : TableId) (o : Opening) (k : ℕ) (seated : Seated) (one : Acted) → IsSeated area o k seated
    → IsThrough script seated one.reader one.readings → HasItsPart s one.reader → IsDone script s k one
done_one script s area o k seated one is through has =
    let list : one.reader.view.list ≡ through.items = through.goes.list ∙ ap (λ (l : List ClientItem). l ++ through.items) is.list in record {
      client = through.goes.who ∙ is.who;
      has = has;
      part = subst (λ (items : List ClientItem). IsPart script k items one.readings) (sym list)
          (subst (λ (n : ℕ). IsPart script n through.items one.readings) is.who through.part);
    }

each_done : (script : Script) (s : ServiceView) (area : TableId) (o : Opening) (k : ℕ) (seated : List Seated) (acted : List Acted) → EachSeated area o k seated
    → EachThrough script seated acted → All (HasItsPart s) (readers_of acted) → EachDone script s k acted
each_done script s area o k [] [] each through has = tt
each_done script s area o k [] (one ∷ acted) each through has = absurd through
each_done script s area o k (r ∷ seated) [] each through has = absurd through
each_done script s area o k (r ∷ seated) (one ∷ acted) each through has = (
  done_one script s area o k r one each.0 through.0 (All-head (HasItsPart s) one.reader (readers_of acted) has),
  each_done script s area o (k + 1) seated acted each.1 through.1 (All-tail (HasItsPart s) one.reader (readers_of acted) has),
)

main_done : (script : Script) (s : ServiceView) (o : Opening) (main : Seated) (last : Acted) → IsBooted o main.view
    → IsThrough script main last.reader last.readings → HasItsPart s last.reader → IsMainDone script s last.reader
main_done script s o main last booted through has =
    let part : IsPart script 0 through.items last.readings = subst (λ (n : ℕ). IsPart script n through.items last.readings) booted.who through.part in record {
      who = through.goes.who ∙ booted.who;
      has = has;
      boot = booted.boot;
      items = through.items;
      list = through.goes.list ∙ ap (λ (l : List ClientItem). l ++ through.items) booted.list;
      boots = booted.boots;
      first = booted.first;
      part = part.0;
    }

-- ---- what the writer has of each client

own_list : (v r : AreaView) (q : ℕ) → r.who ≡ q → list_in (taking v r).clients q ≡ r.list
own_list v r q is = ap (λ (b : Bool). if b then r.list else list_in (others_in v.clients r.who) q) (eq-eqb r.who q is)

other_list : (v r : AreaView) (q : ℕ) → r.who < q → list_in (taking v r).clients q ≡ list_in v.clients q
other_list v r q less =
    let other : r.who ≢ q = λ is. let same : r.who ≡ q = is in absurd (omega arith) in
    list_behind (client_of r) (others_in v.clients r.who) q other ∙ others_else v.clients r.who q other

keeps_told : (v r : AreaView) (k : ℕ) (parts : List ClientPart) → r.who < k → HaveReadings v k parts → HaveReadings (taking v r) k parts
keeps_told v r k [] less have = tt
keeps_told v r k (part ∷ parts) less have =
    (ap readings_in (other_list v r k less) ∙ have.0, keeps_told v r (k + 1) parts (omega arith) have.1)

told_all : (script : Script) (s : ServiceView) (v : AreaView) (k : ℕ) (clients : List Client) (acted : List Acted) → EachDone script s (suc k) acted
    → HaveReadings (taking_all v (readers_of acted)) (suc k) (told_to clients acted)
told_all script s v k [] acted each = tt
told_all script s v k (client ∷ clients) [] each = tt
told_all script s v k (client ∷ clients) (one ∷ acted) each =
    let w = taking_all v (readers_of acted) in
    let r = one.reader.view in
    let is : r.who ≡ suc k = each.0.client in
    let e : suc k + 1 ≡ suc (suc k) = omega arith in
    let rest = told_all script s v (suc k) clients acted (subst (λ (n : ℕ). EachDone script s n acted) e each.1) in (
      ap readings_in (own_list w r (suc k) is) ∙ sym each.0.part.1,
      keeps_told w r (suc k + 1) (told_to clients acted) (omega arith) (subst (λ (n : ℕ). HaveReadings w n (told_to clients acted)) (sym e) rest),
    )

taking_more : (v : AreaView) (xs ys : List Seated) → taking_all v (xs ++ ys) ≡ taking_all (taking_all v ys) xs
taking_more v [] ys = refl
taking_more v (x ∷ xs) ys = ap (λ (w : AreaView). taking w x.view) (taking_more v xs ys)

-- ---- the whole

all_left : {T : Type 0} (P : T → Type 0) (xs ys : List T) → All P (xs ++ ys) → All P xs
all_left P [] ys all = All-nil P
all_left P (x ∷ xs) ys all = All-cons P x xs (All-head P x (xs ++ ys) all) (all_left P xs ys (All-tail P x (xs ++ ys) all))

pub all_last : {T : Type 0} (P : T → Type 0) (xs : List T) (y : T) → All P (xs ++ y ∷ []) → P y
all_last P [] y all = All-head P y [] all
all_last P (x ∷ xs) y all = all_last P xs y (All-tail P x (xs ++ y ∷ []) all)

pub same_opening : (o p : Opening) → Some (recorded p) ≡ Some (recorded o) → p ≡ o
same_opening o p is = sym (opening_read p) ∙ ap (λ (x : Option LogOpening). opening_in x) is ∙ opening_read o

pub are_raced : (area : TableId) (o : Opening) (script : Script) (readers : List Seated) (acted : List Acted) (back : List Seated) (finished : Finished) (parts : List ClientPart)
    → AsksAreMet script → length script.clients ≡ length o.config.domains → AllSeated area o (length script.clients) readers
    → EachThrough script readers acted → back ≡ readers_of acted → parts ≡ told_to script.clients acted → HasEnded back finished
    → AreRaced o script finished parts
are_raced area o script readers acted back finished parts met domains seated through back_is parts_is ended =
    let split = split_through script seated.clients seated.main acted (subst (λ (rs : List Seated). EachThrough script rs acted) seated.all through) in
    let s = ended.service in
    let clients = split.clients in
    let last = split.last in
    let whole : back ≡ readers_of clients ++ last.reader ∷ [] = back_is ∙ ap readers_of split.all ∙ map-append (λ (one : Acted). one.reader) clients (last ∷ []) in
    let has : All (HasItsPart s) (readers_of clients ++ last.reader ∷ []) = subst (All (HasItsPart s)) whole ended.parts in
    let main_has = all_last (HasItsPart s) (readers_of clients) last.reader has in
    let same : s.opening ≡ o = same_opening o s.opening (sym main_has.opening ∙ split.through.goes.opening ∙ seated.booted.opening) in
    let each = each_done script s area o 1 seated.clients clients seated.each split.each (all_left (HasItsPart s) (readers_of clients) (last.reader ∷ []) has) in
    let main = main_done script s o seated.main last seated.booted split.through main_has in
    let many : length clients ≡ length script.clients = many_through script seated.clients clients split.each ∙ seated.many_are in
    let wide : length script.clients ≡ length s.opening.config.domains = domains ∙ ap (λ (p : Opening). length p.config.domains) (sym same) in
    let parts_are : parts ≡ parts_of script.clients clients = parts_is ∙ ap (told_to script.clients) split.all ∙ told_first script.clients clients (last ∷ []) many in
    let keeps = taking_keeps s.seat back in
    let v = taking_all s.seat (last.reader ∷ []) in
    let view : finished.seat.view ≡ taking_all v (readers_of clients) =
    ended.seat ∙ ap (taking_all s.seat) whole ∙ taking_more s.seat (readers_of clients) (last.reader ∷ []) in
    let told = told_all script s v 0 script.clients clients each in record {
      audited = λ (found : List Diagnostic).
          subst (λ (ps : List ClientPart). Audited o found script (record { diagnostics = found; history = finished.history; clients = ps })) (sym parts_are)
          (subst (λ (h : List Entry). Audited o found script (record { diagnostics = found; history = h; clients = parts_of script.clients clients })) (sym ended.history)
          (subst (λ (p : Opening). Audited p found script (record { diagnostics = found; history = s.history; clients = parts_of script.clients clients })) same
          (race_is_audited script s found last.reader clients met ended.agrees main each many wide)));
      recorded_is = record {
        opening = ap (λ (x : AreaView). x.opening) ended.seat ∙ keeps.2 ∙ ended.agrees.opened ∙ ap (λ (p : Opening). Some (recorded p)) same;
        log = ap (λ (x : AreaView). x.log) ended.seat ∙ keeps.1 ∙ ended.agrees.log ∙ ap log_of (sym ended.history);
        told = subst (λ (x : AreaView). HaveReadings x 1 parts) (sym view)
            (subst (HaveReadings (taking_all v (readers_of clients)) 1) (told_same script.clients clients many ∙ sym parts_are) told);
      };
      saved =
          ended.saved ∙ ap (λ (p : Opening). (after p (inputs_of s.history)).saved) same
          ∙ ap (λ (h : List Entry). (after o (inputs_of h)).saved) (sym ended.history);
      policy = ended.policy ∙ ap (λ (p : Opening). p.policy) same;
    }

-- the readers that come back are of the area
pub tables_kept : (area : TableId) (script : Script) (readers : List Seated) (acted : List Acted) → All (MayAct area) readers → EachThrough script readers acted
    → All (λ (r : Seated). r.table ≡ area) (readers_of acted)
tables_kept area script [] [] may through = All-nil (λ (r : Seated). r.table ≡ area)
tables_kept area script [] (one ∷ acted) may through = absurd through
tables_kept area script (r ∷ readers) [] may through = absurd through
tables_kept area script (r ∷ readers) (one ∷ acted) may through =
    All-cons (λ (s : Seated). s.table ≡ area) one.reader (readers_of acted) (through.0.goes.table ∙ (All-head (MayAct area) r readers may).0)
    (tables_kept area script readers acted (All-tail (MayAct area) r readers may) through.1)

-- what came back is of the area
pub back_tables : (area : TableId) (script : Script) (readers : List Seated) (came : Result (List Seated × List ClientPart) NoMemory) → All (MayAct area) readers
    → IfOk came (λ back. ComeBack script readers back.0 back.1) → IfOk came (λ back. All (λ (r : Seated). r.table ≡ area) back.0)
back_tables area script readers (Ok back) may come =
    subst (All (λ (r : Seated). r.table ≡ area)) (sym come.back_is) (tables_kept area script readers come.acted may come.through)
back_tables area script readers (Err e) may come = tt

pub ended_raced : (area : TableId) (o : Opening) (script : Script) (readers : List Seated) (came : Result (List Seated × List ClientPart) NoMemory) (result : Result Ended NoMemory)
    → AsksAreMet script → length script.clients ≡ length o.config.domains → AllSeated area o (length script.clients) readers
    → IfOk came (λ back. ComeBack script readers back.0 back.1)
    → IfOk result (λ ended. IsOkAnd came (λ back. HasEnded back.0 ended.finished × (ended.parts ≡ back.1)))
    → IfOk result (λ ended. AreRaced o script ended.finished ended.parts)
ended_raced area o script readers came (Err e) met domains seated come with_it = tt
ended_raced area o script readers (Err e) (Ok ended) met domains seated come with_it = absurd with_it
ended_raced area o script readers (Ok back) (Ok ended) met domains seated come with_it =
    are_raced area o script readers come.acted back.0 ended.finished ended.parts met domains seated come.through come.back_is
    (with_it.1 ∙ come.parts_are) with_it.0
