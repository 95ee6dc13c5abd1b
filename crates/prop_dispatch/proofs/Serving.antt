-- The worker serves one more request.
use Rattle.std.proofs.Common.{◌≡◌, ◌≢◌, ⊎_elim, ℕ, ◌≤◌, ◌==◌, ◌||◌, Bool, true, false, List, [], ◌∷◌, ◌++◌, length, map, set, slice_get, take, is_err, OnOk, Ok, Err, true≢false, Option, Some, None, IfOk, IfSome, Result, refl, sym, ap, ◌∙◌, subst, arith, append_assoc, append-nil, length-append}
use Rattle.std.proofs.lemmas.List.{length-set, map-append}
use Rattle.std.proofs.lemmas.List.Folds.{list_any-append}
use Rattle.std.proofs.lemmas.Option.{slice_get_within}
use Rattle.atomic_table.specs.Seated.{TableId}
use Rattle.init_machine.specs.History.{inputs_of}
use Rattle.init_machine.specs.State.{Opening}
use Rattle.init_machine.specs.declared.client.ClientItem.{ClientItem}
use Rattle.init_machine.specs.declared.client.ClientItem.TheVariants.{Asked}
use Rattle.init_machine.specs.declared.client.ClientRequest.{ClientRequest}
use Rattle.init_machine.specs.declared.config.Pair.{Pair}
use Rattle.init_machine.specs.declared.input.Input.{Input}
use Rattle.init_machine.specs.declared.output.Output.{Output}
use Rattle.init_machine.specs.declared.output.SetRefusal.{SetRefusal}
use Rattle.init_machine.specs.declared.report.Entry.{Entry}
use Rattle.property_area.specs.Area.{requests_of}
use Rattle.property_area.specs.Readers.{asker_of, last_of}
use Rattle.property_area.specs.Seats.{Seated}
use Rattle.property_area.specs.declared.view.LogOpening.{LogOpening}
use Rattle.property_service.specs.Back.{ComesBackFrom, has_entry, request_behind}
use Rattle.property_service.specs.Record.{log_of}
use Rattle.property_service.specs.Service.{DeclaredIn, ServiceView, has_seat, set_by}
use Rattle.property_service.specs.Settings.{HasSet, set_entry}
use Rattle.property_service.specs.declared.answer.Accepted.{Accepted}
use Rattle.prop_dispatch.specs.Clients.{AreDifferent, AreOfClients, HaveNotEntered}
use Rattle.prop_dispatch.specs.Relayed.{AreServed, HasAsked, IsSetOf, answer_in, entries_of, is_client_of, last_lines, line_for, sets_for}
use Rattle.prop_dispatch.specs.internal.Rule.{pairs_of}
use Rattle.prop_dispatch.specs.internal.Serving.{HasEntered, HasServed, HaveEntered, IsNew, IsServed, MaySet, Serves}
use Rattle.prop_dispatch.specs.declared.protocol.Item.{Item}
use Rattle.prop_dispatch.specs.declared.seat.Seat.{Seat}
use Rattle.prop_dispatch.specs.declared.session.Session.{Session}
use Rattle.prop_dispatch.specs.declared.verdict.Verdict.{Verdict}
use Rattle.prop_dispatch.proofs.Clients.{client_at, differ, not_before}
use Rattle.prop_dispatch.proofs.Entries.{entries_other, entries_own, log_other, log_own}
use Rattle.prop_dispatch.proofs.Lists.{all_at, all_end, get_end, get_set, none_isnt, or_all, or_none, same_at, some_is, there_is}
use Rattle.prop_dispatch.proofs.Requests.{of_other, of_own}

-- ---- the session whose request is served

-- the entry of a request that was served
abbrev entry_in : (now then : ServiceView) (seat after : Seat) (p : Pair) → HasServed now then seat after p → Entry
entry_in now then seat after p h = set_entry now h.before p.name p.value

asked_own : (area : TableId) (old now then : ServiceView) (who : ℕ) (requests : List Pair) (before after : Seated) (e : Entry) (p : Pair)
    → e.input ≡ set_by before.view.who p.name p.value → then.history ≡ now.history ++ e ∷ [] → ComesBackFrom now.history e before after
    → HasAsked area old now who requests before → HasAsked area old then who (requests ++ p ∷ []) after
asked_own area old now then who requests before after e p input next back a =
    let r : ClientRequest = request_behind now.history e in
    let mine : e.input ≡ set_by who p.name p.value = input ∙ ap (λ (w : ℕ). set_by w p.name p.value) a.client in record {
      asked = a.asked ++ r ∷ [];
      table = back.table ∙ a.table;
      client = back.who ∙ a.client;
      opening = back.opening ∙ a.opening;
      list =
          back.list ∙ ap (λ (l : List ClientItem). l ++ Asked r ∷ []) a.list ∙ sym (map-append (λ (q : ClientRequest). Asked q) a.asked (r ∷ []));
      inputs =
          map-append (λ (q : ClientRequest). q.input) a.asked (r ∷ []) ∙ ap (λ (l : List Input). l ++ e.input ∷ []) a.inputs
          ∙ ap (λ (i : Input). sets_for who requests ++ i ∷ []) mine
          ∙ sym (map-append (λ (q : Pair). set_by who q.name q.value) requests (p ∷ []));
      log =
          ap (λ (h : List Entry). requests_of who (log_of h)) next ∙ log_own who now.history e (ap asker_of mine)
          ∙ ap (λ (l : List ClientRequest). l ++ r ∷ []) a.log ∙ append_assoc (requests_of who (log_of old.history)) a.asked (r ∷ []);
    }

served_own : (who : ℕ) (requests : List Pair) (verdicts : List Verdict) (entries : List Entry) (e : Entry) (p : Pair) (v : Verdict)
    → e.input ≡ set_by who p.name p.value → last_of e.outputs ≡ Some (line_for v) → has_entry (answer_in v) ≡ true
    → AreServed who requests verdicts entries → AreServed who (requests ++ p ∷ []) (verdicts ++ v ∷ []) (entries ++ e ∷ [])
served_own who requests verdicts entries e p v mine told reached a =
    let more : entries_of who (entries ++ e ∷ []) ≡ entries_of who entries ++ e ∷ [] = entries_own who entries e (ap asker_of mine) in record {
      asked =
          ap inputs_of more ∙ map-append (λ (x : Entry). x.input) (entries_of who entries) (e ∷ [])
          ∙ ap (λ (l : List Input). l ++ e.input ∷ []) a.asked ∙ ap (λ (i : Input). sets_for who requests ++ i ∷ []) mine
          ∙ sym (map-append (λ (q : Pair). set_by who q.name q.value) requests (p ∷ []));
      answers =
          ap last_lines more ∙ map-append (λ (x : Entry). last_of x.outputs) (entries_of who entries) (e ∷ [])
          ∙ ap (λ (l : List (Option Output)). l ++ last_of e.outputs ∷ []) a.answers
          ∙ ap (λ (o : Option Output). map (λ (w : Verdict). Some (line_for w)) verdicts ++ o ∷ []) told
          ∙ sym (map-append (λ (w : Verdict). Some (line_for w)) verdicts (v ∷ []));
      reached = all_end (λ (w : Verdict). has_entry (answer_in w) ≡ true) verdicts v a.reached reached;
    }

own : (area : TableId) (old now then : ServiceView) (who : ℕ) (requests : List Pair) (entries : List Entry) (seat after : Seat) (p : Pair)
    → IsServed area old now who requests entries seat → (h : HasServed now then seat after p)
    → IsServed area old then who (requests ++ p ∷ []) (entries ++ entry_in now then seat after p h ∷ []) after
own area old now then who requests entries seat after p was h =
    let e : Entry = set_entry now h.before p.name p.value in
    let is : was.reader ≡ h.before = some_is was.reader h.before (sym was.there ∙ h.had) in
    let asked : HasAsked area old now who requests h.before = subst (λ (r : Seated). HasAsked area old now who requests r) is was.asked in
    let mine : e.input ≡ set_by who p.name p.value = ap (λ (w : ℕ). set_by w p.name p.value) asked.client in record {
      reader = h.after;
      there = h.has;
      asked = asked_own area old now then who requests h.before h.after e p refl h.set.history h.set.comes_back asked;
      served =
          subst (λ (l : List Verdict). AreServed who (requests ++ p ∷ []) l (entries ++ e ∷ [])) (sym h.verdicts)
          (served_own who requests seat.verdicts entries e p h.verdict mine h.set.told h.reached was.served);
    }

-- ---- the other sessions

other : (area : TableId) (old now then : ServiceView) (who : ℕ) (requests : List Pair) (entries : List Entry) (seat : Seat) (e : Entry)
    → asker_of e.input ≢ who → then.history ≡ now.history ++ e ∷ []
    → IsServed area old now who requests entries seat → IsServed area old then who requests (entries ++ e ∷ []) seat
other area old now then who requests entries seat e isnt next was =
    let same : entries_of who (entries ++ e ∷ []) ≡ entries_of who entries = entries_other who entries e isnt in record {
      reader = was.reader;
      there = was.there;
      asked = record {
        asked = was.asked.asked;
        table = was.asked.table;
        client = was.asked.client;
        opening = was.asked.opening;
        list = was.asked.list;
        inputs = was.asked.inputs;
        log = ap (λ (h : List Entry). requests_of who (log_of h)) next ∙ log_other who now.history e isnt ∙ was.asked.log;
      };
      served = record {
        asked = ap inputs_of same ∙ was.served.asked;
        answers = ap last_lines same ∙ was.served.answers;
        reached = was.served.reached;
      };
    }

-- ---- all sessions

-- the session that stands at a seat's place
pub its_session : (area : TableId) (old : ServiceView) (sessions : List Session) (got : List Item) (now : ServiceView) (seats : List Seat) (k : ℕ) (seat : Seat)
    → Serves area old sessions got now seats → slice_get seats k ≡ Some seat → (s : Session) × (slice_get sessions k ≡ Some s)
its_session area old sessions got now seats k seat h at =
    there_is sessions k (omega (arith, h.many, slice_get_within seats k seat at))

-- its reader may make sets
pub may_set : (area : TableId) (old : ServiceView) (sessions : List Session) (got : List Item) (now : ServiceView) (seats : List Seat) (k : ℕ) (seat : Seat)
    → Serves area old sessions got now seats → slice_get seats k ≡ Some seat → IfSome seat.reader (MaySet area)
may_set area old sessions got now seats k seat h at =
    let s = its_session area old sessions got now seats k seat h at in
    let was = h.each k s.0 seat s.1 at in
    let declared = all_at (λ (x : Session). (1 ≤ x.who.0) × (x.who.0 ≤ length old.opening.config.domains)) sessions k s.0 h.clients.declared s.1 in
    subst (λ (o : Option Seated). IfSome o (MaySet area)) (sym was.there)
    (was.asked.table, subst (λ (x : Option LogOpening × ℕ). DeclaredIn x.0 x.1) (λ i. (sym was.asked.opening i, sym was.asked.client i)) declared)

pub serves_next : (area : TableId) (old : ServiceView) (sessions : List Session) (got : List Item) (item : Item) (now then : ServiceView) (seats : List Seat) (seat after : Seat)
    → Serves area old sessions got now seats → slice_get seats item.session ≡ Some seat → HasServed now then seat after item.request
    → Serves area old sessions (got ++ item ∷ []) then (set seats item.session after)
serves_next area old sessions got item now then seats seat after h at served =
    let j : ℕ = item.session in
    let its = its_session area old sessions got now seats j seat h at in
    let was = h.each j its.0 seat its.1 at in
    let e : Entry = set_entry now served.before item.request.name item.request.value in
    let is : was.reader ≡ served.before = some_is was.reader served.before (sym was.there ∙ served.had) in
    let who : asker_of e.input ≡ its.0.who.0 = ap (λ (r : Seated). r.view.who) (sym is) ∙ was.asked.client in
    let entries : List Entry = h.entries ++ e ∷ [] in record {
      entries = entries;
      clients = h.clients;
      history = served.set.history ∙ ap (λ (l : List Entry). l ++ e ∷ []) h.history ∙ append_assoc old.history h.entries (e ∷ []);
      opening = served.set.opening ∙ h.opening;
      ready = served.set.ready;
      entered = λ q. served.set.seats q ∙ h.entered q;
      own = all_end (λ (x : Entry). IsSetOf sessions x.input) h.entries e h.own (client_at sessions j its.0 (asker_of e.input) its.1 (sym who));
      many = length-set seats j after ∙ h.many;
      each = λ k s x at_k there. ⊎_elim
          (λ (same : (k ≡ j) × (after ≡ x)).
          let whose : its.0 ≡ s = same_at sessions j k its.0 s its.1 at_k (sym same.0) in
          let pairs : pairs_of j got ++ item.request ∷ [] ≡ pairs_of k (got ++ item ∷ []) =
          sym (of_own j got item refl) ∙ ap (λ (n : ℕ). pairs_of n (got ++ item ∷ [])) (sym same.0) in
          subst (λ (y : Session × List Pair × Seat). IsServed area old then y.0.who.0 y.1 entries y.2)
          (λ i. (whose i, pairs i, same.1 i))
          (own area old now then its.0.who.0 (pairs_of j got) h.entries seat after item.request was served))
          (λ (apart : (k ≢ j) × (slice_get seats k ≡ Some x)).
          let isnt : asker_of e.input ≢ s.who.0 = λ one. differ sessions h.clients.different j k its.0 s its.1 at_k (λ jk. apart.0 (sym jk)) (sym who ∙ one) in
          subst (λ (l : List Pair). IsServed area old then s.who.0 l entries x) (sym (of_other k got item (λ jk. apart.0 (sym jk))))
          (other area old now then s.who.0 (pairs_of k got) h.entries x e isnt served.set.history (h.each k s x at_k apart.1)))
          (get_set seats j k after x there);
    }

-- what the call that serves a request has done
pub served_of : (old new : ServiceView) (seat now : Seat) (before : Seated) (back : Option Seated) (p : Pair) (answer : Result Accepted SetRefusal) (v : Verdict)
    → seat.reader ≡ Some before → now.reader ≡ back → now.verdicts ≡ seat.verdicts ++ v ∷ [] → answer_in v ≡ answer → has_entry answer ≡ true
    → HasSet old new before back p.name p.value answer → HasServed old new seat now p
served_of old new seat now before None p answer v had has verdicts is reached s = absurd s.comes_back
served_of old new seat now before (Some after) p answer v had has verdicts is reached s = record {
  before = before;
  after = after;
  verdict = v;
  had = had;
  has = has;
  verdicts = verdicts;
  reached = ap has_entry is ∙ reached;
  set = subst (λ (a : Result Accepted SetRefusal). HasSet old new before (Some after) p.name p.value a) (sym is) s;
}

-- ---- the clients enter

new_served : (area : TableId) (old now : ServiceView) (who : ℕ) (seat : Seat) → now.history ≡ old.history → IsNew area old.opening who seat
    → IsServed area old now who [] [] seat
new_served area old now who seat same n = record {
  reader = n.reader;
  there = n.there;
  asked = record {
    asked = [];
    table = n.table;
    client = n.client;
    opening = n.opening;
    list = n.list;
    inputs = refl;
    log = ap (λ (h : List Entry). requests_of who (log_of h)) same ∙ sym (append-nil (requests_of who (log_of old.history)));
  };
  served = subst (λ (l : List Verdict). AreServed who [] l []) (sym n.verdicts)
      (record { asked = refl; answers = refl; reached = λ k d less. absurd (omega (arith, less)) });
}

-- nothing is served yet
pub serves_none : (area : TableId) (old : ServiceView) (sessions : List Session) (now : ServiceView) (seats : List Seat) → AreOfClients old.opening sessions
    → HaveEntered area old sessions now seats → Serves area old sessions [] now seats
serves_none area old sessions now seats clients h = record {
  entries = [];
  clients = clients;
  history = h.history ∙ sym (append-nil old.history);
  opening = h.opening;
  ready = h.ready;
  entered = h.entered;
  own = λ k d less. absurd (omega (arith, less));
  many = h.many;
  each = λ k s seat at there. new_served area old now s.who.0 seat h.history (h.each k s seat at there);
}

pub nobody_entered : (area : TableId) (s : ServiceView) (seats : List Seat) → s.spent ≡ false → seats ≡ [] → HaveEntered area s [] s seats
nobody_entered area s seats ready none = record {
  opening = refl;
  history = refl;
  ready = ready;
  entered = λ who. sym (or_none (has_seat s.seat who));
  many = ap (λ (l : List Seat). length l) none;
  each = λ k x seat at there. absurd (none_isnt x at);
}

pub one_entered : (area : TableId) (old : ServiceView) (done : List Session) (s : Session) (now then : ServiceView) (seats seats' : List Seat)
    → HaveEntered area old done now seats → HasEntered area now then s.who.0 seats seats' → HaveEntered area old (done ++ s ∷ []) then seats'
one_entered area old done s now then seats seats' h n = record {
  opening = n.opening ∙ h.opening;
  history = n.history ∙ h.history;
  ready = n.ready;
  entered = λ q.
      n.entered q ∙ ap (λ (b : Bool). b || (s.who.0 == q)) (h.entered q)
      ∙ or_all (has_seat old.seat q) (is_client_of done q) (s.who.0 == q)
      ∙ ap (λ (b : Bool). has_seat old.seat q || b) (sym (list_any-append (λ (x : Session). x.who.0 == q) done (s ∷ [])));
  many = omega (arith, ap (λ (l : List Seat). length l) n.added, length-append seats (n.seat ∷ []), length-append done (s ∷ []), h.many);
  each = λ k t x at there. ⊎_elim
      (λ (early : slice_get done k ≡ Some t). ⊎_elim
      (λ (low : slice_get seats k ≡ Some x). h.each k t x early low)
      (λ (last : (k ≡ length seats) × (n.seat ≡ x)). absurd (omega (arith, last.0, h.many, slice_get_within done k t early)))
      (get_end seats n.seat k x (sym (ap (λ (l : List Seat). slice_get l k) n.added) ∙ there)))
      (λ (late : (k ≡ length done) × (s ≡ t)). ⊎_elim
      (λ (low : slice_get seats k ≡ Some x). absurd (omega (arith, late.0, h.many, slice_get_within seats k x low)))
      (λ (last : (k ≡ length seats) × (n.seat ≡ x)).
      subst (λ (y : Opening × ℕ × Seat). IsNew area y.0 y.1 y.2) (λ i. (h.opening i, (late.1 i).who.0, last.1 i)) n.is_new)
      (get_end seats n.seat k x (sym (ap (λ (l : List Seat). slice_get l k) n.added) ∙ there)))
      (get_end done s k t at);
}

-- what holds where a call succeeds
pub given_ok : {T E : Type 0} (r : Result T E) (P : Type 0) → is_err r ≡ false → OnOk r P → P
given_ok (Ok x) P fine holds = holds
given_ok (Err e) P fine holds = absurd (true≢false fine)

-- ---- the next client may enter

pub is_known : (o : Opening) (sessions : List Session) (k : ℕ) (s : Session) (now : ServiceView) → AreOfClients o sessions → slice_get sessions k ≡ Some s
    → now.opening ≡ o → s.who.0 ≤ length now.opening.config.domains
is_known o sessions k s now clients at same =
    let declared = all_at (λ (x : Session). (1 ≤ x.who.0) × (x.who.0 ≤ length o.config.domains)) sessions k s clients.declared at in
    subst (λ (p : Opening). s.who.0 ≤ length p.config.domains) (sym same) declared.1

pub is_fresh : (area : TableId) (old : ServiceView) (sessions : List Session) (k : ℕ) (s : Session) (now : ServiceView) (seats : List Seat)
    → AreDifferent sessions → HaveNotEntered old.seat sessions → HaveEntered area old (take k sessions) now seats → slice_get sessions k ≡ Some s
    → has_seat now.seat s.who.0 ≡ false
is_fresh area old sessions k s now seats different fresh h at =
    let was = all_at (λ (x : Session). has_seat old.seat x.who.0 ≡ false) sessions k s fresh at in
    h.entered s.who.0 ∙ ap (λ (b : Bool). b || is_client_of (take k sessions) s.who.0) was ∙ not_before sessions different k s at

-- what a call that ends well has done
pub then_ok : {T E : Type 0} (r : Result T E) (Fine : Type 0) (Was Is : T → Type 0) → OnOk r Fine → IfOk r Was → (Fine → (x : T) → Was x → Is x) → IfOk r Is
then_ok (Ok x) Fine Was Is fine was step = step fine x was
then_ok (Err e) Fine Was Is fine was step = tt
