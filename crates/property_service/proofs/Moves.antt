-- What a desk keeps, once an input is taken.
use Rattle.std.proofs.Common.{◌≡◌, ℕ, suc, ◌+◌, ◌-◌, ◌≤◌, Bool, false, List, [], ◌∷◌, ◌++◌, length, Option, Some, refl, sym, ap, ◌∙◌, subst, arith, length-append, nat_lt}
use Rattle.std.proofs.lemmas.List.{map-append}
use Rattle.atomic_table.specs.Seated.{TableId}
use Rattle.history_laws.proofs.Settling.{reached_settled}
use Rattle.init_core.specs.Core.{CoreView, step_of}
use Rattle.init_machine.specs.Changes.{Change}
use Rattle.init_machine.specs.History.{Legal, after, inputs_of, sets_in as sets_in_outputs, sets_of}
use Rattle.init_machine.specs.Orderly.{seen_through}
use Rattle.init_machine.specs.Props.{Props, more_sets}
use Rattle.init_machine.specs.Sets.{Set}
use Rattle.init_machine.specs.State.{Opening, State, first_state}
use Rattle.init_machine.specs.Step.{step}
use Rattle.init_machine.specs.declared.client.ClientItem.TheVariants.{Asked}
use Rattle.init_machine.specs.declared.client.ClientRequest.{ClientRequest}
use Rattle.init_machine.specs.declared.input.Input.{Input}
use Rattle.init_machine.specs.declared.output.Output.{Output}
use Rattle.init_machine.specs.declared.report.Entry.{Entry}
use Rattle.machine_laws.proofs.Legal.{history_is_legal, inputs_of_history, same_step}
use Rattle.machine_laws.specs.Histories.{history_of}
use Rattle.property_area.specs.Area.{list_in, out_seat}
use Rattle.property_area.specs.Readers.{ClientStands, ComesNext, IsAnswered, IsIn, answer_of, asker_of, client_in, client_of, handed, handing, others_in, recording, request_of, seen_by, taking, without}
use Rattle.property_area.specs.Seats.{IsSameBeside, IsSameSeated, Seated, sets_in, store_of}
use Rattle.property_area.specs.declared.view.AreaView.{AreaView}
use Rattle.property_area.specs.declared.view.Client.{Client}
use Rattle.property_area.specs.declared.view.LogEntry.{LogEntry}
use Rattle.property_area.specs.declared.view.LogOpening.{LogOpening}
use Rattle.property_service.proofs.Asking.{answered}
use Rattle.property_service.proofs.Clients.{client_first, list_behind, none_left, others_else, seat_own, seats_again}
use Rattle.property_service.proofs.Histories.{after-end, declared-end, entry_at, history-end, inputs_in-end, length-log, log-end, sets-end}
use Rattle.property_service.proofs.Openings.{may_declared}
use Rattle.property_service.specs.Back.{ComesBackFrom, request_behind}
use Rattle.property_service.specs.Desk.{DeskHolds, DeskKeeps}
use Rattle.property_service.specs.Record.{inputs_in, log_of, logged, opening_in, recorded}
use Rattle.property_service.specs.Service.{Agrees, EachDeclared, MayAsk, ServiceView, has_seat, next_entry, recorded_service, state_after}

-- the history of one more input
pub history_next : (o : Opening) (inputs : List Input) (i : Input)
    → history_of o (inputs ++ i ∷ []) ≡ history_of o inputs ++ entry_at o.config o.policy (after o (inputs_of (history_of o inputs))) i ∷ []
history_next o inputs i =
    history-end o.config o.policy (first_state o) inputs i
    ∙ ap (λ (xs : List Input). history_of o inputs ++ entry_at o.config o.policy (after o xs) i ∷ []) (sym (inputs_of_history o inputs))

-- nothing was recorded
pub same_service : (v w : AreaView) → w.opening ≡ v.opening → w.log ≡ v.log → recorded_service w false ≡ record (recorded_service v false) { seat = w }
same_service v w opening log = λ j. record {
  opening = opening_in (opening j);
  history = history_of (opening_in (opening j)) (inputs_in (log j));
  seat = w;
  spent = false;
}

-- one more entry was recorded
pub next_service : (v w : AreaView) (i : Input) (entry : LogEntry) → w.opening ≡ v.opening → w.log ≡ v.log ++ entry ∷ [] → entry.request.input ≡ i
    → let s = recorded_service v false in
    recorded_service w false ≡ record s { history = s.history ++ next_entry s i ∷ []; seat = w }
next_service v w i entry opening log is =
    let o = opening_in v.opening in
    let inputs = inputs_in v.log in
    let now : inputs_in w.log ≡ inputs ++ i ∷ [] =
    ap inputs_in log ∙ inputs_in-end v.log entry ∙ ap (λ (x : Input). inputs ++ x ∷ []) is in
    let service : List Entry → ServiceView = λ history. record { opening = o; history = history; seat = w; spent = false } in
    (λ j. let x : ServiceView = record {
      opening = opening_in (opening j);
      history = history_of (opening_in (opening j)) (now j);
      seat = w;
      spent = false;
    } in x)
    ∙ ap service (history_next o inputs i)

-- the state behind one more entry
pub state_next : (o : Opening) (history : List Entry) (e : Entry) → after o (inputs_of (history ++ e ∷ [])) ≡ (step o.config o.policy (after o (inputs_of history)) e.input).state
state_next o history e =
    ap (after o) (map-append (λ (x : Entry). x.input) history (e ∷ [])) ∙ after-end o.config o.policy (first_state o) (inputs_of history) e.input

-- What a writer's seat tells that has taken a reader in.
pub record CameIn (writer reader after : Seated) : Type 0 where
  pub same : IsSameSeated writer after
  pub view : after.view ≡ taking writer.view reader.view
  pub stands : ClientStands (sets_in writer.view) (client_of reader.view)
  pub opening : reader.view.opening ≡ writer.view.opening
  pub only : out_seat writer.view.out reader.view.who ≡ suc reader.id

pub came_to : (lent writer reader after : Seated) → lent ≡ writer → CameIn lent reader after → CameIn writer reader after
came_to lent writer reader after is = subst (λ (x : Seated). CameIn x reader after) is

same_some : (a b : List Set) → Some a ≡ Some b → a ≡ b
same_some a b is = cc

-- a state with the properties that it has
pub props_back : (s : State) (p : Props) → p ≡ s.props → (let t : State = record s { props = p } in t) ≡ s
props_back s p is = ap (λ (x : Props). let t : State = record s { props = x } in t) is

-- The reader came in, and the core took the input: the sets of its step are accepted.
pub record Took (area : TableId) (core : CoreView Seated) (seats : List Bool) (reader : Seated) (i : Input) (first second : Seated) : Type 0 where
  pub holds : DeskHolds area core seats
  pub asker : reader.view.who ≡ asker_of i
  pub may : MayAsk reader.view.opening i
  pub came : CameIn core.store reader first
  pub beside : IsSameBeside first second
  pub told : Some (sets_in second.view)
      ≡ more_sets (Some (sets_in first.view))
      (sets_in_outputs (step_of (let x : CoreView Seated = record core { store = first; state = record core.state { props = store_of first.view } } in x) i).lines)

module _ {area : TableId} {core : CoreView Seated} {seats : List Bool} {reader : Seated} {i : Input} {first second : Seated} (took : Took area core seats reader i first second) where
  abbrev v : AreaView
  v = core.store.view

  abbrev s : ServiceView
  s = recorded_service v false

  abbrev o : Opening
  o = s.opening

  abbrev e : Entry
  e = next_entry s i

  abbrev lent : CoreView Seated
  lent = record core { store = first; state = record core.state { props = store_of first.view } }

  known : MayAsk (Some (recorded o)) i
  known = subst (λ (x : Option LogOpening). MayAsk x i) (took.came.opening ∙ took.holds.agrees.opened) took.may

  state_lent : lent.state ≡ state_after s
  state_lent =
      let same : store_of first.view ≡ core.state.props = ap store_of took.came.view ∙ took.holds.agrees.props ∙ sym (ap (λ (t : State). t.props) took.holds.state) in
      ap (λ (p : Props). let t : State = record core.state { props = p } in t) same ∙ took.holds.state

  pub step_lent : step_of lent i ≡ step o.config o.policy (state_after s) i
  step_lent = (λ j. step (took.holds.config j) (took.holds.policy j) (state_lent j) i) ∙ same_step o.config o.policy [] (state_after s) i

  abbrev v2 : AreaView
  v2 = second.view

  sets_now : sets_in v2 ≡ sets_in v ++ sets_in_outputs e.outputs
  sets_now = same_some _ _ took.told ∙ (λ j. sets_in (took.came.view j) ++ sets_in_outputs ((step_lent j).lines))

  clients_now : v2.clients ≡ client_of reader.view ∷ others_in v.clients reader.view.who
  clients_now = sym took.beside.3 ∙ ap (λ (x : AreaView). x.clients) took.came.view

  out_now : v2.out ≡ without v.out reader.view.who
  out_now = sym took.beside.4 ∙ ap (λ (x : AreaView). x.out) took.came.view

  opening_now : v2.opening ≡ v.opening
  opening_now = sym took.beside.6 ∙ ap (λ (x : AreaView). x.opening) took.came.view

  log_now : v2.log ≡ v.log
  log_now = sym took.beside.7 ∙ ap (λ (x : AreaView). x.log) took.came.view

  -- the entry that comes next by what the writer's seat knows now
  pub entry_noted : next_entry (recorded_service v2 false) i ≡ e
  entry_noted = λ j. let now : ServiceView = record {
    opening = opening_in (opening_now j);
    history = history_of (opening_in (opening_now j)) (inputs_in (log_now j));
    seat = v2;
    spent = false;
  } in next_entry now i

  pub told_lines : {O : Type 0} (adds : O → O → List Output → Type 0) (old new : O) → adds old new (step_of lent i).lines → adds old new e.outputs
  told_lines adds old new = subst (λ (c : Change). adds old new c.lines) step_lent

  free : IsIn v2 (asker_of i)
  free = (λ j. out_seat (out_now j) (sym took.asker j)) ∙ seat_own v.out reader.view.who

  client_now : client_in v2.clients (asker_of i) (sets_in v2) ≡ client_of reader.view
  client_now =
      ap (λ (cs : List Client). client_in cs (asker_of i) (sets_in v2)) clients_now
      ∙ client_first (client_of reader.view) (others_in v.clients reader.view.who) (asker_of i) (sets_in v2) took.asker

  comes_next : ComesNext v2 e
  comes_next = record {
    earlier = sets_in v;
    sets = sets_now;
    inside = free;
    seen = subst (λ (c : Client). seen_through (length c.began) c.list ≤ length (sets_in v)) (sym client_now) took.came.stands.2;
  }

  pub may_note : (entry : Entry) → entry ≡ e → ComesNext v2 entry × IsAnswered entry
  may_note entry is =
      subst (λ (x : Entry). ComesNext v2 x × IsAnswered x) (sym is)
      (comes_next, answered o.config o.policy (state_after s) i (reached_settled o (inputs_of s.history)))

  -- the entry is recorded, and the reader handed out
  pub view_now : {third fourth : AreaView} {entry : Entry} {who : ℕ} → entry ≡ e → third ≡ recording v2 entry → who ≡ reader.view.who → fourth ≡ handing who third
      → fourth ≡ handing reader.view.who (recording v2 e)
  view_now made noted' same out = out ∙ (λ j. handing (same j) ((noted' ∙ ap (recording v2) made) j))

  pub view_back : {third back : AreaView} {entry : Entry} {who : ℕ} → entry ≡ e → third ≡ recording v2 entry → who ≡ reader.view.who → back ≡ handed who third
      → back ≡ handed reader.view.who (recording v2 e)
  view_back made noted' same out = out ∙ (λ j. handed (same j) ((noted' ∙ ap (recording v2) made) j))

  pub may_hand_out : {third : AreaView} {who : ℕ} (entry : Entry) → third ≡ recording v2 entry → who ≡ reader.view.who → IsIn third who
  may_hand_out {who = who} entry is same =
      ap (λ (x : AreaView). out_seat x.out who) is ∙ (λ j. out_seat (out_now j) (same j)) ∙ seat_own v.out reader.view.who

  abbrev noted : AreaView
  noted = recording v2 e

  request_is : request_of v2 e ≡ request_behind s.history e
  request_is =
      let places : length v2.log ≡ length s.history = ap (λ (l : List LogEntry). length l) (log_now ∙ took.holds.agrees.log) ∙ length-log s.history in
      let parts = ap (λ (l : List Set). length l) sets_now ∙ length-append (sets_in v) (sets_in_outputs e.outputs) in
      let olds = ap (λ (l : List Set). length l) took.holds.agrees.sets in
      let news = ap (λ (l : List Set). length l) (sets-end s.history e) ∙ length-append (sets_of s.history) (sets_in_outputs e.outputs) in
      let place : length v2.log + 1 ≡ length s.history + 1 = omega arith in
      let before : length (sets_in v2) - length (sets_in_outputs e.outputs) ≡ length (sets_of s.history) = omega arith in
      let after' : length (sets_in v2) ≡ length (sets_of (s.history ++ e ∷ [])) = omega arith in
      λ j. record { input = e.input; answer = answer_of e.input e.outputs; place = place j; before = before j; after = after' j }

  logged_is : (let x : LogEntry = record { who = asker_of i; request = request_of v2 e } in x) ≡ logged (length s.history) (length (sets_of s.history)) e
  logged_is =
      let now = request_is in
      let news = ap (λ (l : List Set). length l) (sets-end s.history e) ∙ length-append (sets_of s.history) (sets_in_outputs e.outputs) in
      ap (λ (r : ClientRequest). let x : LogEntry = record { who = asker_of i; request = r } in x) request_is
      ∙ ap (λ (n : ℕ). let x : LogEntry = record { who = asker_of i; request = record (request_behind s.history e) { after = n } } in x) news

  -- the writer's view, once the entry is recorded and the reader is handed out again
  abbrev pub handed_out : AreaView
  handed_out = handing reader.view.who noted

  abbrev s' : ServiceView
  s' = record s { history = s.history ++ e ∷ []; seat = handed_out }

  service_now : recorded_service handed_out false ≡ s'
  service_now =
      next_service v handed_out i (record { who = asker_of i; request = request_of v2 e }) opening_now
      (ap (λ (l : List LogEntry). l ++ record { who = asker_of i; request = request_of v2 e } ∷ []) log_now) refl

  agrees_now : store_of v2 ≡ (step_of lent i).state.props → Agrees s'
  agrees_now props = record {
    legal = subst (Legal o) (history_next o (inputs_in v.log) i) (history_is_legal o (inputs_in v.log ++ i ∷ []));
    declared =
        subst (EachDeclared o.config) (sym (map-append (λ (x : Entry). x.input) s.history (e ∷ [])))
        (declared-end o.config (inputs_of s.history) i took.holds.agrees.declared (may_declared o i known));
    sets = sets_now ∙ ap (λ (l : List Set). l ++ sets_in_outputs e.outputs) took.holds.agrees.sets ∙ sym (sets-end s.history e);
    opened = opening_now ∙ took.holds.agrees.opened;
    log =
        ap (λ (l : List LogEntry). l ++ record { who = asker_of i; request = request_of v2 e } ∷ []) (log_now ∙ took.holds.agrees.log)
        ∙ ap (λ (x : LogEntry). log_of s.history ++ x ∷ []) logged_is
        ∙ sym (log-end s.history e);
    props = props ∙ ap (λ (c : Change). c.state.props) step_lent ∙ sym (ap (λ (t : State). t.props) (state_next o s.history e));
  }

  seated_now : (q : ℕ) → has_seat handed_out q ≡ has_seat v q
  seated_now q =
      ap (λ (out : List (ℕ × ℕ)). nat_lt 0 (out_seat ((reader.view.who, v2.seats) ∷ out) q)) out_now
      ∙ seats_again v.out reader.view.who reader.id v2.seats q took.came.only

  idle_now : (q : ℕ) → list_in handed_out.clients q ≡ []
  idle_now =
      let c = record (client_in v2.clients (asker_of i) (sets_in v2)) {
        list = (client_in v2.clients (asker_of i) (sets_in v2)).list ++ Asked (request_of v2 e) ∷ [];
      } in
      let mine : c.who ≡ reader.view.who = ap (λ (x : Client). x.who) client_now in
      none_left noted.clients reader.view.who (λ q other.
      list_behind c (others_in v2.clients (asker_of i)) q (λ is. other (sym mine ∙ is))
      ∙ others_else v2.clients (asker_of i) q (λ is. other (took.asker ∙ is))
      ∙ ap (λ (cs : List Client). list_in cs q) clients_now
      ∙ list_behind (client_of reader.view) (others_in v.clients reader.view.who) q other
      ∙ others_else v.clients reader.view.who q other
      ∙ took.holds.idle q)

  pub keeps_now : (core' : CoreView Seated) → core'.store.view ≡ handed_out → core'.store.table ≡ second.table → core'.spent ≡ false
      → core'.config ≡ core.config → core'.policy ≡ core.policy → core'.state ≡ (step_of lent i).state → store_of v2 ≡ (step_of lent i).state.props
      → DeskHolds area core' seats
  keeps_now core' view table ready config policy state props =
      let kept : DeskKeeps area s' core' seats = record {
        agrees = agrees_now props;
        table = table ∙ sym took.beside.0 ∙ took.came.same.0 ∙ took.holds.table;
        ready = ready;
        config = config ∙ took.holds.config;
        policy = policy ∙ took.holds.policy;
        state = state ∙ ap (λ (c : Change). c.state) step_lent ∙ sym (state_next o s.history e);
        few = took.holds.few;
        wide = took.holds.wide;
        seated = λ q. took.holds.seated q ∙ sym (seated_now q);
        idle = idle_now;
      } in
      subst (λ (t : ServiceView). DeskKeeps area t core' seats) (sym (ap (λ (x : AreaView). recorded_service x false) view ∙ service_now)) kept

  -- the client as it is handed out
  client_back : client_in noted.clients reader.view.who (sets_in noted)
      ≡ (let x : Client = record (client_of reader.view) { list = reader.view.list ++ Asked (request_behind s.history e) ∷ [] } in x)
  client_back =
      let c : Client → ClientRequest → Client = λ x r. record x { list = x.list ++ Asked r ∷ [] } in
      let mine : (client_in v2.clients (asker_of i) (sets_in v2)).who ≡ reader.view.who = ap (λ (x : Client). x.who) client_now in
      client_first (c (client_in v2.clients (asker_of i) (sets_in v2)) (request_of v2 e)) (others_in v2.clients (asker_of i)) reader.view.who (sets_in noted) mine
      ∙ (λ j. c (client_now j) (request_is j))

  pub comes_back : (back : Seated) → back.table ≡ reader.table → back.view ≡ handed reader.view.who noted → ComesBackFrom s.history e reader back
  comes_back back table view = record {
    table = table;
    who = ap (λ (x : AreaView). x.who) view;
    opening = ap (λ (x : AreaView). x.opening) view ∙ opening_now ∙ sym took.came.opening;
    began = ap (λ (x : AreaView). x.began) view ∙ ap (λ (x : Client). x.began) client_back;
    list = ap (λ (x : AreaView). x.list) view ∙ ap (λ (x : Client). x.list) client_back;
    number = ap (λ (x : AreaView). seen_by x.cell) view ∙ ap (λ (r : ClientRequest). r.after) request_is;
  }

  -- what callers see of the desk
  pub shown_history : (w : AreaView) → w ≡ handed_out → (recorded_service w false).history ≡ s.history ++ e ∷ []
  shown_history w is = ap (λ (t : ServiceView). t.history) (ap (λ (x : AreaView). recorded_service x false) is ∙ service_now)

  pub shown_opening : (w : AreaView) → w ≡ handed_out → (recorded_service w false).opening ≡ s.opening
  shown_opening w is = ap (λ (t : ServiceView). t.opening) (ap (λ (x : AreaView). recorded_service x false) is ∙ service_now)

  pub shown_seats : (w : AreaView) → w ≡ handed_out → (q : ℕ) → has_seat w q ≡ has_seat v q
  shown_seats w is q = ap (λ (x : AreaView). has_seat x q) is ∙ seated_now q
