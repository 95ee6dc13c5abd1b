-- What a desk keeps, once seats were handed out alone: a client entered, or was told the count of sets.
use Rattle.std.proofs.Common.{◌≡◌, ◌≢◌, ℕ, ◌<◌, Bool, true, false, ◌==◌, ◌||◌, List, [], length, get_or, set, Result, Ok, Err, IfOk, IsOkAnd, length-set, refl, sym, ap, ◌∙◌, subst, ⊎_elim}
use Rattle.std.proofs.lemmas.Bool.{cases_Bool, eqb-true}
use Rattle.std.proofs.lemmas.List.{get_or-set_other, get_or-set_same}
use Rattle.atomic_table.specs.Seated.{TableId}
use Rattle.init_core.specs.Core.{CoreView}
use Rattle.init_machine.specs.Props.{Props}
use Rattle.init_machine.specs.State.{State}
use Rattle.property_area.specs.Area.{list_in, out_seat}
use Rattle.property_area.specs.Readers.{IsIn, handed, handing}
use Rattle.property_area.specs.Seats.{Seated, sets_in, store_of}
use Rattle.property_area.specs.declared.view.AreaView.{AreaView}
use Rattle.property_service.proofs.Clients.{apart, list_client, no_seat, none_left, or_false, or_true, seats_more}
use Rattle.property_service.proofs.Moves.{same_service}
use Rattle.property_service.specs.Desk.{DeskHolds, DeskKeeps}
use Rattle.property_service.specs.Service.{ServiceView, has_seat, recorded_service}

-- Nothing but the seats changed: the writer's view has the same opening, record and sets.
pub keeps_seats : (area : TableId) (core core' : CoreView Seated) (seats seats' : List Bool) (w : AreaView) → DeskHolds area core seats
    → core'.store.view ≡ w → core'.store.table ≡ core.store.table → core'.spent ≡ core.spent → core'.config ≡ core.config → core'.policy ≡ core.policy
    → core'.state ≡ (let t : State = record core.state { props = store_of core.store.view } in t)
    → w.opening ≡ core.store.view.opening → w.log ≡ core.store.view.log → sets_in w ≡ sets_in core.store.view → store_of w ≡ store_of core.store.view
    → length seats' ≡ length seats → ((q : ℕ) → get_or seats' q false ≡ has_seat w q) → ((q : ℕ) → list_in w.clients q ≡ [])
    → DeskHolds area core' seats'
keeps_seats area core core' seats seats' w h view table ready config policy state opening log sets props wide seated idle =
    let v = core.store.view in
    let s : ServiceView = recorded_service v false in
    let s' : ServiceView = record s { seat = w } in
    let same : store_of v ≡ core.state.props = h.agrees.props ∙ sym (ap (λ (t : State). t.props) h.state) in
    let kept : DeskKeeps area s' core' seats' = record {
      agrees = record {
        legal = h.agrees.legal;
        declared = h.agrees.declared;
        sets = sets ∙ h.agrees.sets;
        opened = opening ∙ h.agrees.opened;
        log = log ∙ h.agrees.log;
        props = props ∙ h.agrees.props;
      };
      table = table ∙ h.table;
      ready = ready ∙ h.ready;
      config = config ∙ h.config;
      policy = policy ∙ h.policy;
      state = state ∙ ap (λ (p : Props). let t : State = record core.state { props = p } in t) same ∙ h.state;
      few = h.few;
      wide = wide ∙ h.wide;
      seated = seated;
      idle = idle;
    } in
    subst (λ (t : ServiceView). DeskKeeps area t core' seats') (sym (ap (λ (x : AreaView). recorded_service x false) view ∙ same_service v w opening log)) kept

seat_noted : (seats : List Bool) (who q : ℕ) → who < length seats → get_or (set seats who true) q false ≡ (get_or seats q false || (who == q))
seat_noted seats who q within = ⊎_elim
    (λ (same : (who == q) ≡ true).
    ap (λ (x : ℕ). get_or (set seats who true) x false) (sym (eqb-true who q same))
    ∙ get_or-set_same seats who true false within
    ∙ sym (ap (λ (b : Bool). get_or seats q false || b) same ∙ or_true (get_or seats q false)))
    (λ (differs : (who == q) ≡ false).
    let other : q ≢ who = λ is. apart who q differs (sym is) in
    get_or-set_other seats who q true false other
    ∙ sym (ap (λ (b : Bool). get_or seats q false || b) differs ∙ or_false (get_or seats q false)))
    (cases_Bool (who == q))

-- a client enters
module _ (area : TableId) (core : CoreView Seated) (seats : List Bool) (who : ℕ) (h : DeskHolds area core seats)
    (free : has_seat core.store.view who ≡ false) (within : who < length seats) where
  abbrev v : AreaView
  v = core.store.view

  pub may_enter : IsIn v who
  may_enter = no_seat (out_seat v.out who) free

  pub list_entered : (handed who v).list ≡ []
  list_entered = sym (list_client v.clients who (sets_in v)) ∙ h.idle who

  pub keeps_entered : (core' : CoreView Seated) (seats' : List Bool) → seats' ≡ set seats who true → core'.store.view ≡ handing who v
      → core'.store.table ≡ core.store.table → core'.spent ≡ core.spent → core'.config ≡ core.config → core'.policy ≡ core.policy
      → core'.state ≡ (let t : State = record core.state { props = store_of v } in t) → DeskHolds area core' seats'
  keeps_entered core' seats' noted view table ready config policy state =
      subst (λ (l : List Bool). DeskHolds area core' l) (sym noted)
      (keeps_seats area core core' seats (set seats who true) (handing who v) h view table ready config policy state refl refl refl refl (length-set seats who true)
      (λ q. seat_noted seats who q within ∙ ap (λ (b : Bool). b || (who == q)) (h.seated q) ∙ sym (seats_more v.out who v.seats q))
      (none_left v.clients who (λ q other. h.idle q)))

-- what holds of a success
pub ok_and : {T E : Type 0} (P Q : T → Type 0) (r : Result T E) → ((x : T) → P x → Q x) → IsOkAnd r P → IfOk r Q
ok_and P Q (Ok x) step holds = step x holds
ok_and P Q (Err e) step holds = tt
