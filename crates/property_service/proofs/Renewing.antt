-- What a desk keeps, once a reader was taken in and handed out again.
use Rattle.std.proofs.Common.{◌≡◌, ℕ, ◌≤◌, Bool, false, List, [], length, None, refl, sym, ap, ◌∙◌, subst}
use Rattle.atomic_table.specs.Seated.{TableId}
use Rattle.init_core.specs.Core.{CoreView}
use Rattle.init_machine.specs.History.{sets_of}
use Rattle.init_machine.specs.Orderly.{ListStands, seen_through}
use Rattle.init_machine.specs.Sets.{Set}
use Rattle.init_machine.specs.State.{State}
use Rattle.property_area.specs.Area.{list_in, out_seat}
use Rattle.property_area.specs.Readers.{IsIn, client_in, client_of, handed, handing, others_in, seen_by, taking}
use Rattle.property_area.specs.Seats.{Seated, sets_in, store_of}
use Rattle.property_area.specs.declared.view.AreaView.{AreaView}
use Rattle.property_area.specs.declared.view.Client.{Client}
use Rattle.property_service.proofs.Clients.{client_first, list_behind, none_left, others_else, seat_own, seats_again}
use Rattle.property_service.proofs.Moves.{CameIn, same_service}
use Rattle.property_service.proofs.Seats.{keeps_seats}
use Rattle.property_service.specs.Back.{ComesAgain}
use Rattle.property_service.specs.Desk.{DeskHolds}
use Rattle.property_service.specs.Service.{ServiceView, has_seat, recorded_service}

module _ {area : TableId} {core : CoreView Seated} {seats : List Bool} {reader : Seated} (h : DeskHolds area core seats)
    {first : Seated} (came_in : CameIn core.store reader first) where
  abbrev v : AreaView
  v = core.store.view

  abbrev s : ServiceView
  s = recorded_service v false

  abbrev came : AreaView
  came = taking v reader.view

  abbrev pub renewed : AreaView
  renewed = handing reader.view.who came

  pub may_return : {who : ℕ} → who ≡ reader.view.who → IsIn first.view who
  may_return is = (λ j. out_seat ((came_in.view j).out) (is j)) ∙ seat_own v.out reader.view.who

  pub view_renewed : {after : AreaView} {who : ℕ} → who ≡ reader.view.who → after ≡ handing who first.view → after ≡ renewed
  view_renewed is out = out ∙ (λ j. handing (is j) (came_in.view j))

  pub view_again : {back : AreaView} {who : ℕ} → who ≡ reader.view.who → back ≡ handed who first.view → back ≡ handed reader.view.who came
  view_again is out = out ∙ (λ j. handed (is j) (came_in.view j))

  client_now : client_in came.clients reader.view.who (sets_in came) ≡ client_of reader.view
  client_now = client_first (client_of reader.view) (others_in v.clients reader.view.who) reader.view.who (sets_in came) refl

  seated_now : (q : ℕ) → has_seat renewed q ≡ has_seat v q
  seated_now q = seats_again v.out reader.view.who reader.id v.seats q came_in.only

  idle_now : (q : ℕ) → list_in renewed.clients q ≡ []
  idle_now =
      none_left came.clients reader.view.who (λ q other.
      list_behind (client_of reader.view) (others_in v.clients reader.view.who) q other
      ∙ others_else v.clients reader.view.who q other
      ∙ h.idle q)

  pub keeps_renewed : (core' : CoreView Seated) → core'.store.view ≡ renewed → core'.store.table ≡ core.store.table → core'.spent ≡ core.spent
      → core'.config ≡ core.config → core'.policy ≡ core.policy → core'.state ≡ (let t : State = record core.state { props = store_of v } in t)
      → DeskHolds area core' seats
  keeps_renewed core' view table ready config policy state =
      keeps_seats area core core' seats seats renewed h view table ready config policy state refl refl refl refl refl
      (λ q. h.seated q ∙ sym (seated_now q)) idle_now

  pub comes_again : (back : Seated) → back.table ≡ reader.table → back.view ≡ handed reader.view.who came → ComesAgain (sets_of s.history) reader back
  comes_again back table view = record {
    table = table;
    who = ap (λ (x : AreaView). x.who) view;
    opening = ap (λ (x : AreaView). x.opening) view ∙ sym came_in.opening;
    began = ap (λ (x : AreaView). x.began) view ∙ ap (λ (x : Client). x.began) client_now;
    list = ap (λ (x : AreaView). x.list) view ∙ ap (λ (x : Client). x.list) client_now;
    stands = subst (λ (l : List Set). ListStands l None reader.view.began reader.view.list) h.agrees.sets came_in.stands.0;
    within = subst (λ (l : List Set). seen_through (length reader.view.began) reader.view.list ≤ length l) h.agrees.sets came_in.stands.2;
    number = ap (λ (x : AreaView). seen_by x.cell) view ∙ ap (λ (l : List Set). length l) h.agrees.sets;
  }

  pub shown_renewed : (w : AreaView) → w ≡ renewed → (recorded_service w false ≡ (let t : ServiceView = record s { seat = w } in t)) × ((q : ℕ) → has_seat w q ≡ has_seat v q)
  shown_renewed w is =
      (same_service v w (ap (λ (x : AreaView). x.opening) is) (ap (λ (x : AreaView). x.log) is), λ q. ap (λ (x : AreaView). has_seat x q) is ∙ seated_now q)
