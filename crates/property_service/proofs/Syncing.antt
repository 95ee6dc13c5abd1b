-- What a desk keeps, once a client was told the count of sets.
use Rattle.std.proofs.Common.{◌≡◌, ℕ, ◌≤◌, Bool, false, List, [], ◌∷◌, ◌++◌, length, None, refl, sym, ap, ◌∙◌, subst, ⊎_elim, arith}
use Rattle.atomic_table.specs.Seated.{TableId}
use Rattle.init_core.specs.Core.{CoreView}
use Rattle.init_machine.specs.Facts.{Stands}
use Rattle.init_machine.specs.History.{sets_of}
use Rattle.init_machine.specs.Orderly.{ListStands, seen_through}
use Rattle.init_machine.specs.Sets.{Set}
use Rattle.init_machine.specs.State.{State}
use Rattle.init_machine.specs.declared.client.ClientItem.{ClientItem}
use Rattle.init_machine.specs.declared.client.ClientItem.TheVariants.{Told}
use Rattle.init_machine.specs.declared.report.Reading.{Reading}
use Rattle.init_machine.specs.declared.report.Reading.TheVariants.{Again, Synced}
use Rattle.property_area.specs.Area.{list_in, out_seat}
use Rattle.property_area.specs.Readers.{IsIn, client_in, client_of, handed, handing, others_in, seen_by, synced, taking}
use Rattle.property_area.specs.Seats.{Seated, sets_in, store_of}
use Rattle.property_area.specs.declared.view.AreaView.{AreaView}
use Rattle.property_area.specs.declared.view.Client.{Client}
use Rattle.property_service.proofs.Clients.{client_first, list_behind, none_left, others_else, seat_own, seats_again}
use Rattle.property_service.proofs.Moves.{CameIn, same_service}
use Rattle.property_service.proofs.Seats.{keeps_seats}
use Rattle.property_service.specs.Back.{ComesBack}
use Rattle.property_service.specs.Desk.{DeskHolds}
use Rattle.property_service.specs.Service.{ServiceView, has_seat, recorded_service}
use Rattle.serial_value.specs.impl_laws.Lists.{in_order-end}
use Rattle.serial_value.specs.impl_laws.Places.{at_end}

same_told : (r r' : Reading) → Told r ≡ Told r' → r ≡ r'
same_told r r' e = cc

-- a client was told a count of sets
pub told_count : (sets began : List Set) (list : List ClientItem) (n : ℕ) → ListStands sets None began list → seen_through (length began) list ≤ n → n ≤ length sets
    → ListStands sets None began (list ++ Told (Synced n) ∷ [])
told_count sets began list n h after within = record {
  begins = h.begins;
  each = λ i reading e. ⊎_elim
      (λ old. h.each i reading old)
      (λ (t : (i ≡ length list) × (Told (Synced n) ≡ Told reading)). subst (Stands sets None) (same_told (Synced n) reading t.1) within)
      (at_end list (Told (Synced n)) (Told reading) i e);
  orderly = record {
    order = in_order-end (length began) list (Told (Synced n)) h.orderly.order after (omega arith);
    rise = λ i j k k' name first first' second second' less e e'. ⊎_elim
        (λ old. ⊎_elim
        (λ old'. h.orderly.rise i j k k' name first first' second second' less old old')
        (λ (t : (j ≡ length list) × (Told (Synced n) ≡ Told (Again name k' first' second'))). let d = t.1 in absurd (cc))
        (at_end list (Told (Synced n)) (Told (Again name k' first' second')) j e'))
        (λ (t : (i ≡ length list) × (Told (Synced n) ≡ Told (Again name k first second))). let d = t.1 in absurd (cc))
        (at_end list (Told (Synced n)) (Told (Again name k first second)) i e);
  };
}

-- a reader comes in, its client is told the count, and it is handed out again
module _ {area : TableId} {core : CoreView Seated} {seats : List Bool} {reader : Seated} (h : DeskHolds area core seats)
    {first : Seated} (came_in : CameIn core.store reader first) where
  abbrev v : AreaView
  v = core.store.view

  abbrev s : ServiceView
  s = recorded_service v false

  abbrev came : AreaView
  came = taking v reader.view

  abbrev told : AreaView
  told = synced reader.view.who came

  abbrev pub synced_out : AreaView
  synced_out = handing reader.view.who told

  pub may_sync : {who : ℕ} → who ≡ reader.view.who → IsIn first.view who
  may_sync is = (λ j. out_seat ((came_in.view j).out) (is j)) ∙ seat_own v.out reader.view.who

  -- the views of the writer's seat and of the reader then
  pub view_told : {second : AreaView} {who : ℕ} → who ≡ reader.view.who → second ≡ synced who first.view → second ≡ told
  view_told is made = made ∙ (λ j. synced (is j) (came_in.view j))

  pub may_go_out : {second : AreaView} {who : ℕ} → who ≡ reader.view.who → second ≡ synced who first.view → IsIn second who
  may_go_out is made = (λ j. out_seat ((view_told is made j).out) (is j)) ∙ seat_own v.out reader.view.who

  pub view_out : {second third : AreaView} {who : ℕ} → who ≡ reader.view.who → second ≡ synced who first.view → third ≡ handing who second → third ≡ handing reader.view.who told
  view_out is made out = out ∙ (λ j. handing (is j) (view_told is made j))

  pub view_back : {second back : AreaView} {who : ℕ} → who ≡ reader.view.who → second ≡ synced who first.view → back ≡ handed who second → back ≡ handed reader.view.who told
  view_back is made out = out ∙ (λ j. handed (is j) (view_told is made j))

  client_now : client_in came.clients reader.view.who (sets_in came) ≡ client_of reader.view
  client_now = client_first (client_of reader.view) (others_in v.clients reader.view.who) reader.view.who (sets_in came) refl

  seated_now : (q : ℕ) → has_seat synced_out q ≡ has_seat v q
  seated_now q = seats_again v.out reader.view.who reader.id v.seats q came_in.only

  idle_now : (q : ℕ) → list_in synced_out.clients q ≡ []
  idle_now =
      let c = record (client_in came.clients reader.view.who (sets_in came)) {
        list = (client_in came.clients reader.view.who (sets_in came)).list ++ Told (Synced (length (sets_in came))) ∷ [];
      } in
      let mine : c.who ≡ reader.view.who = ap (λ (x : Client). x.who) client_now in
      none_left told.clients reader.view.who (λ q other.
      list_behind c (others_in came.clients reader.view.who) q (λ is. other (sym mine ∙ is))
      ∙ others_else came.clients reader.view.who q other
      ∙ list_behind (client_of reader.view) (others_in v.clients reader.view.who) q other
      ∙ others_else v.clients reader.view.who q other
      ∙ h.idle q)

  pub keeps_synced : (core' : CoreView Seated) → core'.store.view ≡ synced_out → core'.store.table ≡ core.store.table → core'.spent ≡ core.spent
      → core'.config ≡ core.config → core'.policy ≡ core.policy → core'.state ≡ (let t : State = record core.state { props = store_of v } in t)
      → DeskHolds area core' seats
  keeps_synced core' view table ready config policy state =
      keeps_seats area core core' seats seats synced_out h view table ready config policy state refl refl refl refl refl
      (λ q. h.seated q ∙ sym (seated_now q)) idle_now

  pub count_told : length (sets_in first.view) ≡ length (sets_of s.history)
  count_told = ap (λ (x : AreaView). length (sets_in x)) came_in.view ∙ ap (λ (l : List Set). length l) h.agrees.sets

  pub count_now : length (sets_in first.view) ≡ length (sets_in v)
  count_now = ap (λ (x : AreaView). length (sets_in x)) came_in.view

  client_back : client_in told.clients reader.view.who (sets_in told)
      ≡ (let x : Client = record (client_of reader.view) { list = reader.view.list ++ Told (Synced (length (sets_in v))) ∷ [] } in x)
  client_back =
      let c : Client → Client = λ x. record x { list = x.list ++ Told (Synced (length (sets_in v))) ∷ [] } in
      let mine : (client_in came.clients reader.view.who (sets_in came)).who ≡ reader.view.who = ap (λ (x : Client). x.who) client_now in
      client_first (c (client_in came.clients reader.view.who (sets_in came))) (others_in came.clients reader.view.who) reader.view.who (sets_in told) mine
      ∙ ap c client_now

  pub comes_synced : (back : Seated) → back.table ≡ reader.table → back.view ≡ handed reader.view.who told
      → ComesBack reader back (Told (Synced (length (sets_in v)))) (length (sets_in v))
  comes_synced back table view = record {
    table = table;
    who = ap (λ (x : AreaView). x.who) view;
    opening = ap (λ (x : AreaView). x.opening) view ∙ sym came_in.opening;
    began = ap (λ (x : AreaView). x.began) view ∙ ap (λ (x : Client). x.began) client_back;
    list = ap (λ (x : AreaView). x.list) view ∙ ap (λ (x : Client). x.list) client_back;
    number = ap (λ (x : AreaView). seen_by x.cell) view;
  }

  pub stands_synced : (back : Seated) → back.view ≡ handed reader.view.who told → ListStands (sets_of s.history) None back.view.began back.view.list
  stands_synced back view =
      let seen = came_in.stands.2 in
      let made : ListStands (sets_in v) None reader.view.began (reader.view.list ++ Told (Synced (length (sets_in v))) ∷ []) =
      told_count (sets_in v) reader.view.began reader.view.list (length (sets_in v)) came_in.stands.0 seen (omega arith) in
      let began = ap (λ (x : AreaView). x.began) view ∙ ap (λ (x : Client). x.began) client_back in
      let list = ap (λ (x : AreaView). x.list) view ∙ ap (λ (x : Client). x.list) client_back in
      subst (λ (x : List Set × List Set × List ClientItem). ListStands x.0 None x.1 x.2) (λ j. (h.agrees.sets j, sym began j, sym list j)) made

  pub shown_synced : (w : AreaView) → w ≡ synced_out → (recorded_service w false ≡ (let t : ServiceView = record s { seat = w } in t)) × ((q : ℕ) → has_seat w q ≡ has_seat v q)
  shown_synced w is =
      (same_service v w (ap (λ (x : AreaView). x.opening) is) (ap (λ (x : AreaView). x.log) is), λ q. ap (λ (x : AreaView). has_seat x q) is ∙ seated_now q)
