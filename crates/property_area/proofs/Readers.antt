-- A client's seat is split off and taken in, and a client is told the count of sets: the rule of the area holds.
use Rattle.std.proofs.Common.{◌≡◌, ◌≢◌, ℕ, suc, ◌+◌, ◌≤◌, List, [], ◌∷◌, ◌++◌, length, get_or, set, max, Option, Some, None, Bool, true, false, ◌==◌, if◌then◌else◌, sym, refl, ap, ◌∙◌, subst, ⊎_elim, arith, length-set, length-append, ne_eqb, eq-eqb}
use Rattle.std.proofs.lemmas.Bool.{cases_Bool, eqb-true}
use mathlib.Core.Option.{some, some-ne-none}
use mathlib.Core.Logic.{dite}
use native.Mathlib.Decide.{ℕ_discrete}
use lib.ListN.{get_elem?}
use lib.Seq.{set-get_or}
use Rattle.std.specs.Prelude.{IsTrue}
use Rattle.std.proofs.Math.Nat.{le-max_left, max-le}
use Rattle.std.proofs.lemmas.List.{append-nil}
use Rattle.atomic_table.specs.Table.{Me, Allows, Splits, Joins, keeps, stepped}
use Rattle.atomic_table.proofs.Lists.{at_set, set_else}
use Rattle.init_machine.specs.Sets.{Set}
use Rattle.init_machine.specs.Orderly.{ListStands, seen_through}
use Rattle.init_machine.specs.History.{sets_in as sets_in_outputs}
use Rattle.init_machine.specs.declared.report.Entry.{Entry}
use Rattle.init_machine.specs.declared.client.ClientRequest.{ClientRequest}
use Rattle.init_machine.specs.declared.report.Reading.TheVariants.{Again, Synced, Caught}
use Rattle.init_machine.specs.declared.client.ClientItem.{ClientItem}
use Rattle.init_machine.specs.declared.client.ClientItem.TheVariants.{Told, Asked}
use Rattle.serial_value.specs.declared.view.Making.{Making}
use Rattle.serial_value.specs.declared.view.CellView.{CellView}
use Rattle.serial_value.specs.declared.view.CellView.TheVariants.{Writer, Reader}
use Rattle.serial_value.specs.Cell.{sets_of, name_of}
use Rattle.serial_value.specs.World.{World, ListHolds, ReaderHolds}
use Rattle.serial_value.specs.impl_laws.Lists.{MayTell, tells, seen_through-end, in_order-end}
use Rattle.serial_value.specs.impl_laws.Places.{at_end}
use Rattle.serial_value.proofs.Agains.{few_by_sets}
use Rattle.property_area.specs.declared.view.Client.{Client}
use Rattle.property_area.specs.declared.view.AreaView.{AreaView}
use Rattle.property_area.specs.declared.view.LogOpening.{LogOpening}
use Rattle.property_area.specs.declared.view.LogEntry.{LogEntry}
use Rattle.property_area.specs.declared.view.Arrival.{Arrival}
use Rattle.property_area.specs.Area.{requests_in, requests_of, out_seat, list_in, Moment, world_of, WordsHold, ClientsHold, Brings, ArrivalHolds, AskedHolds, PartHolds, ViewHolds, AreaHolds}
use Rattle.property_area.specs.Seats.{sets_in, IsStill}
use Rattle.property_area.specs.Readers.{client_in, others_in, IsIn, without, handing, handed, client_of, arriving, put_away, spent, synced, seen_by, caught, asker_of, request_of, recording, opening_with, ComesNext, EachClientStands}
use Rattle.property_area.specs.impl_laws.Requests.{requests_told, requests_asked, requests_own, requests_other, asked_told}
use Rattle.property_area.specs.impl_laws.Frame.{St, Carried, Mine, mine, reads}

-- an empty list that begins with the sets that there are, or with none
fresh_list : (w : World) (began more : List Set) → w.sets ≡ began ++ more → ListHolds w began []
fresh_list w began more is = let e = ap (λ (s : List Set). length s) is in let l = length-append began more in record {
  stands = record {
    begins = (more, is);
    each = λ i reading none. absurd (some-ne-none _ (sym none));
    orderly = record { order = tt; rise = λ i j n n' name first first' second second' less none none'. absurd (some-ne-none _ (sym none)) };
  };
  seen = omega arith;
  met = λ name i n first second none. absurd (some-ne-none _ (sym none));
}

client_holds : (w : World) (clients : List Client) (who : ℕ) (sets : List Set) → sets ≡ w.sets → ClientsHold w clients
    → ListHolds w (client_in clients who sets).began (client_in clients who sets).list
client_holds w [] who sets is h = fresh_list w sets [] (sym is ∙ sym (append-nil sets))
client_holds w (c ∷ clients) who sets is h =
    elim (c.who == who) as (λ b. ListHolds w (let x : Client = if b then c else client_in clients who sets in x.began) (let x : Client = if b then c else client_in clients who sets in x.list)) [
      | true ↦ h.0
      | false ↦ client_holds w clients who sets is h.1
    ]

others_hold : (w : World) (clients : List Client) (who : ℕ) → ClientsHold w clients → ClientsHold w (others_in clients who)
others_hold w [] who h = tt
others_hold w (c ∷ clients) who h =
    elim (c.who == who) as (λ b. ClientsHold w (if b then others_in clients who else c ∷ others_in clients who)) [
      | true ↦ others_hold w clients who h.1
      | false ↦ (h.0, others_hold w clients who h.1)
    ]

-- the list of a client
list_client : (clients : List Client) (who : ℕ) (sets : List Set) → list_in clients who ≡ (client_in clients who sets).list
list_client [] who sets = refl
list_client (c ∷ clients) who sets =
    elim (c.who == who) as (λ b. (if b then c.list else list_in clients who) ≡ (let x : Client = if b then c else client_in clients who sets in x.list)) [
      | true ↦ refl
      | false ↦ list_client clients who sets
    ]

-- the lists of the others stay
list_others : (clients : List Client) (who q : ℕ) → who ≢ q → list_in (others_in clients who) q ≡ list_in clients q
list_others [] who q other = refl
list_others (c ∷ clients) who q other = ⊎_elim
    (λ (same : (c.who == who) ≡ true).
    let not_q : (c.who == q) ≡ false = ne_eqb c.who q (λ is. other (sym (eqb-true c.who who same) ∙ is)) in
    ap (λ (b : Bool). list_in (if b then others_in clients who else c ∷ others_in clients who) q) same
    ∙ list_others clients who q other
    ∙ sym (ap (λ (b : Bool). if b then c.list else list_in clients q) not_q))
    (λ (differs : (c.who == who) ≡ false).
    ap (λ (b : Bool). list_in (if b then others_in clients who else c ∷ others_in clients who) q) differs
    ∙ ap (λ (l : List ClientItem). if c.who == q then c.list else l) (list_others clients who q other))
    (cases_Bool (c.who == who))

-- the list of a client that came, and of another
list_first : (c : Client) (clients : List Client) → list_in (c ∷ clients) c.who ≡ c.list
list_first c clients = ap (λ (b : Bool). if b then c.list else list_in clients c.who) (eq-eqb c.who c.who refl)

list_behind : (c : Client) (clients : List Client) (q : ℕ) → c.who ≢ q → list_in (c ∷ clients) q ≡ list_in clients q
list_behind c clients q other = ap (λ (b : Bool). if b then c.list else list_in clients q) (ne_eqb c.who q other)

-- the seats of the clients but for one
seat_without : (out : List (ℕ × ℕ)) (who q : ℕ) → who ≢ q → out_seat (without out who) q ≡ out_seat out q
seat_without [] who q other = refl
seat_without (o ∷ out) who q other = ⊎_elim
    (λ (same : (o.0 == who) ≡ true).
    let not_q : (o.0 == q) ≡ false = ne_eqb o.0 q (λ is. other (sym (eqb-true o.0 who same) ∙ is)) in
    ap (λ (b : Bool). out_seat (if b then without out who else o ∷ without out who) q) same
    ∙ seat_without out who q other
    ∙ sym (ap (λ (b : Bool). if b then suc o.1 else out_seat out q) not_q))
    (λ (differs : (o.0 == who) ≡ false).
    ap (λ (b : Bool). out_seat (if b then without out who else o ∷ without out who) q) differs
    ∙ ap (λ (n : ℕ). if o.0 == q then suc o.1 else n) (seat_without out who q other))
    (cases_Bool (o.0 == who))

seat_behind : (out : List (ℕ × ℕ)) (who seat q : ℕ) → who ≢ q → out_seat ((who, seat) ∷ out) q ≡ out_seat out q
seat_behind out who seat q other = ap (λ (b : Bool). if b then suc seat else out_seat out q) (ne_eqb who q other)

seat_first : (out : List (ℕ × ℕ)) (who seat : ℕ) → out_seat ((who, seat) ∷ out) who ≡ suc seat
seat_first out who seat = ap (λ (b : Bool). if b then suc seat else out_seat out who) (eq-eqb who who refl)

client_who : (clients : List Client) (who : ℕ) (sets : List Set) → (client_in clients who sets).who ≡ who
client_who [] who sets = refl
client_who (c ∷ clients) who sets =
    elim (c.who == who) as (λ b. (c.who == who) ≡ b → (let x : Client = if b then c else client_in clients who sets in x.who) ≡ who) [
      | true ↦ λ e. eqb-true c.who who e
      | false ↦ λ e. client_who clients who sets
    ] refl

-- no seat is coming in
none_comes : (v : AreaView) → IsStill v → ArrivalHolds v
none_comes v still a is = let e : None ≡ Some a = sym still ∙ is in absurd (cc)

-- the record of the writer is another
module _ (words : List ℕ) (m : Moment) (out : List (ℕ × ℕ)) (seats : ℕ) (opening : Option LogOpening) (log : List LogEntry) where
  abbrev m' : Moment
  m' = record m { out = out; seats = seats; opening = opening; log = log }

  words_on : WordsHold words m → WordsHold words m'
  words_on h = record {
    few = h.few;
    legal = h.legal;
    fit = h.fit;
    head = h.head;
    late = h.late;
    empty = h.empty;
    trie = h.trie;
    made = h.made;
    cells = h.cells;
  }

  part_on : (seat : ℕ) (cell : CellView) (v : AreaView) → seat ≢ m.writer → (AskedHolds m seat v → AskedHolds m' seat v) → PartHolds (world_of words m) m seat cell v → PartHolds (world_of words m) m' seat cell v
  part_on seat (Writer sets making) v other asked part = absurd (other part.0)
  part_on seat (Reader number copying) v other asked part = (part.0, part.1, asked part.2)

  view_on : (seat : ℕ) (v : AreaView) → seat ≢ m.writer → (AskedHolds m seat v → AskedHolds m' seat v) → ViewHolds words m seat v → ViewHolds words m' seat v
  view_on seat v other asked h = record { width = h.width; trie = h.trie; part = part_on seat v.cell v other asked h.part }

  own_on : (id : ℕ) (v : AreaView) (view : ViewHolds words m id v) (making : Option Making) → v.cell ≡ Writer (sets_of v.cell) making → (clients : List Client) → ClientsHold (world_of words m) clients
      → ((who : ℕ) → out_seat out who ≡ 0 → requests_in (list_in clients who) ≡ requests_of who log)
      → (came : Option Arrival) → ArrivalHolds (record v { clients = clients; out = out; seats = seats; came = came; opening = opening; log = log })
      → ViewHolds words m' id (record v { clients = clients; out = out; seats = seats; came = came; opening = opening; log = log })
  own_on id v view making is clients h inside came arrival =
      let known = mine words m id v (sets_of v.cell) making view is in record {
        width = view.width;
        trie = view.trie;
        part = subst (λ (c : CellView). PartHolds (world_of words m) m' id c (record v { clients = clients; out = out; seats = seats; came = came; opening = opening; log = log })) (sym is)
            (known.writes, known.sets_are, known.making_is, known.adding_is, known.head_is, h, (refl, refl, refl, refl, inside, arrival));
      }

-- what the rule says of the writer's own view
own_known : (s : St) (h : AreaHolds s) (id : ℕ) (v : AreaView) (making : Option Making) → get_elem? s.views id ≡ some v → v.cell ≡ Writer (sets_of v.cell) making
    → Mine s.words h.moment id v (sets_of v.cell) making
own_known s h id v making here is = mine s.words h.moment id v (sets_of v.cell) making (h.each id v here) is

pub area_splits : (who id : ℕ) (v : AreaView) (making : Option Making) → v.cell ≡ Writer (sets_of v.cell) making → IsStill v → IsIn v who → Splits AreaHolds id v (handing who v) (handed who v)
area_splits who id v making is still free s h here =
    let m = h.moment in
    let w = world_of s.words m in
    let known = own_known s h id v making here is in
    let kept = known.requests in
    let count = ap (λ (x : List Set). length x) known.sets_are in
    let list = client_holds w v.clients who (sets_of v.cell) known.sets_are known.clients in
    let seen = list.seen in
    let left = handing who v in
    let out = (who, v.seats) ∷ v.out in
    let seats : ℕ = v.seats + 1 in
    let long = length-set s.views id left in
    let there = h.there in
    let seats_now : v.seats ≡ length s.views = kept.1 ∙ h.count in
    let free_now : out_seat m.out who ≡ 0 = ap (λ (o : List (ℕ × ℕ)). out_seat o who) (sym kept.0) ∙ free in
    let others : (u : AreaView) (seat : ℕ) → AskedHolds m seat u → AskedHolds (record m { out = out; seats = seats; opening = v.opening; log = v.log }) seat u =
    λ u seat a live. let t = a live in (
      t.0 ∙ sym kept.2,
      seat_behind v.out who v.seats u.who (λ same. let z : out_seat m.out u.who ≡ 0 = ap (out_seat m.out) (sym same) ∙ free_now in let y = t.1 in absurd (omega arith))
          ∙ ap (λ (o : List (ℕ × ℕ)). out_seat o u.who) kept.0 ∙ t.1,
      t.2 ∙ ap (requests_of u.who) (sym kept.3),
    ) in record {
      moment = record m { out = out; seats = seats; opening = v.opening; log = v.log };
      words = words_on s.words m out seats v.opening v.log h.words;
      there = let l = length-append (set s.views id left) (handed who v ∷ []) in omega arith;
      count = let l = length-append (set s.views id left) (handed who v ∷ []) in omega arith;
      each = λ seat u e. ⊎_elim
          (λ old. ⊎_elim
          (λ (t : (seat ≡ id) × (left ≡ u)). subst (λ (x : ℕ × AreaView). ViewHolds s.words (record m { out = out; seats = seats; opening = v.opening; log = v.log }) x.0 x.1) (λ j. (sym t.0 j, t.1 j))
          (own_on s.words m out seats v.opening v.log id v (h.each id v here) making is (others_in v.clients who) (others_hold w v.clients who known.clients)
          (λ q none. let other : who ≢ q = λ same. let z : out_seat out q ≡ suc v.seats = ap (out_seat out) (sym same) ∙ seat_first v.out who v.seats in absurd (omega arith) in
          ap requests_in (list_others v.clients who q other)
          ∙ kept.4 q (ap (λ (o : List (ℕ × ℕ)). out_seat o q) (sym kept.0) ∙ sym (seat_behind v.out who v.seats q other) ∙ none)
          ∙ ap (requests_of q) (sym kept.3))
          v.came (none_comes left still)))
          (λ (t : (seat ≢ id) × (get_elem? s.views seat ≡ some u)).
          view_on s.words m out seats v.opening v.log seat u (λ is_writer. t.0 (is_writer ∙ sym known.writes)) (others u seat) (h.each seat u t.1))
          (at_set s.views id seat left u old))
          (λ (t : (seat ≡ length (set s.views id left)) × (handed who v ≡ u)). subst (ViewHolds s.words (record m { out = out; seats = seats; opening = v.opening; log = v.log }) seat) t.1 record {
            width = (h.each id v here).width;
            trie = record { known = λ name place none. let small = none.1 in absurd (omega arith); trail = tt };
            part = (
              (λ same. let at = t.0 in omega arith),
              record { early = omega arith; holds = list; seen = omega arith; copy = tt },
              (λ live. (
                refl,
                seat_first v.out who v.seats ∙ ap suc (seats_now ∙ sym long ∙ sym t.0),
                ap requests_in (sym (list_client v.clients who (sets_of v.cell))) ∙ kept.4 who free_now ∙ ap (requests_of who) (sym kept.3),
              )),
            );
          })
          (at_end (set s.views id left) (handed who v) u seat e);
    }

spent_holds : (w : World) → ReaderHolds w 0 None [] []
spent_holds w = record { early = omega arith; holds = fresh_list w [] w.sets refl; seen = omega arith; copy = tt }

pub area_joins : (id other came_from : ℕ) (v r : AreaView) (making : Option Making) (number words : ℕ) → v.cell ≡ Writer (sets_of v.cell) making → other ≡ came_from → r.cell ≡ Reader number None
    → IsTrue r.trie.live → v.words ≡ words → Joins AreaHolds id v other r (arriving came_from v r) (spent words)
area_joins id other came_from v r making number words is own_seat reads_is live wide s h here apart there =
    let m = h.moment in
    let new : AreaView = arriving came_from v r in
    let w = world_of s.words m in
    let known = own_known s h id v making here is in
    let kept = known.requests in
    let old_there = sym (set_else s.views id other new apart) ∙ there in
    let reader = subst (λ (c : CellView). PartHolds w m other c r) reads_is (h.each other r old_there).part in
    let asked = reader.2 live in
    let now_there = h.there in
    let now_count = h.count in
    let long = length-set s.views id new in
    let longer = length-set (set s.views id new) other (spent words) in
    let out = without v.out r.who in
    let seats_now = kept.1 in
    let client = client_of r in
    let clients = client ∷ others_in v.clients r.who in
    let arrived : Arrival = record { who = r.who; seat = came_from; before = v.out; opening = r.opening } in
    let brings : Brings new arrived = (
      asked.0 ∙ sym kept.2,
      ap (λ (o : List (ℕ × ℕ)). out_seat o r.who) kept.0 ∙ asked.1 ∙ ap suc own_seat,
      ap requests_in (list_first client (others_in v.clients r.who)) ∙ asked.2 ∙ ap (requests_of r.who) (sym kept.3),
    ) in
    let arrival : ArrivalHolds new = λ a is_a. let same : arrived ≡ a = cc in subst (Brings new) same brings in
    let others : (u : AreaView) (seat : ℕ) → seat ≢ other → AskedHolds m seat u → AskedHolds (record m { out = out; seats = v.seats; opening = v.opening; log = v.log }) seat u =
    λ u seat apart_too a live_too. let t = a live_too in (
      t.0 ∙ sym kept.2,
      seat_without v.out r.who u.who (λ same. let z : out_seat m.out u.who ≡ suc other = ap (out_seat m.out) (sym same) ∙ asked.1 in let y = t.1 in apart_too (omega arith))
          ∙ ap (λ (o : List (ℕ × ℕ)). out_seat o u.who) kept.0 ∙ t.1,
      t.2 ∙ ap (requests_of u.who) (sym kept.3),
    ) in record {
      moment = record m { out = out; seats = v.seats; opening = v.opening; log = v.log };
      words = words_on s.words m out v.seats v.opening v.log h.words;
      there = omega arith;
      count = omega arith;
      each = λ seat u e. ⊎_elim
          (λ (t : (seat ≡ other) × (spent words ≡ u)). subst (λ (x : ℕ × AreaView). ViewHolds s.words (record m { out = out; seats = v.seats; opening = v.opening; log = v.log }) x.0 x.1) (λ j. (sym t.0 j, t.1 j)) record {
            width = sym wide ∙ (h.each id v here).width;
            trie = record { known = λ name place none. let small = none.1 in absurd (omega arith); trail = tt };
            part = (reader.0, spent_holds w, (λ none. absurd (cc)));
          })
          (λ (t : (seat ≢ other) × (get_elem? (set s.views id new) seat ≡ some u)). ⊎_elim
          (λ (k : (seat ≡ id) × (new ≡ u)). subst (λ (x : ℕ × AreaView). ViewHolds s.words (record m { out = out; seats = v.seats; opening = v.opening; log = v.log }) x.0 x.1) (λ j. (sym k.0 j, k.1 j))
          (own_on s.words m out v.seats v.opening v.log id v (h.each id v here) making is clients (reader.1.holds, others_hold w v.clients r.who known.clients)
          (λ q none. dite (ℕ_discrete r.who q)
          (λ (same : r.who ≡ q). subst (λ (x : ℕ). requests_in (list_in clients x) ≡ requests_of x v.log) same
          (ap requests_in (list_first client (others_in v.clients r.who)) ∙ asked.2 ∙ ap (requests_of r.who) (sym kept.3)))
          (λ (differs : r.who ≢ q). ap requests_in (list_behind client (others_in v.clients r.who) q differs ∙ list_others v.clients r.who q differs)
          ∙ kept.4 q (ap (λ (o : List (ℕ × ℕ)). out_seat o q) (sym kept.0) ∙ sym (seat_without v.out r.who q differs) ∙ none)
          ∙ ap (requests_of q) (sym kept.3)))
          new.came arrival))
          (λ (k : (seat ≢ id) × (get_elem? s.views seat ≡ some u)).
          view_on s.words m out v.seats v.opening v.log seat u (λ is_writer. k.0 (is_writer ∙ sym known.writes)) (others u seat t.0) (h.each seat u k.1))
          (at_set s.views id seat new u t.1))
          (at_set (set s.views id new) other seat (spent words) u e);
    }

-- a load with which the writer's record grows, and one client's list with it
pub area_records : (who id i : ℕ) (cs : Carried) (v : AreaView) (making : Option Making) (s : St) (h : AreaHolds s) → get_elem? s.views id ≡ some v → v.cell ≡ Writer (sets_of v.cell) making
    → (client : Client) (log : List LogEntry) (opening : Option LogOpening) → client.who ≡ who → ListHolds (world_of s.words h.moment) client.began client.list
    → (out_seat v.out who ≡ 0 → requests_in client.list ≡ requests_of who log)
    → ((q : ℕ) → who ≢ q → requests_of q log ≡ requests_of q v.log)
    → (out_seat v.out who ≡ 0) → IsStill v
    → ((seat : ℕ) (u : AreaView) → AskedHolds h.moment seat u → IsTrue u.trie.live → opening ≡ h.moment.opening)
    → AreaHolds (stepped s i (get_or s.words i 0) id cs (record v { clients = client ∷ others_in v.clients who; opening = opening; log = log }) keeps)
area_records who id i cs v making s h here is client log opening named list own others free still opened =
    let m = h.moment in
    let w = world_of s.words m in
    let known = own_known s h id v making here is in
    let kept = known.requests in
    let clients = client ∷ others_in v.clients who in
    let new = record v { clients = clients; opening = opening; log = log } in
    let long = length-set s.views id new in
    let now_there = h.there in
    let now_count = h.count in
    let seats_now = kept.1 in
    let asked : (u : AreaView) (seat : ℕ) → AskedHolds m seat u → AskedHolds (record m { out = v.out; seats = v.seats; opening = opening; log = log }) seat u =
    λ u seat a live. let t = a live in (
      t.0 ∙ sym (opened seat u a live),
      ap (λ (o : List (ℕ × ℕ)). out_seat o u.who) kept.0 ∙ t.1,
      t.2 ∙ ap (requests_of u.who) (sym kept.3)
          ∙ sym (others u.who (λ same. let z : out_seat m.out u.who ≡ 0 = ap (out_seat m.out) (sym same) ∙ (ap (λ (o : List (ℕ × ℕ)). out_seat o who) (sym kept.0) ∙ free) in let y = t.1 in absurd (omega arith))),
    ) in
    subst (λ (ws : List ℕ). AreaHolds record { words = ws; homes = s.homes; views = set s.views id new }) (sym (set-get_or s.words i 0)) record {
      moment = record m { out = v.out; seats = v.seats; opening = opening; log = log };
      words = words_on s.words m v.out v.seats opening log h.words;
      there = omega arith;
      count = omega arith;
      each = λ seat u e. ⊎_elim
          (λ (t : (seat ≡ id) × (new ≡ u)). subst (λ (x : ℕ × AreaView). ViewHolds s.words (record m { out = v.out; seats = v.seats; opening = opening; log = log }) x.0 x.1) (λ j. (sym t.0 j, t.1 j))
          (own_on s.words m v.out v.seats opening log id v (h.each id v here) making is clients (list, others_hold w v.clients who known.clients)
          (λ q none. dite (ℕ_discrete who q)
          (λ (same : who ≡ q). subst (λ (x : ℕ). requests_in (list_in clients x) ≡ requests_of x log) same
          (ap (λ (x : ℕ). requests_in (list_in clients x)) (sym named) ∙ ap requests_in (list_first client (others_in v.clients who)) ∙ own free))
          (λ (differs : who ≢ q).
          ap requests_in (list_behind client (others_in v.clients who) q (λ e'. differs (sym named ∙ e')) ∙ list_others v.clients who q differs)
          ∙ kept.4 q (ap (λ (o : List (ℕ × ℕ)). out_seat o q) (sym kept.0) ∙ none)
          ∙ ap (requests_of q) (sym kept.3) ∙ sym (others q differs)))
          v.came (none_comes new still)))
          (λ (t : (seat ≢ id) × (get_elem? s.views seat ≡ some u)).
          view_on s.words m v.out v.seats opening log seat u (λ is_writer. t.0 (is_writer ∙ sym known.writes)) (asked u seat) (h.each seat u t.1))
          (at_set s.views id seat new u e);
    }

-- a client that has no seat is told the count
pub area_synced : (who slots id : ℕ) (m : Me (Unit {0}) AreaView) (making : Option Making) (i : ℕ) → m.0.cell ≡ Writer (sets_of m.0.cell) making → IsStill m.0 → IsIn m.0 who
    → Allows AreaHolds slots id m i (λ n. n) (λ n after. after ≡ (synced who m.0, m.1))
area_synced who slots id m making i is still free s h size here fits =
    let v = m.0 in
    let mo = h.moment in
    let w = world_of s.words mo in
    let known = own_known s h id v making here is in
    let kept = known.requests in
    let count = ap (λ (x : List Set). length x) known.sets_are in
    let client = client_in v.clients who (sets_of v.cell) in
    let list = client_holds w v.clients who (sets_of v.cell) known.sets_are known.clients in
    let seen = list.seen in
    let n : ℕ = length (sets_of v.cell) in
    let may : MayTell w client.began client.list (Synced n) = record {
      stands = omega arith;
      after = omega arith;
      seen = omega arith;
      again = λ q k first second e. absurd (cc);
    } in
    let free_now : out_seat mo.out who ≡ 0 = ap (λ (o : List (ℕ × ℕ)). out_seat o who) (sym kept.0) ∙ free in (
      synced who v,
      keeps,
      tt,
      area_records who id i m.1 v making s h here is (record client { list = client.list ++ Told (Synced n) ∷ [] }) v.log v.opening
          (client_who v.clients who (sets_of v.cell))
          (tells w client.began client.list list (Synced n) may)
          (λ _. requests_told client.list (Synced n) ∙ ap requests_in (sym (list_client v.clients who (sets_of v.cell))) ∙ kept.4 who free_now ∙ ap (requests_of who) (sym kept.3))
          (λ q other. refl) free still (λ seat u a live. kept.2),
      refl,
    )

-- a history is opened, while no client has a seat
pub area_begun : (opening : LogOpening) (slots id : ℕ) (m : Me (Unit {0}) AreaView) (making : Option Making) (i : ℕ) → m.0.cell ≡ Writer (sets_of m.0.cell) making → IsStill m.0 → m.0.out ≡ []
    → Allows AreaHolds slots id m i (λ n. n) (λ n after. after ≡ (opening_with opening m.0, m.1))
area_begun opening slots id me making i is still none s h size here fits =
    let v = me.0 in
    let m = h.moment in
    let known = own_known s h id v making here is in
    let kept = known.requests in
    let new = opening_with opening v in
    let long = length-set s.views id new in
    let now_there = h.there in
    let now_count = h.count in
    let seats_now = kept.1 in
    let asked : (u : AreaView) (seat : ℕ) → AskedHolds m seat u → AskedHolds (record m { out = v.out; seats = v.seats; opening = Some opening; log = v.log }) seat u =
    λ u seat a live. let t = a live in let z : out_seat m.out u.who ≡ 0 = ap (λ (o : List (ℕ × ℕ)). out_seat o u.who) (sym kept.0 ∙ none) in let y = t.1 in absurd (omega arith) in (
      new,
      keeps,
      tt,
      subst (λ (ws : List ℕ). AreaHolds record { words = ws; homes = s.homes; views = set s.views id new }) (sym (set-get_or s.words i 0)) record {
        moment = record m { out = v.out; seats = v.seats; opening = Some opening; log = v.log };
        words = words_on s.words m v.out v.seats (Some opening) v.log h.words;
        there = omega arith;
        count = omega arith;
        each = λ seat u e. ⊎_elim
            (λ (t : (seat ≡ id) × (new ≡ u)). subst (λ (x : ℕ × AreaView). ViewHolds s.words (record m { out = v.out; seats = v.seats; opening = Some opening; log = v.log }) x.0 x.1) (λ j. (sym t.0 j, t.1 j))
            (own_on s.words m v.out v.seats (Some opening) v.log id v (h.each id v here) making is v.clients known.clients
            (λ q free. kept.4 q (ap (λ (o : List (ℕ × ℕ)). out_seat o q) (sym kept.0) ∙ free) ∙ ap (requests_of q) (sym kept.3))
            v.came (none_comes new still)))
            (λ (t : (seat ≢ id) × (get_elem? s.views seat ≡ some u)).
            view_on s.words m v.out v.seats (Some opening) v.log seat u (λ is_writer. t.0 (is_writer ∙ sym known.writes)) (asked u seat) (h.each seat u t.1))
            (at_set s.views id seat new u e);
      },
      refl,
    )

-- a request at the end of a list
asks : (w : World) (began : List Set) (list : List ClientItem) (request : ClientRequest) → ListHolds w began list → seen_through (length began) list ≤ request.before
    → request.before ≤ request.after → request.after ≤ length w.sets → ListHolds w began (list ++ Asked request ∷ [])
asks w began list request h after more within = record {
  stands = record {
    begins = h.stands.begins;
    each = λ i reading e. ⊎_elim
        (λ old. h.stands.each i reading old)
        (λ (t : (i ≡ length list) × (Asked request ≡ Told reading)). let d = t.1 in absurd (cc))
        (at_end list (Asked request) (Told reading) i e);
    orderly = record {
      order = in_order-end (length began) list (Asked request) h.stands.orderly.order after more;
      rise = λ i j n n' name first first' second second' less e e'. ⊎_elim
          (λ old. ⊎_elim
          (λ old'. h.stands.orderly.rise i j n n' name first first' second second' less old old')
          (λ (t : (j ≡ length list) × (Asked request ≡ Told (Again name n' first' second'))). let d = t.1 in absurd (cc))
          (at_end list (Asked request) (Told (Again name n' first' second')) j e'))
          (λ (t : (i ≡ length list) × (Asked request ≡ Told (Again name n first second))). let d = t.1 in absurd (cc))
          (at_end list (Asked request) (Told (Again name n first second)) i e);
    };
  };
  seen = let e = seen_through-end (length began) list (Asked request) in omega arith;
  met = λ name i n first second e. ⊎_elim
      (λ old. h.met name i n first second old)
      (λ (t : (i ≡ length list) × (Asked request ≡ Told (Again name n first second))). let d = t.1 in absurd (cc))
      (at_end list (Asked request) (Told (Again name n first second)) i e);
}

-- an entry is recorded
pub area_noted : (entry : Entry) (slots id : ℕ) (m : Me (Unit {0}) AreaView) (making : Option Making) (i : ℕ) → m.0.cell ≡ Writer (sets_of m.0.cell) making → IsStill m.0 → ComesNext m.0 entry
    → Allows AreaHolds slots id m i (λ n. n) (λ n after. after ≡ (recording m.0 entry, m.1))
area_noted entry slots id m making i is still next s h size here fits =
    let v = m.0 in
    let mo = h.moment in
    let w = world_of s.words mo in
    let known = own_known s h id v making here is in
    let kept = known.requests in
    let who : ℕ = asker_of entry.input in
    let count = ap (λ (x : List Set). length x) known.sets_are in
    let split = ap (λ (x : List Set). length x) next.sets ∙ length-append next.earlier (sets_in_outputs entry.outputs) in
    let client = client_in v.clients who (sets_of v.cell) in
    let list = client_holds w v.clients who (sets_of v.cell) known.sets_are known.clients in
    let seen = next.seen in
    let request : ClientRequest = request_of v entry in
    let free = next.inside in
    let free_now : out_seat mo.out who ≡ 0 = ap (λ (o : List (ℕ × ℕ)). out_seat o who) (sym kept.0) ∙ free in
    let e : LogEntry = record { who = who; request = request } in (
      recording v entry,
      keeps,
      tt,
      area_records who id i m.1 v making s h here is (record client { list = client.list ++ Asked request ∷ [] }) (v.log ++ e ∷ []) v.opening
          (client_who v.clients who (sets_of v.cell))
          (asks w client.began client.list request list (omega arith) (omega arith) (omega arith))
          (λ _. requests_asked client.list request
          ∙ ap (λ (qs : List ClientRequest). qs ++ request ∷ []) (ap requests_in (sym (list_client v.clients who (sets_of v.cell))) ∙ kept.4 who free_now ∙ ap (requests_of who) (sym kept.3))
          ∙ sym (requests_own v.log e))
          (λ q other. requests_other v.log e q other) free still (λ seat u a live. kept.2),
      refl,
    )

-- a reader loads word 0
pub area_caught : (slots id : ℕ) (m : Me (Unit {0}) AreaView) (number : ℕ) → m.0.cell ≡ Reader number None
    → Allows AreaHolds slots id m 0 (λ n. n) (λ n after. after ≡ (caught n m.0, m.1))
area_caught slots id m number is s h size here fits =
    let v = m.0 in
    let mo = h.moment in
    let w = world_of s.words mo in
    let part = subst (λ (c : CellView). PartHolds w mo id c v) is (h.each id v here).part in
    let n : ℕ = get_or s.words 0 0 in
    let head = h.words.head in
    let within : n ≤ length mo.sets = ⊎_elim (λ (e : mo.head ≡ length mo.sets). omega arith) (λ (e : mo.head + 1 ≡ length mo.sets). omega arith) h.words.late in
    let own : seen_by v.cell ≡ number = ap seen_by is in
    let seen : ℕ = max number n in
    let high : seen ≤ length mo.sets = max-le part.1.early within in
    let low = le-max_left number n in
    let before = part.1.seen in
    let may : MayTell w v.began v.list (Caught seen) = record {
      stands = high;
      after = omega arith;
      seen = high;
      again = λ q k first second e. absurd (cc);
    } in
    let told : ReaderHolds w seen None v.began (v.list ++ Told (Caught seen) ∷ []) = record {
      early = high;
      holds = tells w v.began v.list part.1.holds (Caught seen) may;
      seen = let e = seen_through-end (length v.began) v.list (Told (Caught seen)) in omega arith;
      copy = tt;
    } in (
      caught n v,
      keeps,
      tt,
      reads s h 0 id m.1 (caught n v) record {
        width = (h.each id v here).width;
        trie = (h.each id v here).trie;
        part = (
          part.0,
          subst (λ (k : ℕ). ReaderHolds w (max k n) None v.began (v.list ++ Told (Caught (max k n)) ∷ [])) (sym own) told,
          asked_told mo id v (Caught (max (seen_by v.cell) n)) part.2,
        );
      },
      refl,
    )

clients_stand : (w : World) (clients : List Client) → w.making ≡ None → ClientsHold w clients → EachClientStands w.sets clients
clients_stand w [] none h = tt
clients_stand w (c ∷ clients) none h =
    let stands = subst (λ (o : Option (List ℕ)). ListStands w.sets o c.began c.list) none h.0.stands in
    ((stands, (λ name. few_by_sets w.sets None c.began c.list stands name), h.0.seen), clients_stand w clients none h.1)

-- a seat that has come in is put away, and what the clients were told stands in the writer's sets
pub area_put_away : (slots id : ℕ) (m : Me (Unit {0}) AreaView) (i : ℕ) → m.0.cell ≡ Writer (sets_of m.0.cell) None
    → Allows AreaHolds slots id m i (λ n. n) (λ n after. (after ≡ (put_away m.0, m.1)) × EachClientStands (sets_in m.0) m.0.clients × ArrivalHolds m.0)
area_put_away slots id m i is s h size here fits =
    let v = m.0 in
    let mo = h.moment in
    let w = world_of s.words mo in
    let known = own_known s h id v None here is in
    let kept = known.requests in
    let new : AreaView = put_away v in (
      new,
      keeps,
      tt,
      reads s h i id m.1 new record {
        width = (h.each id v here).width;
        trie = (h.each id v here).trie;
        part = subst (λ (c : CellView). PartHolds w mo id c new) (sym is) (
          known.writes,
          known.sets_are,
          known.making_is,
          known.adding_is,
          known.head_is,
          known.clients,
          (kept.0, kept.1, kept.2, kept.3, kept.4, none_comes new refl),
        );
      },
      (
        refl,
        subst (λ (x : List Set). EachClientStands x v.clients) (sym known.sets_are) (clients_stand w v.clients (ap name_of (sym known.making_is)) known.clients),
        kept.5,
      ),
    )

-- what the seat brought that came in
pub came_in : (seat : ℕ) (v r w : AreaView) → w ≡ arriving seat v r → ArrivalHolds w
    → (requests_in r.list ≡ requests_of r.who v.log) × (r.opening ≡ v.opening) × (out_seat v.out r.who ≡ suc seat)
came_in seat v r w is holds =
    let arrived : Arrival = record { who = r.who; seat = seat; before = v.out; opening = r.opening } in
    let t = subst ArrivalHolds is holds arrived refl in (ap requests_in (sym (list_first (client_of r) (others_in v.clients r.who))) ∙ t.2, t.0, t.1)
