-- How readers are given back.
use Rattle.std.proofs.Common.{◌≡◌, ◌≢◌, All, ℕ, zero, suc, ◌<◌, length, get_or, set, arith, nat_lt, Bool, true, false, ◌==◌, List, [], ◌∷◌, ◌++◌, refl, sym, ap, ◌∙◌, subst, inl, inr, ⊎_elim}
use Rattle.std.proofs.lemmas.Bool.{cases_Bool, eqb-true}
use Rattle.std.proofs.lemmas.List.{append-nil, append_assoc, get_or-set_other, get_or-set_same}
use Rattle.std.proofs.lemmas.List.Elements.{All-cons, All-head, All-nil, All-tail}
use Rattle.init_machine.specs.Sets.{Set}
use Rattle.property_area.specs.Area.{out_seat, requests_in, requests_of}
use Rattle.property_area.specs.Readers.{ClientStands, client_of, taking}
use Rattle.property_area.specs.Seats.{Seated, sets_in}
use Rattle.property_area.specs.declared.view.AreaView.{AreaView}
use Rattle.property_service.proofs.Clients.{above, apart, seat_else, seat_own}
use Rattle.property_service.specs.Ending.{HasPart, HasReader, taking_all}
use Rattle.property_service.specs.Service.{has_seat}

-- what the readers leave as it is
pub taking_keeps : (v : AreaView) (readers : List Seated)
    → (sets_in (taking_all v readers) ≡ sets_in v) × ((taking_all v readers).log ≡ v.log) × ((taking_all v readers).opening ≡ v.opening)
taking_keeps v [] = (refl, refl, refl)
taking_keeps v (r ∷ readers) = taking_keeps v readers

-- once a reader is given back, its client has no seat, and the others are as before
pub left_own : (v : AreaView) (r : Seated) (q : ℕ) → r.view.who ≡ q → has_seat (taking v r.view) q ≡ false
left_own v r q is = subst (λ (x : ℕ). has_seat (taking v r.view) x ≡ false) is (ap (λ (n : ℕ). nat_lt 0 n) (seat_own v.out r.view.who))

pub left_else : (v : AreaView) (r : Seated) (q : ℕ) → r.view.who ≢ q → has_seat (taking v r.view) q ≡ has_seat v q
left_else v r q other = ap (λ (n : ℕ). nat_lt 0 n) (seat_else v.out r.view.who q other)

-- a client whose reader was given back
pub given_back : (v : AreaView) (readers : List Seated) (q : ℕ) → HasReader readers q → has_seat (taking_all v readers) q ≡ false
given_back v [] q has = absurd has
given_back v (r ∷ readers) q has = ⊎_elim
    (λ (is : r.view.who ≡ q). left_own (taking_all v readers) r q is)
    (λ later. ⊎_elim
    (λ (same : (r.view.who == q) ≡ true). left_own (taking_all v readers) r q (eqb-true r.view.who q same))
    (λ (differs : (r.view.who == q) ≡ false). left_else (taking_all v readers) r q (apart r.view.who q differs) ∙ given_back v readers q later)
    (cases_Bool (r.view.who == q)))
    has

-- another client
pub not_given : (v : AreaView) (readers : List Seated) (q : ℕ) → ¬ HasReader readers q → has_seat (taking_all v readers) q ≡ has_seat v q
not_given v [] q none = refl
not_given v (r ∷ readers) q none = left_else (taking_all v readers) r q (λ is. none (inl is)) ∙ not_given v readers q (λ later. none (inr later))

-- a client has a seat at the end exactly where it had one and no reader of it was given
pub missing_where : (v : AreaView) (readers : List Seated) (q : ℕ) → has_seat (taking_all v readers) q ≡ true → (has_seat v q ≡ true) × ¬ HasReader readers q
missing_where v readers q seated =
    let none : ¬ HasReader readers q = λ has. let gone = given_back v readers q has in let e : true ≡ false = sym seated ∙ gone in cc in
    (sym (not_given v readers q none) ∙ seated, none)

pub none_missing : (v : AreaView) (readers : List Seated) (q : ℕ) → has_seat (taking_all v readers) q ≡ false → ¬ ((has_seat v q ≡ true) × ¬ HasReader readers q)
none_missing v readers q free missing =
    let is = not_given v readers q missing.1 in let had = missing.0 in let e : true ≡ false = sym had ∙ sym is ∙ free in cc

-- where a client that has no seat is noted, one that has a seat is among those that are noted
pub within_seats : (seats : List Bool) (who : ℕ) → get_or seats who false ≡ true → who < length seats
within_seats [] who is = let e : false ≡ true = is in absurd (cc)
within_seats (b ∷ seats) zero is = omega arith
within_seats (b ∷ seats) (suc who) is = let below = within_seats seats who is in omega arith

-- one more client has no seat
pub seat_gone : (seats : List Bool) (v : AreaView) (r : Seated) → ((q : ℕ) → get_or seats q false ≡ has_seat v q) → r.view.who < length seats
    → (q : ℕ) → get_or (set seats r.view.who false) q false ≡ has_seat (taking v r.view) q
seat_gone seats v r seated within q = ⊎_elim
    (λ (same : (r.view.who == q) ≡ true).
    let is = eqb-true r.view.who q same in
    ap (λ (x : ℕ). get_or (set seats r.view.who false) x false) (sym is) ∙ get_or-set_same seats r.view.who false false within ∙ sym (left_own v r q is))
    (λ (differs : (r.view.who == q) ≡ false).
    let other : q ≢ r.view.who = λ is. apart r.view.who q differs (sym is) in
    get_or-set_other seats r.view.who q false false other ∙ seated q ∙ sym (left_else v r q (apart r.view.who q differs)))
    (cases_Bool (r.view.who == q))

-- a client whose seat came in had one
pub had_seat : (v : AreaView) (who id : ℕ) → out_seat v.out who ≡ suc id → has_seat v who ≡ true
had_seat v who id only = ap (λ (n : ℕ). nat_lt 0 n) only ∙ above id

at_middle : {T : Type 0} (P : T → Type 0) (xs : List T) (x : T) (ys : List T) → All P (xs ++ (x ∷ ys)) → P x
at_middle P [] x ys all = All-head P x ys all
at_middle P (y ∷ xs) x ys all = at_middle P xs x ys (All-tail P y (xs ++ (x ∷ ys)) all)

-- So far these readers were given back.
pub record Giving (writer : Seated) (seats : List Bool) (readers left : List Seated) (writer' : Seated) (seats' : List Bool) : Type 0 where
  pub given : List Seated
  pub split : readers ≡ left ++ given
  pub table : writer'.table ≡ writer.table
  pub view : writer'.view ≡ taking_all writer.view given
  pub seated : (q : ℕ) → get_or seats' q false ≡ has_seat writer'.view q
  pub wide : length seats' ≡ length seats
  pub parts : All (HasPart writer.view) given

pub none_given : (writer : Seated) (seats : List Bool) (readers : List Seated) → ((q : ℕ) → get_or seats q false ≡ has_seat writer.view q) → Giving writer seats readers readers writer seats
none_given writer seats readers seated = record {
  given = [];
  split = sym (append-nil readers);
  table = refl;
  view = refl;
  seated = seated;
  wide = refl;
  parts = All-nil (HasPart writer.view);
}

module _ (writer : Seated) (seats : List Bool) (readers left rest : List Seated) (writer' : Seated) (seats' : List Bool) (last : Seated) (so_far : Giving writer seats readers left writer' seats')
    (popped : left ≡ rest ++ last ∷ []) where
  pub same_area : All (λ (r : Seated). r.table ≡ writer.table) readers → last.table ≡ writer'.table
  same_area all =
      let is : readers ≡ rest ++ (last ∷ so_far.given) = so_far.split ∙ ap (λ (l : List Seated). l ++ so_far.given) popped ∙ append_assoc rest (last ∷ []) so_far.given in
      at_middle (λ (r : Seated). r.table ≡ writer.table) rest last so_far.given (subst (All (λ (r : Seated). r.table ≡ writer.table)) is all) ∙ sym so_far.table

  pub one_more : (after : Seated) → after.table ≡ writer'.table → after.view ≡ taking writer'.view last.view
      → ClientStands (sets_in writer'.view) (client_of last.view) → requests_in last.view.list ≡ requests_of last.view.who writer'.view.log
      → last.view.opening ≡ writer'.view.opening → last.view.who < length seats' → length (set seats' last.view.who false) ≡ length seats'
      → Giving writer seats readers rest after (set seats' last.view.who false)
  one_more after table view stands asked opening within wide =
      let keeps = taking_keeps writer.view so_far.given in
      let whole : (sets_in writer'.view ≡ sets_in writer.view) × (writer'.view.log ≡ writer.view.log) × (writer'.view.opening ≡ writer.view.opening) = (
        ap (λ (x : AreaView). sets_in x) so_far.view ∙ keeps.0,
        ap (λ (x : AreaView). x.log) so_far.view ∙ keeps.1,
        ap (λ (x : AreaView). x.opening) so_far.view ∙ keeps.2,
      ) in
      let part : HasPart writer.view last = record {
        opening = opening ∙ whole.2;
        asked = asked ∙ ap (requests_of last.view.who) whole.1;
        stands = subst (λ (x : List Set). ClientStands x (client_of last.view)) whole.0 stands;
      } in record {
        given = last ∷ so_far.given;
        split = so_far.split ∙ ap (λ (l : List Seated). l ++ so_far.given) popped ∙ append_assoc rest (last ∷ []) so_far.given;
        table = table ∙ so_far.table;
        view = view ∙ ap (λ (x : AreaView). taking x last.view) so_far.view;
        seated = λ q. seat_gone seats' writer'.view last so_far.seated within q ∙ sym (ap (λ (x : AreaView). has_seat x q) view);
        wide = wide ∙ so_far.wide;
        parts = All-cons (HasPart writer.view) last so_far.given part so_far.parts;
      }

module _ (writer : Seated) (seats : List Bool) (readers left : List Seated) (writer' : Seated) (seats' : List Bool) (end : Giving writer seats readers left writer' seats') (none : left ≡ []) where
  whole : readers ≡ end.given
  whole = end.split ∙ ap (λ (l : List Seated). l ++ end.given) none

  pub view_given : writer'.view ≡ taking_all writer.view readers
  view_given = end.view ∙ ap (taking_all writer.view) (sym whole)

  pub parts_given : All (HasPart writer.view) readers
  parts_given = subst (All (HasPart writer.view)) (sym whole) end.parts
