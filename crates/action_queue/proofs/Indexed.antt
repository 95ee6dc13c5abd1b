-- Places that are added to an index.
use Rattle.std.proofs.Common.{◌≡◌, ℕ, zero, suc, ◌+◌, ◌-◌, ◌<◌, ◌≤◌, Bool, true, false, ◌||◌, ◌==◌, List, [], ◌∷◌, ◌++◌, length, take, get_or, drop, Option, Some, refl, sym, ap, ◌∙◌, subst, arith, append_assoc, length-append, if◌then◌else◌}
use Rattle.std.proofs.lemmas.List.{append-nil}
use Rattle.std.specs.List.{list_any, slice_get}
use Rattle.std.specs.Str.{bytes_eq}
use Rattle.init_machine.specs.Matches.{tests, matches}
use Rattle.init_machine.specs.declared.action.Action.{Action}
use Rattle.init_machine.specs.declared.action.PropTest.{PropTest}
use Rattle.init_machine.specs.declared.event.Event.{Event}
use Rattle.init_machine.specs.declared.event.Event.TheVariants.{Named, Change, AllProperties, Mark}
use Rattle.action_queue.specs.Index.{place_if, are_below, is_at, ends_with, may_trigger, has_named, has_tested, is_without_event}
use Rattle.action_queue.specs.Pending.{places_from}
use Rattle.init_base.proofs.ByBytes.{same_bytes}
use Rattle.action_queue.proofs.Events.{or_assoc, or_false}
use Rattle.action_queue.proofs.Fronts.{front_is, both_true}
use Rattle.action_queue.proofs.Moves.{none_behind}

last_place : (xs : List ℕ) (at : ℕ) → slice_get (xs ++ at ∷ []) (length xs) ≡ Some at
last_place [] at = refl
last_place (x ∷ xs) at = last_place xs at

none_is_last : (xs : List ℕ) (i at : ℕ) → are_below at xs ≡ true → is_at at (slice_get xs i) ≡ false
none_is_last [] i at below = refl
none_is_last (x ∷ xs) zero at below = grind arith
none_is_last (x ∷ xs) (suc i) at below = none_is_last xs i at (grind arith)

-- the place is the last one where it was added to places before it
ends_with-added : (xs : List ℕ) (b : Bool) (at : ℕ) → are_below at xs ≡ true → ends_with at (xs ++ place_if b at) ≡ b
ends_with-added xs true at below =
    let e : length (xs ++ at ∷ []) - 1 ≡ length xs = omega (arith, length-append xs (at ∷ [])) in
    let itself : (at == at) ≡ true = grind arith in
    ap (λ n. is_at at (slice_get (xs ++ at ∷ []) n)) e ∙ ap (is_at at) (last_place xs at) ∙ itself
ends_with-added xs false at below = ap (ends_with at) (append-nil xs) ∙ none_is_last xs (length xs - 1) at below

list_any-push : {T : Type 0} (p : T → Bool) (xs : List T) (i : ℕ) (x : T) → i < length xs → x ≡ get_or xs i x → list_any p (take (i + 1) xs) ≡ list_any p (take i xs) || p x
list_any-push p [] i x within is = absurd (omega arith)
list_any-push p (y ∷ xs) zero x within is = or_false (p y) ∙ ap p (sym is)
list_any-push p (y ∷ xs) (suc i) x within is =
    let e : suc i + 1 ≡ suc (i + 1) = omega arith in
    ap (λ n. list_any p (take n (y ∷ xs))) e ∙ ap (λ b. p y || b) (list_any-push p xs i x (omega arith) is) ∙ sym (or_assoc (p y) (list_any p (take i xs)) (p x))

one_test_at : (old_q old_n now_q now_n : List ℕ) (at : ℕ) (bq bn e : Bool) → now_q ≡ old_q ++ place_if bq at → now_n ≡ old_n ++ place_if bn at
    → (e ≡ true → (old_n ≡ old_q) × (bn ≡ bq))
    → (if bn then now_q else (if e then now_n ++ at ∷ [] else now_q)) ≡ old_q ++ place_if (bq || e) at
one_test_at old_q old_n now_q now_n at true true true q n same = q
one_test_at old_q old_n now_q now_n at true true false q n same = q
one_test_at old_q old_n now_q now_n at true false true q n same = let s = same refl in absurd (cc (s.1))
one_test_at old_q old_n now_q now_n at true false false q n same = q
one_test_at old_q old_n now_q now_n at false true true q n same = let s = same refl in absurd (cc (s.1))
one_test_at old_q old_n now_q now_n at false true false q n same = q
one_test_at old_q old_n now_q now_n at false false true q n same = ap (λ xs. xs ++ at ∷ []) (n ∙ append-nil old_n ∙ (same refl).0)
one_test_at old_q old_n now_q now_n at false false false q n same = q

-- one test more
pub one_test : (old now new : List ℕ → List ℕ) (at : ℕ) (ys props : List PropTest) (i : ℕ) (test : PropTest)
    → ys ≡ props → i < length ys → test ≡ get_or ys i test
    → ((q : List ℕ) → are_below at (old q) ≡ true)
    → ((q : List ℕ) → now q ≡ old q ++ place_if (list_any (tests q) (take i props)) at)
    → ((q : List ℕ) → new q ≡ (if ends_with at (now test.name) then now q else (if bytes_eq test.name q then now test.name ++ at ∷ [] else now q)))
    → (q : List ℕ) → new q ≡ old q ++ place_if (list_any (tests q) (take (i + 1) props)) at
one_test old now new at ys props i test same within is below kept added q =
    let name = test.name in
    let seen : List ℕ → Bool = λ r. list_any (tests r) (take i props) in
    let ends : ends_with at (now name) ≡ seen name = ap (ends_with at) (kept name) ∙ ends_with-added (old name) (seen name) at (below name) in
    let within' : i < length props = subst (λ (ts : List PropTest). i < length ts) same within in
    let is' : test ≡ get_or props i test = is ∙ ap (λ (ts : List PropTest). get_or ts i test) same in
    let more : list_any (tests q) (take (i + 1) props) ≡ seen q || bytes_eq name q = list_any-push (tests q) props i test within' is' in
    added q ∙ ap (λ b. if b then now q else (if bytes_eq name q then now name ++ at ∷ [] else now q)) ends
    ∙ one_test_at (old q) (old name) (now q) (now name) at (seen q) (seen name) (bytes_eq name q) (kept q) (kept name)
    (λ y. let here = same_bytes name q y in (ap old here, ap seen here))
    ∙ ap (λ b. old q ++ place_if b at) (sym more)

-- a place more under one name
pub added : (old : List ℕ → List ℕ) (name other : List ℕ) (at : ℕ) → (if bytes_eq name other then old name ++ at ∷ [] else old other) ≡ old other ++ place_if (bytes_eq name other) at
added old name other at =
    elim (bytes_eq name other) as (λ b. bytes_eq name other ≡ b → (if b then old name ++ at ∷ [] else old other) ≡ old other ++ place_if b at) [
      | true ↦ λ y. ap (λ r. old r ++ at ∷ []) (same_bytes name other y)
      | false ↦ λ n. sym (append-nil (old other))
    ] refl

-- one action more
pub one_action : (p : Action → Bool) (ys actions : List Action) (i : ℕ) (a : Action) (old new goal : List ℕ)
    → ys ≡ actions → i < length ys → a ≡ get_or ys i a → new ≡ old ++ place_if (p a) i
    → old ++ places_from i p (drop i actions) ≡ goal → new ++ places_from (i + 1) p (drop (i + 1) actions) ≡ goal
one_action p ys actions i a old new goal same within is more left =
    let rest = places_from (i + 1) p (drop (i + 1) actions) in
    let front : old ++ (if p a then i ∷ rest else rest) ≡ goal = ap (λ ts. old ++ places_from i p ts) (sym (front_is ys actions i a same within is)) ∙ left in
    elim (p a) as (λ b. new ≡ old ++ place_if b i → old ++ (if b then i ∷ rest else rest) ≡ goal → new ++ rest ≡ goal) [
      | true ↦ λ m f. ap (λ xs. xs ++ rest) m ∙ append_assoc old (i ∷ []) rest ∙ f
      | false ↦ λ m f. ap (λ xs. xs ++ rest) (m ∙ append-nil old) ∙ f
    ] more front

-- all actions are there
pub all_actions : (p : Action → Bool) (actions : List Action) (n : ℕ) (now goal : List ℕ) → length actions ≤ n → now ++ places_from n p (drop n actions) ≡ goal → now ≡ goal
all_actions p actions n now goal past left =
    sym (append-nil now) ∙ ap (λ ts. now ++ places_from n p ts) (sym (none_behind actions n past)) ∙ left

below_more : (at : ℕ) (xs : List ℕ) → are_below at xs ≡ true → are_below (at + 1) xs ≡ true
below_more at [] below = refl
below_more at (x ∷ xs) below = grind (arith, below_more at xs)

below_push : (at : ℕ) (xs : List ℕ) → are_below at xs ≡ true → are_below (at + 1) (xs ++ at ∷ []) ≡ true
below_push at [] below = grind arith
below_push at (x ∷ xs) below = grind (arith, below_push at xs)

pub still_below : (at : ℕ) (old new : List ℕ) (b : Bool) → new ≡ old ++ place_if b at → are_below at old ≡ true → are_below (at + 1) new ≡ true
still_below at old new true is below = rw is (below_push at old below)
still_below at old new false is below = rw is (rw append-nil (below_more at old below))

-- what triggers an action may do so
pub may_where_matched : (look_up : List ℕ → Option (List ℕ)) (event : Event) (action : Action) → matches look_up event action ≡ true → may_trigger event action ≡ true
unfolding matches
may_where_matched look_up (Named name) action is = (both_true (has_named name action) _ is).0
may_where_matched look_up (Change pair) action is = (both_true (has_tested pair.name action) _ is).0
may_where_matched look_up AllProperties action is = (both_true (is_without_event action) _ is).0
may_where_matched look_up Mark action is = absurd (cc)

-- the mark triggers none
none_at_mark : (n : ℕ) (actions : List Action) → [] ≡ places_from n (may_trigger Mark) actions
none_at_mark n [] = refl
none_at_mark n (a ∷ actions) = none_at_mark (n + 1) actions

pub mark_triggers_none : (event : Event) (actions : List Action) → event ≡ Mark → [] ≡ places_from 0 (may_trigger event) actions
mark_triggers_none event actions is = rw is (none_at_mark 0 actions)
