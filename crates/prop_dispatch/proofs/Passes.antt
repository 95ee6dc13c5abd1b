-- What sessions have and give back, one after another.
use Rattle.std.proofs.Common.{◌≡◌, ℕ, zero, suc, ◌+◌, ◌<◌, List, [], ◌∷◌, ◌++◌, length, get_or, Option, Result, Ok, Err, IfOk, refl, sym, ap, ◌∙◌, subst, arith, append_assoc}
use Rattle.std.specs.Prelude.{All}
use Rattle.crossbeam_queue.specs.Passes.{Pass, view, IsPassOf}
use Rattle.crossbeam_queue.specs.declared.array_queue.Doing.{Doing}
use Rattle.crossbeam_queue.specs.declared.array_queue.Slotted.{Slotted}
use Rattle.init_machine.specs.declared.config.Pair.{Pair}
use Rattle.prop_dispatch.specs.internal.Passing.{MayPush, HasPushed, EachFrom, EachSeated, EachPushed, lists_of, puts_of}
use Rattle.std.specs.Prelude.{nat_lt, slice_index_or, true, false, Bool}
use Rattle.std.proofs.lemmas.Bool.Decides.{nat_tests}
use Rattle.std.proofs.lemmas.List.{get_or_past, append-nil}
use Rattle.prop_dispatch.specs.internal.Rule.{Accounts, pairs_of}
use Rattle.prop_dispatch.specs.internal.Views.{session_view}
use Rattle.prop_dispatch.specs.declared.session.Session.{Session}
use Rattle.prop_dispatch.specs.declared.protocol.Item.{Item}
use Rattle.prop_dispatch.specs.declared.protocol.View.{View}
use Rattle.prop_dispatch.specs.declared.senders.Sender.{Sender}

pub if_ok : {T E : Type 0} (P Q : T → Type 0) (r : Result T E) → ((x : T) → P x → Q x) → IfOk r P → IfOk r Q
if_ok P Q (Ok x) step holds = step x holds
if_ok P Q (Err e) step holds = tt

module _ {Q A : Type 0} (line : Slotted (Option Item) (Doing Item View) Q A) where
  -- one more session has its pass
  pub one_seated : (number : ℕ) (sessions : List Session) (senders : List Sender) (session : Session) (sender : Sender)
      → EachSeated line number sessions senders → MayPush line sender → sender.session ≡ number + length senders → sender.requests ≡ session.requests
      → EachSeated line number (sessions ++ session ∷ []) (senders ++ sender ∷ [])
  one_seated number [] [] session sender each may at same = (may, omega (arith, at), same, tt)
  one_seated number [] (x ∷ senders) session sender each may at same = absurd each
  one_seated number (s ∷ sessions) [] session sender each may at same = absurd each
  one_seated number (s ∷ sessions) (x ∷ senders) session sender each may at same =
      (each.0, each.1, each.2, one_seated (number + 1) sessions senders session sender each.3 may (omega (arith, at)) same)

  pub seated_by : (before : List Session) (senders senders' : List Sender) (session : Session) (sender : Sender) → senders' ≡ senders ++ sender ∷ []
      → EachSeated line 0 before senders → MayPush line sender → sender.session ≡ length senders → sender.requests ≡ session.requests
      → EachSeated line 0 (before ++ session ∷ []) senders'
  seated_by before senders senders' session sender is each may at same =
      subst (λ (l : List Sender). EachSeated line 0 (before ++ session ∷ []) l) (sym is)
      (one_seated 0 before senders session sender each may (omega (arith, at)) same)

  pub all_may : (number : ℕ) (sessions : List Session) (senders : List Sender) → EachSeated line number sessions senders → All (MayPush line) senders
  all_may number [] [] each k d less = absurd (omega (arith, less))
  all_may number [] (x ∷ senders) each k d less = absurd each
  all_may number (s ∷ sessions) [] each k d less = absurd each
  all_may number (s ∷ sessions) (x ∷ senders) each zero d less = each.0
  all_may number (s ∷ sessions) (x ∷ senders) each (suc k) d less = all_may (number + 1) sessions senders each.3 k d (omega (arith, less))

  pub each_pushed : (senders : List Sender) (passes : List (Pass Item View)) → length passes ≡ length senders
      → ((k : ℕ) (sender : Sender) (pass : Pass Item View) → k < length senders → sender ≡ get_or senders k sender → pass ≡ get_or passes k pass
      → HasPushed line sender pass)
      → EachPushed line senders passes
  each_pushed [] [] many each = tt
  each_pushed [] (p ∷ passes) many each = absurd (omega arith)
  each_pushed (s ∷ senders) [] many each = absurd (omega arith)
  each_pushed (s ∷ senders) (p ∷ passes) many each = (
    each 0 s p (omega arith) refl refl,
    each_pushed senders passes (omega arith) (λ k sender pass within at there. each (suc k) sender pass (omega arith) at there),
  )

-- one more session is seated, and fewer are left
pub one_fewer : {A : Type 0} → (done left rest whole : List A) (x : A) → done ++ left ≡ whole → left ≡ x ∷ rest → (done ++ x ∷ []) ++ rest ≡ whole
one_fewer done left rest whole x so_far split = append_assoc done (x ∷ []) rest ∙ ap (λ l. done ++ l) (sym split) ∙ so_far

module _ {Q A : Type 0} (line : Slotted (Option Item) (Doing Item View) Q A) where
  -- the passes that come back are those of the sessions, in order
  pub each_from : (number : ℕ) (sessions : List Session) (senders : List Sender) (passes : List (Pass Item View))
      → EachSeated line number sessions senders → EachPushed line senders passes → EachFrom line number passes
  each_from number [] [] [] each came = tt
  each_from number [] [] (p ∷ passes) each came = absurd came
  each_from number [] (x ∷ senders) passes each came = absurd each
  each_from number (s ∷ sessions) [] passes each came = absurd each
  each_from number (s ∷ sessions) (x ∷ senders) [] each came = absurd came
  each_from number (s ∷ sessions) (x ∷ senders) (p ∷ passes) each came = (
    came.0.0,
    came.0.1 ∙ (λ i. session_view (each.1 i) (ap (λ (v : View). v.put) (sym came.0.1) i)),
    each_from (number + 1) sessions senders passes each.3 came.1,
  )

  -- and they have pushed the sessions' requests
  pub puts_all : (number : ℕ) (sessions : List Session) (senders : List Sender) (passes : List (Pass Item View))
      → EachSeated line number sessions senders → EachPushed line senders passes → puts_of passes ≡ lists_of sessions
  puts_all number [] [] [] each came = refl
  puts_all number [] [] (p ∷ passes) each came = absurd came
  puts_all number [] (x ∷ senders) passes each came = absurd each
  puts_all number (s ∷ sessions) [] passes each came = absurd each
  puts_all number (s ∷ sessions) (x ∷ senders) [] each came = absurd came
  puts_all number (s ∷ sessions) (x ∷ senders) (p ∷ passes) each came =
      let first : (view p).put ≡ s.requests = ap (λ (v : View). v.put) came.0.1 ∙ each.2 in
      λ i. first i ∷ puts_all (number + 1) sessions senders passes each.3 came.1 i

  -- the first of what is left comes in, and the others are left
  pub first_from : (number : ℕ) (left rest : List (Pass Item View)) (pass : Pass Item View) → left ≡ pass ∷ rest → EachFrom line number left
      → IsPassOf line pass × (view pass ≡ session_view number (view pass).put) × EachFrom line (number + 1) rest
  first_from number left rest pass is each = subst (λ (l : List (Pass Item View)). EachFrom line number l) is each

  pub none_left : (number : ℕ) (left : List (Pass Item View)) → left ≡ [] → puts_of left ≡ []
  none_left number left is = ap puts_of is

pub given_ok : {T E : Type 0} (P : T → Type 0) (r : Result T E) (x : T) → r ≡ Ok x → IfOk r P → P x
given_ok {T} {E} P r x is = subst (λ (a : Result T E). IfOk a P) is

settled_case : (v : View) (lists : List (List Pair)) → Accounts v [] → v.done ≡ lists → v.made ≡ length lists → (b : Bool) (k : ℕ) → nat_lt k (length lists) ≡ b
    → pairs_of k (v.got ++ []) ≡ slice_index_or lists k []
settled_case v lists a is many true k low =
    a.ended k (grind (arith, nat_tests, low, ap length is)) ∙ ap (λ l. slice_index_or l k []) is
settled_case v lists a is many false k low =
    a.unmade k (grind (arith, nat_tests, low, many)) ∙ sym (get_or_past lists k [] (grind (arith, nat_tests, low)))

-- all requests were popped, of each session its own, in order
pub settled : (v : View) (lists : List (List Pair)) → Accounts v [] → v.done ≡ lists → v.made ≡ length lists
    → (k : ℕ) → pairs_of k v.got ≡ slice_index_or lists k []
settled v lists a is many k = ap (pairs_of k) (sym (append-nil v.got)) ∙ settled_case v lists a is many (nat_lt k (length lists)) k refl

pub nil_of_zero : {A : Type 0} (xs : List A) → length xs ≡ 0 → xs ≡ []
nil_of_zero [] none = refl
nil_of_zero (x ∷ xs) none = absurd (omega (arith, none))

module _ {Q A : Type 0} (line : Slotted (Option Item) (Doing Item View) Q A) where
  pub as_many_seated : (number : ℕ) (sessions : List Session) (senders : List Sender) → EachSeated line number sessions senders
      → length senders ≡ length (lists_of sessions)
  as_many_seated number [] [] each = refl
  as_many_seated number [] (x ∷ senders) each = absurd each
  as_many_seated number (s ∷ sessions) [] each = absurd each
  as_many_seated number (s ∷ sessions) (x ∷ senders) each = omega (arith, as_many_seated (number + 1) sessions senders each.3)

-- so it is of the same queue and the same senders
pub same_pushed : {T E Q A : Type 0} (r : Result T E) (items : T → List (Pass Item View)) (line line' : Slotted (Option Item) (Doing Item View) Q A)
    (senders senders' : List Sender) → line ≡ line' → senders ≡ senders' → IfOk r (λ passes. EachPushed line senders (items passes))
    → IfOk r (λ passes. EachPushed line' senders' (items passes))
same_pushed {Q = Q} {A = A} (Ok passes) items line line' senders senders' queue same each =
    subst (λ (s : List Sender). EachPushed line' s (items passes)) same
    (subst (λ (l : Slotted (Option Item) (Doing Item View) Q A). EachPushed l senders (items passes)) queue each)
same_pushed {Q = Q} {A = A} (Err e) items line line' senders senders' queue same each = tt
