-- The items of sessions one after another.
use Rattle.std.proofs.Common.{◌≡◌, ◌≢◌, ℕ, zero, suc, ◌+◌, ◌<◌, Bool, if◌then◌else◌, List, [], ◌∷◌, ◌++◌, slice_index_or, refl, sym, ap, ◌∙◌, arith, append_assoc, append-nil}
use Rattle.std.proofs.lemmas.List.{map-append}
use Rattle.init_machine.specs.declared.config.Pair.{Pair}
use Rattle.prop_dispatch.specs.internal.Passing.{lists_of}
use Rattle.prop_dispatch.specs.internal.Rule.{pairs_of}
use Rattle.prop_dispatch.specs.internal.Serving.{items_for, items_from}
use Rattle.prop_dispatch.specs.declared.protocol.Item.{Item}
use Rattle.prop_dispatch.specs.declared.session.Session.{Session}
use Rattle.prop_dispatch.proofs.Clients.{is_test, isnt_test}
use Rattle.prop_dispatch.proofs.Requests.{of_append}

pairs_own : (n : ℕ) (ps : List Pair) → pairs_of n (items_for n ps) ≡ ps
pairs_own n [] = refl
pairs_own n (p ∷ ps) =
    ap (λ (b : Bool). if b then p ∷ pairs_of n (items_for n ps) else pairs_of n (items_for n ps)) (is_test n n refl)
    ∙ ap (λ (l : List Pair). p ∷ l) (pairs_own n ps)

pairs_other : (k n : ℕ) (ps : List Pair) → n ≢ k → pairs_of k (items_for n ps) ≡ []
pairs_other k n [] isnt = refl
pairs_other k n (p ∷ ps) isnt =
    ap (λ (b : Bool). if b then p ∷ pairs_of k (items_for n ps) else pairs_of k (items_for n ps)) (isnt_test n k isnt) ∙ pairs_other k n ps isnt

pairs_below : (sessions : List Session) (k n : ℕ) → k < n → pairs_of k (items_from n sessions) ≡ []
pairs_below [] k n less = refl
pairs_below (s ∷ sessions) k n less =
    of_append k (items_for n s.requests) (items_from (n + 1) sessions)
    ∙ ap (λ (l : List Pair). l ++ pairs_of k (items_from (n + 1) sessions)) (pairs_other k n s.requests (λ is. absurd (omega (arith, is, less))))
    ∙ pairs_below sessions k (n + 1) (omega (arith, less))

-- of each session these are its requests
pub pairs_from : (sessions : List Session) (n k at : ℕ) → at ≡ n + k → pairs_of at (items_from n sessions) ≡ slice_index_or (lists_of sessions) k []
pairs_from [] n k at is = refl
pairs_from (s ∷ sessions) n zero at is =
    of_append at (items_for n s.requests) (items_from (n + 1) sessions)
    ∙ ap (λ (l : List Pair). pairs_of at (items_for n s.requests) ++ l) (pairs_below sessions at (n + 1) (omega (arith, is)))
    ∙ append-nil (pairs_of at (items_for n s.requests))
    ∙ ap (λ (m : ℕ). pairs_of m (items_for n s.requests)) (omega (arith, is)) ∙ pairs_own n s.requests
pairs_from (s ∷ sessions) n (suc k) at is =
    of_append at (items_for n s.requests) (items_from (n + 1) sessions)
    ∙ ap (λ (l : List Pair). l ++ pairs_of at (items_from (n + 1) sessions)) (pairs_other at n s.requests (λ same. absurd (omega (arith, is, same))))
    ∙ pairs_from sessions (n + 1) k at (omega (arith, is))

-- one more session is served
pub session_next : (n : ℕ) (got whole : List Item) (left rest : List Session) (s : Session) → got ++ items_from n left ≡ whole → left ≡ s ∷ rest
    → (got ++ items_for n s.requests) ++ items_from (n + 1) rest ≡ whole
session_next n got whole left rest s so_far split =
    append_assoc got (items_for n s.requests) (items_from (n + 1) rest) ∙ ap (λ (l : List Session). got ++ items_from n l) (sym split) ∙ so_far

abbrev item_of : ℕ → Pair → Item
item_of n q = record { session = n; request = q }

-- one more request
pub item_next : (n : ℕ) (got : List Item) (done : List Pair) (p : Pair) (item : Item) → item ≡ record { session = n; request = p }
    → (got ++ items_for n done) ++ item ∷ [] ≡ got ++ items_for n (done ++ p ∷ [])
item_next n got done p item is =
    let one : Item = record { session = n; request = p } in
    ap (λ (x : Item). (got ++ items_for n done) ++ x ∷ []) is ∙ append_assoc got (items_for n done) (one ∷ [])
    ∙ ap (λ (l : List Item). got ++ l) (sym (map-append (item_of n) done (p ∷ [])))

-- all sessions are served
pub all_in_turn : (n : ℕ) (got : List Item) (sessions left : List Session) → left ≡ [] → got ++ items_from n left ≡ items_from 0 sessions
    → (k : ℕ) → pairs_of k got ≡ slice_index_or (lists_of sessions) k []
all_in_turn n got sessions left none is k =
    ap (pairs_of k) (sym (append-nil got) ∙ ap (λ (l : List Session). got ++ items_from n l) (sym none) ∙ is) ∙ pairs_from sessions 0 k k (omega arith)
