-- The sessions' clients.
use Rattle.std.proofs.Common.{◌≡◌, ◌≢◌, ℕ, zero, suc, ◌==◌, Bool, true, false, true≢false, ◌||◌, List, [], ◌∷◌, take, slice_get, Some, refl, sym, ap, ◌∙◌, arith}
use Rattle.std.proofs.lemmas.Bool.Decides.{nat_tests}
use Rattle.prop_dispatch.specs.Clients.{AreDifferent}
use Rattle.prop_dispatch.specs.Relayed.{is_client_of}
use Rattle.prop_dispatch.specs.declared.session.Session.{Session}
use Rattle.prop_dispatch.proofs.Lists.{none_isnt, some_is, or_true}

pub is_test : (m n : ℕ) → m ≡ n → (m == n) ≡ true
is_test m n is = grind (arith, nat_tests, is)

pub isnt_test : (m n : ℕ) → m ≢ n → (m == n) ≡ false
isnt_test m n isnt = grind (arith, nat_tests, isnt)

pub client_at : (sessions : List Session) (k : ℕ) (s : Session) (who : ℕ) → slice_get sessions k ≡ Some s → s.who.0 ≡ who
    → is_client_of sessions who ≡ true
client_at [] k s who at is = absurd (none_isnt s at)
client_at (x ∷ sessions) zero s who at is =
    ap (λ (b : Bool). b || is_client_of sessions who) (is_test x.who.0 who (ap (λ (t : Session). t.who.0) (some_is x s at) ∙ is))
client_at (x ∷ sessions) (suc k) s who at is =
    ap (λ (b : Bool). (x.who.0 == who) || b) (client_at sessions k s who at is) ∙ or_true (x.who.0 == who)

-- two sessions have two clients
pub differ : (sessions : List Session) → AreDifferent sessions → (j k : ℕ) (s t : Session) → slice_get sessions j ≡ Some s
    → slice_get sessions k ≡ Some t → j ≢ k → s.who.0 ≢ t.who.0
differ [] different j k s t at there isnt is = none_isnt s at
differ (x ∷ sessions) different zero zero s t at there isnt is = isnt refl
differ (x ∷ sessions) different zero (suc k) s t at there isnt is =
    true≢false (sym (client_at sessions k t x.who.0 there (sym (ap (λ (u : Session). u.who.0) (some_is x s at) ∙ is))) ∙ different.0)
differ (x ∷ sessions) different (suc j) zero s t at there isnt is =
    true≢false (sym (client_at sessions j s x.who.0 at (is ∙ sym (ap (λ (u : Session). u.who.0) (some_is x t there)))) ∙ different.0)
differ (x ∷ sessions) different (suc j) (suc k) s t at there isnt is =
    differ sessions different.1 j k s t at there (λ same. isnt (ap suc same)) is

-- of the sessions before it a session's client is none
pub not_before : (sessions : List Session) → AreDifferent sessions → (k : ℕ) (s : Session) → slice_get sessions k ≡ Some s
    → is_client_of (take k sessions) s.who.0 ≡ false
not_before [] different k s at = absurd (none_isnt s at)
not_before (x ∷ sessions) different zero s at = refl
not_before (x ∷ sessions) different (suc k) s at =
    ap (λ (b : Bool). b || is_client_of (take k sessions) s.who.0) (isnt_test x.who.0 s.who.0 (λ is.
    true≢false (sym (client_at sessions k s x.who.0 at (sym is)) ∙ different.0)))
    ∙ not_before sessions different.1 k s at
