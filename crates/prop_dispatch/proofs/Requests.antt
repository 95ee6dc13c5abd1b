-- The requests of a session among items.
use Rattle.std.proofs.Common.{◌≡◌, ◌≢◌, ℕ, List, [], ◌∷◌, ◌++◌, refl, ap, ◌∙◌, arith, true, false, Bool, append-nil}
use Rattle.std.specs.Prelude.{◌==◌, if◌then◌else◌}
use Rattle.std.proofs.lemmas.Bool.Decides.{nat_tests}
use Rattle.init_machine.specs.declared.config.Pair.{Pair}
use Rattle.prop_dispatch.specs.internal.Rule.{pairs_of}
use Rattle.prop_dispatch.specs.declared.protocol.Item.{Item}

one_more : (b : Bool) (x : Pair) (xs ys : List Pair)
    → (if b then x ∷ (xs ++ ys) else xs ++ ys) ≡ (if b then x ∷ xs else xs) ++ ys
one_more true x xs ys = refl
one_more false x xs ys = refl

pub of_append : (k : ℕ) (xs ys : List Item) → pairs_of k (xs ++ ys) ≡ pairs_of k xs ++ pairs_of k ys
of_append k [] ys = refl
of_append k (x ∷ xs) ys =
    ap (λ l. if x.session == k then x.request ∷ l else l) (of_append k xs ys)
    ∙ one_more (x.session == k) x.request (pairs_of k xs) (pairs_of k ys)

chosen : (b : Bool) (x : Pair) → b ≡ true → (if b then x ∷ [] else []) ≡ x ∷ []
chosen true x is = refl
chosen false x is = absurd (grind (arith, is))

left_out : (b : Bool) (x : Pair) → b ≡ false → (if b then x ∷ [] else []) ≡ []
left_out true x is = absurd (grind (arith, is))
left_out false x is = refl

-- a session's own request comes after the others
pub of_own : (k : ℕ) (xs : List Item) (x : Item) → x.session ≡ k → pairs_of k (xs ++ x ∷ []) ≡ pairs_of k xs ++ x.request ∷ []
of_own k xs x is =
    of_append k xs (x ∷ []) ∙ ap (λ l. pairs_of k xs ++ l) (chosen (x.session == k) x.request (grind (arith, nat_tests, is)))

-- another session's request changes nothing
pub of_other : (k : ℕ) (xs : List Item) (x : Item) → x.session ≢ k → pairs_of k (xs ++ x ∷ []) ≡ pairs_of k xs
of_other k xs x isnt =
    of_append k xs (x ∷ [])
    ∙ ap (λ l. pairs_of k xs ++ l) (left_out (x.session == k) x.request (grind (arith, nat_tests, isnt)))
    ∙ append-nil (pairs_of k xs)
