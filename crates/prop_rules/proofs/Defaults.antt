-- The first `:-` of a text.
use Rattle.std.proofs.Common.{◌≡◌, ◌↔◌, ℕ, zero, suc, ◌<◌, Bool, true, false, IsTrue, Option, Some, None, IsSome, List, [], ◌∷◌, nat_eq, length, codes, take, drop, refl, ◌∙◌, arith}
use Rattle.std.specs.List.{starts_with}
use Rattle.std.proofs.lemmas.Bool.{cond-true, cond-false}
use Rattle.init_base.specs.Name.{is_legal_name}
use Rattle.init_machine.specs.Expand.{Bad, braced, default_place}

-- whether the text behind so many bytes begins with `:-`
abbrev pub begins_at : List ℕ → ℕ → Bool
begins_at text place = starts_with nat_eq (drop place text) (codes ":-")

pub first_default : (text : List ℕ) (place : ℕ) → ((k : ℕ) → k < place → begins_at text k ≡ false) → begins_at text place ≡ true → default_place text ≡ place
first_default [] zero before here = cc
first_default [] (suc place) before here = cc
first_default (b ∷ text) zero before here = cond-true _ _ _ here
first_default (b ∷ text) (suc place) before here =
    let rest = first_default text place (λ k below. before (suc k) (omega arith)) here in
    cond-false _ _ _ (before 0 (omega arith)) ∙ (omega (arith, rest))

pub no_default : (text : List ℕ) → ((k : ℕ) → k < length text → begins_at text k ≡ false) → default_place text ≡ length text
no_default [] nowhere = refl
no_default (b ∷ text) nowhere =
    let rest = no_default text (λ k below. nowhere (suc k) (omega arith)) in
    cond-false _ _ _ (nowhere 0 (omega arith)) ∙ (omega (arith, rest))

-- what doesn't begin with a legal name is no piece
pub not_braced : (inside : List ℕ) → is_legal_name (take (default_place inside) inside) ≡ false → Bad ≡ braced inside
not_braced inside is = rw is refl

-- no answer, where one is there exactly where a test holds
pub not_tested : {A : Type 0} (answer : Option A) (b : Bool) → answer ≡ None → IsSome answer ↔ IsTrue b → b ≡ false
not_tested None true is h = let e : false ≡ true = h.1 refl in cc
not_tested None false is h = refl
not_tested (Some value) b is h = cc
