-- What is judged in blocks is judged of all bytes.
use Rattle.std.proofs.Common.{◌≡◌, ℕ, zero, suc, ◌≤◌, Bool, true, false, ◌&&◌, List, [], ◌∷◌, take, drop, slice_index, length, ◌<◌, refl, sym, ap, ◌∙◌, arith}
use Rattle.std.proofs.Math.Bool.{and-true}
use Rattle.std.proofs.lemmas.List.{take-append-drop}
use Rattle.std.proofs.lemmas.List.Folds.{list_all-append}
use Rattle.std.specs.List.{list_all}

and_assoc : (a b c : Bool) → ((a && b) && c) ≡ (a && (b && c))
and_assoc true b c = refl
and_assoc false b c = refl

-- a part of what holds
and_part : (a b whole : Bool) → (a && b) ≡ whole → (a && whole) ≡ whole
and_part true b whole is = refl
and_part false b whole is = is

module _ (holds : ℕ → Bool) where
  -- of a front and of what stands behind it
  pub all_of_both : (bytes : List ℕ) (count : ℕ) → (list_all holds (take count bytes) && list_all holds (drop count bytes)) ≡ list_all holds bytes
  all_of_both bytes count =
      sym (list_all-append holds (take count bytes) (drop count bytes)) ∙ ap (list_all holds) (take-append-drop count bytes)

  -- of a front and an end that meet or overlap
  pub all_of_ends : (bytes : List ℕ) (front end : ℕ) → end ≤ front
      → (list_all holds (take front bytes) && list_all holds (drop end bytes)) ≡ list_all holds bytes
  all_of_ends bytes front zero meet =
      and_part (list_all holds (take front bytes)) (list_all holds (drop front bytes)) (list_all holds bytes) (all_of_both bytes front)
  all_of_ends [] zero (suc end) meet = refl
  all_of_ends [] (suc front) (suc end) meet = refl
  all_of_ends (b ∷ bytes) zero (suc end) meet = absurd (omega (arith, meet))
  all_of_ends (b ∷ bytes) (suc front) (suc end) meet =
      and_assoc (holds b) (list_all holds (take front bytes)) (list_all holds (drop end bytes))
      ∙ ap (λ t. holds b && t) (all_of_ends bytes front end (omega (arith, meet)))

  -- of a front and the byte behind it
  pub all_of_next : (bytes : List ℕ) (place : ℕ) → place < length bytes
      → (list_all holds (take place bytes) && holds (slice_index bytes place)) ≡ list_all holds (take (suc place) bytes)
  all_of_next [] place is = absurd (omega (arith, is))
  all_of_next (b ∷ bytes) zero is = sym (and-true (holds b))
  all_of_next (b ∷ bytes) (suc place) is =
      and_assoc (holds b) (list_all holds (take place bytes)) (holds (slice_index bytes place))
      ∙ ap (λ t. holds b && t) (all_of_next bytes place (omega (arith, is)))
