-- A plan is found at the place of its path.
use Rattle.std.proofs.Common.{◌≡◌, ℕ, ◌+◌, ◌≤◌, Bool, true, false, cond, not, ◌&&◌, nat_lt, nat_le, List, [], ◌∷◌, Some, None, refl, sym, ap, ◌∙◌, arith, zero, suc, subst, one-add}
use Rattle.std.proofs.lemmas.Option.{slice_get_past}
use Rattle.std.proofs.lemmas.Grind.{common_steps}
use Rattle.std.specs.Prelude.{position, find, slice_get}
use Rattle.std.specs.List.{position_or_len}
use Rattle.std.specs.Str.{bytes_eq}
use Rattle.init_machine.specs.Kernel.{last_time}
use Rattle.init_machine.specs.declared.config.Plan.{Plan}
use Rattle.model_kernel.specs.Kernel.{end_in_time, paths_of}
use Rattle.collections.proofs.Places.{position_by_text}

-- what is found is at the first place that passes
find_at_place : {A : Type 0} (p : A → Bool) (xs : List A) → find p xs ≡ slice_get xs (position_or_len p xs)
find_at_place p [] = refl
find_at_place p (x ∷ xs) = by (p x) (find_at_place p xs)
  where
    by : (b : Bool) → find p xs ≡ slice_get xs (position_or_len p xs) → cond b (Some x) (find p xs) ≡ slice_get (x ∷ xs) (cond (not b) (1 + position_or_len p xs) 0)
    by true rest = refl
    by false rest = rest ∙ ap (slice_get (x ∷ xs)) (sym (one-add (position_or_len p xs)))

place_or_past : (b : Bool) (i n : ℕ) → cond b (Some i) None ≡ Some n → i ≡ n
place_or_past true i n e = cc
place_or_past false i n e = cc

past : (b : Bool) (i : ℕ) → cond b (Some i) None ≡ None → b ≡ false
past true i e = cc
past false i e = refl

not_below : (i n : ℕ) → nat_lt i n ≡ false → n ≤ i
not_below i n e = grind (arith, common_steps)

-- the plan at the place of its path is what is found
pub found_at_place : (plans : List Plan) (path : List ℕ) (at : ℕ) → position (bytes_eq path) (paths_of plans) ≡ Some at → slice_get plans at ≡ find (λ plan. bytes_eq plan.path path) plans
found_at_place plans path at e =
    let place : position (λ plan. bytes_eq plan.path path) plans ≡ Some at = sym (position_by_text (λ plan. plan.path) plans path) ∙ e in
    ap (slice_get plans) (sym (place_or_past _ _ _ place)) ∙ sym (find_at_place (λ plan. bytes_eq plan.path path) plans)

-- none is found where the path has no place
pub none_without_place : (plans : List Plan) (path : List ℕ) → position (bytes_eq path) (paths_of plans) ≡ None → None ≡ find (λ plan. bytes_eq plan.path path) plans
none_without_place plans path e =
    let place : position (λ plan. bytes_eq plan.path path) plans ≡ None = sym (position_by_text (λ plan. plan.path) plans path) ∙ e in
    sym (slice_get_past plans (position_or_len (λ plan. bytes_eq plan.path path) plans) (not_below _ _ (past _ _ place)))
    ∙ sym (find_at_place (λ plan. bytes_eq plan.path path) plans)

both_true : (a b : Bool) → (a && b) ≡ true → (a ≡ true) × (b ≡ true)
both_true true b h = (refl, h)
both_true false b h = cc

time_of_test : (plan : Plan) → nat_le plan.after.0 last_time ≡ true → plan.after.0 ≤ last_time
time_of_test plan e = grind (arith, common_steps)

-- each plan ends in time
pub ends_at : (plans : List Plan) (at : ℕ) (plan : Plan) → end_in_time plans ≡ true → slice_get plans at ≡ Some plan → plan.after.0 ≤ last_time
ends_at [] at plan h e = cc
ends_at (first ∷ plans) zero plan h e = let same : first ≡ plan = cc in subst (λ p. p.after.0 ≤ last_time) same (time_of_test first (both_true _ _ h).0)
ends_at (first ∷ plans) (suc at) plan h e = ends_at plans at plan (both_true _ _ h).1 e
