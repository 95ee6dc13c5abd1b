-- The order of times holds exactly those that are kept.
use Rattle.std.proofs.Common.{◌≡◌, ℕ, zero, suc, ◌+◌, ◌<◌, Bool, true, false, ◌||◌, eqb, nat_le, List, [], ◌∷◌, Option, Some, None, get_or, replicate, refl, sym, ap, ◌∙◌, arith, true≢false, if◌then◌else◌}
use Rattle.std.proofs.lemmas.Grind.{common_steps}
use Rattle.std.specs.List.{list_any, enumerate_from, filter_map, cons_option}
use Rattle.collections.specs.Moments.{is_held, is_due}
use Rattle.collections.proofs.Held.{held_from_due, due_from_held}
use Rattle.collections.proofs.Ascending.{AreAbove, Ascends, itself, none_above, same_ascending}
use Rattle.restart_policy.specs.Times.{is_kept, HoldsKept, has_come, place_if_come, places_due}

none_at : (count at : ℕ) → get_or (replicate {A = Option ℕ} count None) at None ≡ None
none_at zero at = refl
none_at (suc count) zero = refl
none_at (suc count) (suc at) = none_at count at

pub none_kept : (count : ℕ) → HoldsKept (replicate count None) []
none_kept count time at = sym (ap (is_kept time) (none_at count at))

-- the places from i on whose time has come
abbrev come_from : ℕ → ℕ → List (Option ℕ) → List ℕ
come_from now i times = filter_map (place_if_come now) (enumerate_from i times)

above_place : (now j i : ℕ) (times : List (Option ℕ)) → j < i → AreAbove j (come_from now i times)
above_place now j i [] below = tt
above_place now j i (x ∷ times) below = by (has_come now x) (above_place now j (i + 1) times (omega arith))
  where
    by : (b : Bool) → AreAbove j (come_from now (i + 1) times) → AreAbove j (cons_option (if b then Some i else None) (come_from now (i + 1) times))
    by true rest = (below, rest)
    by false rest = rest

ascends : (now i : ℕ) (times : List (Option ℕ)) → Ascends (come_from now i times)
ascends now i [] = tt
ascends now i (x ∷ times) = by (has_come now x) (ascends now (i + 1) times)
  where
    by : (b : Bool) → Ascends (come_from now (i + 1) times) → Ascends (cons_option (if b then Some i else None) (come_from now (i + 1) times))
    by true rest = (above_place now i (i + 1) times (omega arith), rest)
    by false rest = rest

first_place : (i : ℕ) → eqb (0 + i) i ≡ true
first_place i = grind (arith, common_steps)

later_place : (n i : ℕ) → eqb (suc n + i) i ≡ false
later_place n i = grind (arith, common_steps)

members : (now : ℕ) (times : List (Option ℕ)) (i n : ℕ) → list_any (eqb (n + i)) (come_from now i times) ≡ has_come now (get_or times n None)
members now [] i n = refl
members now (x ∷ times) i zero = by (has_come now x)
  where
    absent : list_any (eqb (0 + i)) (come_from now (i + 1) times) ≡ false
    absent = none_above (0 + i) (come_from now (i + 1) times) (above_place now (0 + i) (i + 1) times (omega arith))

    by : (b : Bool) → list_any (eqb (0 + i)) (cons_option (if b then Some i else None) (come_from now (i + 1) times)) ≡ b
    by true = ap (λ c. c || list_any (eqb (0 + i)) (come_from now (i + 1) times)) (first_place i)
    by false = absent
members now (x ∷ times) i (suc n) = by (has_come now x) (members now times (i + 1) n)
  where
    by : (b : Bool) → list_any (eqb (n + (i + 1))) (come_from now (i + 1) times) ≡ has_come now (get_or times n None)
        → list_any (eqb (suc n + i)) (cons_option (if b then Some i else None) (come_from now (i + 1) times)) ≡ has_come now (get_or times n None)
    by true rest =
        let same : suc n + i ≡ n + (i + 1) = omega arith in
        ap (λ c. c || list_any (eqb (suc n + i)) (come_from now (i + 1) times)) (later_place n i)
        ∙ ap (λ m. list_any (eqb m) (come_from now (i + 1) times)) same ∙ rest
    by false rest =
        let same : suc n + i ≡ n + (i + 1) = omega arith in
        ap (λ m. list_any (eqb m) (come_from now (i + 1) times)) same ∙ rest

same_time : (t time : ℕ) → eqb t time ≡ true → t ≡ time
same_time t time e = grind (arith, common_steps)

due_if_come : (now n : ℕ) (kept : Option ℕ) (moments : List (ℕ × ℕ)) → ((time : ℕ) → is_held time n moments ≡ is_kept time kept) → has_come now kept ≡ true → is_due now n moments ≡ true
due_if_come now n None moments holds come = cc
due_if_come now n (Some time) moments holds come = due_from_held now time n moments come (holds time ∙ itself time)

-- a number is due in the order where its time has come
due_when_come : (now n : ℕ) (kept : Option ℕ) (moments : List (ℕ × ℕ)) → ((time : ℕ) → is_held time n moments ≡ is_kept time kept) → is_due now n moments ≡ has_come now kept
due_when_come now n kept moments holds = by (is_due now n moments) (has_come now kept) refl refl
  where
    late : is_due now n moments ≡ true → has_come now kept ≡ true
    late due =
        let found = held_from_due now n moments due in
        come kept found.0 found.1 (sym (holds found.0) ∙ found.2)
      where
        come : (kept : Option ℕ) (time : ℕ) → nat_le time now ≡ true → is_kept time kept ≡ true → has_come now kept ≡ true
        come None time past is = is
        come (Some k) time past is = ap (λ m. nat_le m now) (sym (same_time time k is)) ∙ past

    early : has_come now kept ≡ true → is_due now n moments ≡ true
    early come = due_if_come now n kept moments holds come

    by : (a b : Bool) → is_due now n moments ≡ a → has_come now kept ≡ b → is_due now n moments ≡ has_come now kept
    by true b e f = e ∙ sym (late e)
    by false true e f = absurd (true≢false (sym (early f) ∙ e))
    by false false e f = e ∙ sym f

plus_zero : (n : ℕ) → n + 0 ≡ n
plus_zero n = omega arith

-- the ascending numbers that are due are the places whose time has come
pub due_places : (now : ℕ) (times : List (Option ℕ)) (moments : List (ℕ × ℕ)) (places : List ℕ) → HoldsKept times moments → Ascends places
    → ((n : ℕ) → list_any (eqb n) places ≡ is_due now n moments) → places ≡ places_due now times
due_places now times moments places holds up same =
    same_ascending places (places_due now times) up (ascends now 0 times)
    (λ n. same n ∙ due_when_come now n (get_or times n None) moments (λ time. holds time n)
    ∙ sym (members now times 0 n) ∙ ap (λ m. list_any (eqb m) (places_due now times)) (plus_zero n))
