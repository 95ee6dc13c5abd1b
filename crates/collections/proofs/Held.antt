-- What an ordered set of moments holds, and which of its first ones are due.
use Rattle.std.proofs.Common.{◌≡◌, ℕ, Bool, true, false, cond, not, ◌&&◌, ◌||◌, eqb, nat_le, nat_lt, suc, All, List, [], ◌∷◌, map, refl, sym, ap, ◌∙◌, arith}
use Rattle.std.proofs.lemmas.Grind.{common_steps}
use Rattle.std.proofs.lemmas.List.Sums.{take_while-cons}
use Rattle.std.specs.List.{list_any, take_while, AllByRecursion}
use Rattle.std.specs.List.Sorted.{IsStrictlySortedBy}
use Rattle.std.specs.BTreeMap.Range.{IsLeBy}
use Rattle.std.specs.Ordering.{nat_cmp, ordering_then, is_eq}
use Rattle.std.specs.declared.cmp.Ordering.{Ordering}
use Rattle.std.specs.declared.cmp.Ordering.TheVariants.{Less, Equal, Greater}
use Rattle.collections.specs.Moments.{is_held, is_due, moment_cmp}

tie_number : (x y : ℕ) → is_eq (nat_cmp x y) ≡ eqb x y
tie_number x y = grind (arith, common_steps)

tie_both : (o p : Ordering) → is_eq (ordering_then o p) ≡ (is_eq o && is_eq p)
tie_both Less p = refl
tie_both Equal p = refl
tie_both Greater p = refl

-- a moment ties with another one where the time and the number are the same
tied : (t n a b : ℕ) → is_eq (ordering_then (nat_cmp t a) (nat_cmp n b)) ≡ (eqb t a && eqb n b)
tied t n a b = tie_both (nat_cmp t a) (nat_cmp n b) ∙ (λ i. tie_number t a i && tie_number n b i)

held_by_ties : (t n : ℕ) (moments : List (ℕ × ℕ)) → list_any (λ moment. is_eq (moment_cmp (t, n) moment)) moments ≡ is_held t n moments
held_by_ties t n moments = λ i. list_any (λ moment. tied t n moment.0 moment.1 i) moments

or_true : (a : Bool) → (a || true) ≡ true
or_true true = refl
or_true false = refl

or_is : (a b : Bool) → cond a true b ≡ (a || b)
or_is true b = refl
or_is false b = refl

not_and_is : (a b : Bool) → cond a false b ≡ (not a && b)
not_and_is true b = refl
not_and_is false b = refl

pub held_when_added : (time number t n : ℕ) (old new : List (ℕ × ℕ))
    → list_any (λ moment. is_eq (moment_cmp (t, n) moment)) new ≡ cond (is_eq (moment_cmp (time, number) (t, n))) true (list_any (λ moment. is_eq (moment_cmp (t, n) moment)) old)
    → is_held t n new ≡ ((eqb time t && eqb number n) || is_held t n old)
held_when_added time number t n old new e =
    sym (held_by_ties t n new) ∙ e ∙ (λ i. cond (tied time number t n i) true (held_by_ties t n old i)) ∙ or_is (eqb time t && eqb number n) (is_held t n old)

pub held_when_removed : (time number t n : ℕ) (old new : List (ℕ × ℕ))
    → list_any (λ moment. is_eq (moment_cmp (t, n) moment)) new ≡ cond (is_eq (moment_cmp (time, number) (t, n))) false (list_any (λ moment. is_eq (moment_cmp (t, n) moment)) old)
    → is_held t n new ≡ (not (eqb time t && eqb number n) && is_held t n old)
held_when_removed time number t n old new e =
    sym (held_by_ties t n new) ∙ e ∙ (λ i. cond (tied time number t n i) false (held_by_ties t n old i)) ∙ not_and_is (eqb time t && eqb number n) (is_held t n old)

and_true : (a b : Bool) → (a && b) ≡ true → (a ≡ true) × (b ≡ true)
and_true true b e = (refl, e)
and_true false b e = cc

same_number : (x y : ℕ) → eqb x y ≡ true → x ≡ y
same_number x y e = grind (arith, common_steps)

itself : (x : ℕ) → eqb x x ≡ true
itself x = grind (arith, common_steps)

-- a number that is due stands at a time up to now
pub held_from_due : (now n : ℕ) (moments : List (ℕ × ℕ)) → is_due now n moments ≡ true → (t : ℕ) × (nat_le t now ≡ true) × (is_held t n moments ≡ true)
held_from_due now n [] due = cc
held_from_due now n (a ∷ moments) due = by (nat_le a.0 now && eqb n a.1) refl due (held_from_due now n moments)
  where
    by : (b : Bool) → (nat_le a.0 now && eqb n a.1) ≡ b → (b || is_due now n moments) ≡ true
        → (is_due now n moments ≡ true → (t : ℕ) × (nat_le t now ≡ true) × (is_held t n moments ≡ true))
        → (t : ℕ) × (nat_le t now ≡ true) × (is_held t n (a ∷ moments) ≡ true)
    by true passes due rest =
        let parts = and_true (nat_le a.0 now) (eqb n a.1) passes in
        (a.0, parts.0, λ i. (itself a.0 i && parts.1 i) || is_held a.0 n moments)
    by false passes due rest =
        let found = rest due in
        (found.0, found.1, ap (λ b. (eqb found.0 a.0 && eqb n a.1) || b) found.2 ∙ or_true (eqb found.0 a.0 && eqb n a.1))

-- a number at a time up to now is due
pub due_from_held : (now t n : ℕ) (moments : List (ℕ × ℕ)) → nat_le t now ≡ true → is_held t n moments ≡ true → is_due now n moments ≡ true
due_from_held now t n [] past held = cc
due_from_held now t n (a ∷ moments) past held = by (eqb t a.0 && eqb n a.1) refl held (due_from_held now t n moments past)
  where
    by : (b : Bool) → (eqb t a.0 && eqb n a.1) ≡ b → (b || is_held t n moments) ≡ true → (is_held t n moments ≡ true → is_due now n moments ≡ true)
        → is_due now n (a ∷ moments) ≡ true
    by true same held rest =
        let parts = and_true (eqb t a.0) (eqb n a.1) same in
        let early : nat_le a.0 now ≡ true = ap (λ m. nat_le m now) (sym (same_number t a.0 parts.0)) ∙ past in
        λ i. (early i && parts.1 i) || is_due now n moments
    by false same held rest = ap (λ b. (nat_le a.0 now && eqb n a.1) || b) (rest held) ∙ or_true (nat_le a.0 now && eqb n a.1)

-- a moment behind one that isn't due isn't due
late_behind : (now : ℕ) (a b : ℕ × ℕ) → nat_le a.0 now ≡ false → moment_cmp a b ≡ Less → nat_le b.0 now ≡ false
late_behind now a b late less = grind (arith, common_steps)

none_late : (now n : ℕ) (a : ℕ × ℕ) (moments : List (ℕ × ℕ)) → nat_le a.0 now ≡ false → AllByRecursion (λ b. moment_cmp a b ≡ Less) moments → is_due now n moments ≡ false
none_late now n a [] late behind = refl
none_late now n a (b ∷ moments) late behind = λ i. ((late_behind now a b late behind.0 i && eqb n b.1) || none_late now n a moments late behind.1 i)

-- of moments in order the first ones are due
pub due_first : (now n : ℕ) (moments : List (ℕ × ℕ)) → IsStrictlySortedBy moment_cmp moments
    → list_any (eqb n) (map (λ moment. moment.1) (take_while (λ moment. nat_le moment.0 now) moments)) ≡ is_due now n moments
unfolding IsStrictlySortedBy
due_first now n [] ordered = refl
due_first now n (a ∷ moments) ordered =
    ap (λ first. list_any (eqb n) (map (λ moment. moment.1) first)) (take_while-cons (λ moment. nat_le moment.0 now) a moments)
    ∙ by (nat_le a.0 now) refl (due_first now n moments ordered.1)
  where
    by : (b : Bool) → nat_le a.0 now ≡ b
        → list_any (eqb n) (map (λ moment. moment.1) (take_while (λ moment. nat_le moment.0 now) moments)) ≡ is_due now n moments
        → list_any (eqb n) (map (λ moment. moment.1) (cond b (a ∷ take_while (λ moment. nat_le moment.0 now) moments) [])) ≡ ((b && eqb n a.1) || is_due now n moments)
    by true e rest = ap (λ b. eqb n a.1 || b) rest
    by false e rest = sym (none_late now n a moments e ordered.0)

-- the members of a set that was made of numbers are the numbers
pub members_same : (n : ℕ) (set numbers : List ℕ) → list_any (λ k. is_eq (nat_cmp n k)) set ≡ list_any (λ k. is_eq (nat_cmp n k)) numbers → list_any (eqb n) set ≡ list_any (eqb n) numbers
members_same n set numbers e = sym (λ i. list_any (λ k. tie_number n k i) set) ∙ e ∙ (λ i. list_any (λ k. tie_number n k i) numbers)

not_due : (now : ℕ) (a b : ℕ × ℕ) → nat_lt now a.0 ≡ true → IsLeBy moment_cmp a b → nat_le b.0 now ≡ false
not_due now a b late least = grind (arith, common_steps)

-- where the first moment isn't due, none is
pub none_due : (now n : ℕ) (first : ℕ × ℕ) (moments : List (ℕ × ℕ)) → nat_lt now first.0 ≡ true → All (IsLeBy moment_cmp first) moments → is_due now n moments ≡ false
none_due now n first [] late all = refl
none_due now n first (a ∷ moments) late all =
    λ i. (not_due now first a late (all 0 a (omega arith)) i && eqb n a.1) || none_due now n first moments late (λ k d below. all (suc k) d (omega (arith, below))) i
