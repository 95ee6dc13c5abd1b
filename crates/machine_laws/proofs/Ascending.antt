-- The order of names, and pairs that ascend by name.
use Rattle.std.proofs.Common.{◌≡◌, ◌≢◌, ◌⊎◌, inl, inr, ℕ, ◌<◌, Bool, true, false, not, ◌&&◌, ◌||◌, ◌==◌, nat_lt, List, [], ◌∷◌, filter, if◌then◌else◌, refl, sym, ap, ◌∙◌, arith, subst}
use Rattle.std.proofs.lemmas.Bool.{ltb-true, lt-ltb, eqb-true, eq-eqb, false≢true}
use Rattle.std.proofs.lemmas.Slice.Eq.{bytes_eq-Decides}
use Rattle.std.specs.List.{AllByRecursion}
use Rattle.std.specs.Str.{bytes_eq}
use Rattle.init_machine.specs.Pairs.{pair, is_before, with_saved, without_name}
use Rattle.init_machine.specs.WellFormed.{ascend}
use Rattle.init_machine.specs.declared.config.Pair.{Pair}
use Rattle.machine_laws.proofs.Members.{all_map, all_filter}
use Rattle.machine_laws.proofs.Tests.{left_holds, right_holds, both_hold, or_second}

-- what a comparison of the first bytes says
record Same (x y : ℕ) (r : Bool) : Type 0 where
  is : x ≡ y
  rest : r ≡ true

view : (x y : ℕ) (r : Bool) → (nat_lt x y || (x == y && r)) ≡ true → (x < y) ⊎ Same x y r
view x y r holds =
    elim (nat_lt x y) as (λ b. nat_lt x y ≡ b → (b || (x == y && r)) ≡ true → (x < y) ⊎ Same x y r) [
      | true ↦ λ less any. inl (ltb-true x y less)
      | false ↦ λ not_less both. inr (record { is = eqb-true x y (left_holds (x == y) r both); rest = right_holds (x == y) r both })
    ] refl holds

less_holds : (x y : ℕ) (r : Bool) → x < y → (nat_lt x y || r) ≡ true
less_holds x y r less = ap (λ b. b || r) (lt-ltb x y less)

same_holds : (x y : ℕ) (r : Bool) → x ≡ y → r ≡ true → (nat_lt x y || (x == y && r)) ≡ true
same_holds x y r same holds = or_second (nat_lt x y) (x == y && r) (both_hold (x == y) r (eq-eqb x y same) holds)

three : (x y : ℕ) → (x < y) ⊎ ((x ≡ y) ⊎ (y < x))
three x y = grind arith

through : (x y z : ℕ) (q r s : Bool) → (x < y) ⊎ Same x y q → (y < z) ⊎ Same y z r → (q ≡ true → r ≡ true → s ≡ true)
    → (nat_lt x z || (x == z && s)) ≡ true
through x y z q r s (inl first) (inl second) rest = less_holds x z (x == z && s) (omega arith)
through x y z q r s (inl first) (inr second) rest = less_holds x z (x == z && s) (omega (arith, second.is))
through x y z q r s (inr first) (inl second) rest = less_holds x z (x == z && s) (omega (arith, first.is))
through x y z q r s (inr first) (inr second) rest = same_holds x z s (first.is ∙ second.is) (rest first.rest second.rest)

before_through : (a b c : List ℕ) → is_before a b ≡ true → is_before b c ≡ true → is_before a c ≡ true
before_through [] [] c first second = second
before_through [] (y ∷ b) [] first second = second
before_through [] (y ∷ b) (z ∷ c) first second = refl
before_through (x ∷ a) [] c first second = absurd (cc)
before_through (x ∷ a) (y ∷ b) [] first second = second
before_through (x ∷ a) (y ∷ b) (z ∷ c) first second =
    through x y z (is_before a b) (is_before b c) (is_before a c) (view x y (is_before a b) first) (view y z (is_before b c) second) (before_through a b c)

one_way : (x y : ℕ) (q r : Bool) → (x < y) ⊎ ((x ≡ y) ⊎ (y < x)) → (nat_lt y x || (y == x && q)) ≡ false → (x ≡ y → q ≡ false → r ≡ true)
    → (nat_lt x y || (x == y && r)) ≡ true
one_way x y q r (inl less) other rest = less_holds x y (x == y && r) less
one_way x y q r (inr (inl same)) other rest =
    same_holds x y r same (rest same (elim q as (λ b. (nat_lt y x || (y == x && b)) ≡ false → b ≡ false) [
      | true ↦ λ never. absurd (false≢true (sym never ∙ same_holds y x true (sym same) refl))
      | false ↦ λ never. refl
    ] other))
one_way x y q r (inr (inr more)) other rest = absurd (false≢true (sym other ∙ less_holds y x (y == x && q) more))

-- of two names that differ, the one that isn't after the other is before it
before_or_after : (a b : List ℕ) → a ≢ b → is_before b a ≡ false → is_before a b ≡ true
before_or_after [] [] differ other = absurd (differ refl)
before_or_after [] (y ∷ b) differ other = refl
before_or_after (x ∷ a) [] differ other = absurd (cc)
before_or_after (x ∷ a) (y ∷ b) differ other =
    one_way x y (is_before b a) (is_before a b) (three x y) other
    (λ same later. before_or_after a b (λ rest. differ (ap (λ z. z ∷ a) same ∙ ap (λ bytes. y ∷ bytes) rest)) later)

-- a name is before each name of some pairs
abbrev IsBelow : List ℕ → List Pair → Type 0
IsBelow name pairs = AllByRecursion (λ p. is_before name p.name ≡ true) pairs

abbrev pub Ascends : List Pair → Type 0
Ascends [] = Unit {0}
Ascends (p ∷ rest) = IsBelow p.name rest × Ascends rest

below_through : (a b : List ℕ) (pairs : List Pair) → is_before a b ≡ true → IsBelow b pairs → IsBelow a pairs
below_through a b pairs first below =
    all_map (λ (p : Pair). is_before b p.name ≡ true) (λ (p : Pair). is_before a p.name ≡ true) (λ p second. before_through a b p.name first second) pairs below

pub from_ascend : (pairs : List Pair) → ascend pairs ≡ true → Ascends pairs
from_ascend [] up = tt
from_ascend (p ∷ []) up = (tt, tt)
from_ascend (p ∷ q ∷ rest) up =
    let first = left_holds (is_before p.name q.name) (ascend (q ∷ rest)) up in
    let later = from_ascend (q ∷ rest) (right_holds (is_before p.name q.name) (ascend (q ∷ rest)) up) in
    ((first, below_through p.name q.name rest first later.0), later)

pub to_ascend : (pairs : List Pair) → Ascends pairs → ascend pairs ≡ true
to_ascend [] up = refl
to_ascend (p ∷ []) up = refl
to_ascend (p ∷ q ∷ rest) up = both_hold (is_before p.name q.name) (ascend (q ∷ rest)) up.0.0 (to_ascend (q ∷ rest) up.1)

-- Pairs with a saved one, and without a name.

-- what holds of each pair, and of the saved one
pub all_with_saved : (P : Pair → Type 0) (pairs : List Pair) (name value : List ℕ) → AllByRecursion P pairs → P (pair name value)
    → AllByRecursion P (with_saved pairs name value)
all_with_saved P [] name value all new = (new, tt)
all_with_saved P (p ∷ rest) name value all new =
    elim (bytes_eq p.name name) as (λ b. AllByRecursion P (if b then pair name value ∷ rest else if is_before name p.name then pair name value ∷ p ∷ rest else p ∷ with_saved rest name value)) [
      | true ↦ (new, all.1)
      | false ↦ elim (is_before name p.name) as (λ b. AllByRecursion P (if b then pair name value ∷ p ∷ rest else p ∷ with_saved rest name value)) [
        | true ↦ (new, all)
        | false ↦ (all.0, all_with_saved P rest name value all.1 new)
      ]
    ]

pub ascends_with : (pairs : List Pair) (name value : List ℕ) → Ascends pairs → Ascends (with_saved pairs name value)
ascends_with [] name value up = (tt, tt)
ascends_with (p ∷ rest) name value up =
    elim (bytes_eq p.name name) as (λ b. bytes_eq p.name name ≡ b
    → Ascends (if b then pair name value ∷ rest else if is_before name p.name then pair name value ∷ p ∷ rest else p ∷ with_saved rest name value)) [
      | true ↦ λ same. (subst (λ n. IsBelow n rest) ((bytes_eq-Decides p.name name).0 same) up.0, up.1)
      | false ↦ λ differ. elim (is_before name p.name) as (λ b. is_before name p.name ≡ b → Ascends (if b then pair name value ∷ p ∷ rest else p ∷ with_saved rest name value)) [
        | true ↦ λ first. ((first, below_through name p.name rest first up.0), up)
        | false ↦ λ later. (
          all_with_saved (λ q. is_before p.name q.name ≡ true) rest name value up.0
              (before_or_after p.name name (λ same. false≢true (sym differ ∙ (bytes_eq-Decides p.name name).1 same)) later),
          ascends_with rest name value up.1,
        )
      ] refl
    ] refl

chosen_ascends : (b : Bool) (p : Pair) (rest : List Pair) → IsBelow p.name rest → Ascends rest → Ascends (if b then p ∷ rest else rest)
chosen_ascends true p rest below up = (below, up)
chosen_ascends false p rest below up = up

ascends_filter : (test : Pair → Bool) (pairs : List Pair) → Ascends pairs → Ascends (filter test pairs)
ascends_filter test [] up = tt
ascends_filter test (p ∷ rest) up =
    chosen_ascends (test p) p (filter test rest)
    (all_filter (λ (q : Pair). is_before p.name q.name ≡ true) (λ (q : Pair). is_before p.name q.name ≡ true) test (λ q is passes. is) rest up.0)
    (ascends_filter test rest up.1)

pub ascends_without : (pairs : List Pair) (name : List ℕ) → Ascends pairs → Ascends (without_name pairs name)
ascends_without pairs name up = ascends_filter (λ (p : Pair). not (bytes_eq p.name name)) pairs up
