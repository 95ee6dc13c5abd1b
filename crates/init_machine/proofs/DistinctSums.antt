-- The sum over the distinct members of a list depends on which members it has, and not on their order.
use Rattle.std.proofs.Common.{◌≡◌, ℕ, ◌+◌, true, false, ◌||◌, List, [], ◌∷◌, ◌++◌, refl, sym, ap, ◌∙◌, arith, if◌then◌else◌}
use Rattle.std.specs.Str.{bytes_eq}
use Rattle.std.proofs.lemmas.Slice.Eq.{bytes_eq-Decides}
use Rattle.std.proofs.lemmas.Bool.Decides.{nat_tests}
use Rattle.std.proofs.lemmas.Bool.{both_ways}
use Rattle.init_machine.specs.internal.Nodes.{SameMembers, total_beyond}
use Rattle.init_machine.specs.Words.{is_among, distinct}

pub same_bytes : (x y : List ℕ) → bytes_eq x y ≡ true → x ≡ y
same_bytes x y e = (bytes_eq-Decides x y).0 e

pub bytes_eq-refl : (x : List ℕ) → bytes_eq x x ≡ true
bytes_eq-refl x = (bytes_eq-Decides x x).1 refl

pub bytes_eq-sym : (x y : List ℕ) → bytes_eq x y ≡ bytes_eq y x
bytes_eq-sym [] [] = refl
bytes_eq-sym [] (y ∷ ys) = refl
bytes_eq-sym (x ∷ xs) [] = refl
bytes_eq-sym (x ∷ xs) (y ∷ ys) = grind (arith, nat_tests, bytes_eq-sym xs ys)

abbrev pub total : (List ℕ → ℕ) → List (List ℕ) → ℕ
total w [] = 0
total w (x ∷ xs) = w x + total w xs

-- the members that are not x
abbrev pub without : List ℕ → List (List ℕ) → List (List ℕ)
without x [] = []
without x (y ∷ ys) = if bytes_eq y x then without x ys else y ∷ without x ys

pub among-append : (xs ys : List (List ℕ)) (z : List ℕ) → is_among (xs ++ ys) z ≡ (is_among xs z || is_among ys z)
among-append [] ys z = refl
among-append (x ∷ xs) ys z = grind (arith, among-append xs ys z)

among-without : (x : List ℕ) (ys : List (List ℕ)) (z : List ℕ) → bytes_eq x z ≡ false → is_among (without x ys) z ≡ is_among ys z
among-without x [] z e = refl
among-without x (y ∷ ys) z e =
    elim (bytes_eq y x) as (λ b. bytes_eq y x ≡ b → is_among (if b then without x ys else y ∷ without x ys) z ≡ (bytes_eq y z || is_among ys z)) [
      | true ↦ λ t. among-without x ys z e ∙ sym (rw (same_bytes y x t, e) refl)
      | false ↦ λ f. ap (λ b. bytes_eq y z || b) (among-without x ys z e)
    ] refl

gone-without : (x : List ℕ) (ys : List (List ℕ)) → is_among (without x ys) x ≡ false
gone-without x [] = refl
gone-without x (y ∷ ys) =
    elim (bytes_eq y x) as (λ b. bytes_eq y x ≡ b → is_among (if b then without x ys else y ∷ without x ys) x ≡ false) [
      | true ↦ λ t. gone-without x ys
      | false ↦ λ f. rw f (gone-without x ys)
    ] refl

total-distinct_cons : (w : List ℕ → ℕ) (x : List ℕ) (xs : List (List ℕ)) → total w (distinct (x ∷ xs)) ≡ (if is_among xs x then 0 else w x) + total w (distinct xs)
total-distinct_cons w x xs =
    elim (is_among xs x) as (λ b. total w (if b then distinct xs else x ∷ distinct xs) ≡ (if b then 0 else w x) + total w (distinct xs)) [
      | true ↦ omega arith
      | false ↦ refl
    ]

-- one member taken out, where the first is that member
taken_same : (w : List ℕ → ℕ) (x y : List ℕ) (ys : List (List ℕ)) → y ≡ x
    → total w (distinct ys) ≡ (if is_among ys x then w x else 0) + total w (distinct (without x ys))
    → (if is_among ys y then 0 else w y) + total w (distinct ys) ≡ w x + total w (distinct (without x ys))
taken_same w x y ys e h =
    rw e (elim (is_among ys x) as (λ b. total w (distinct ys) ≡ (if b then w x else 0) + total w (distinct (without x ys))
    → (if b then 0 else w x) + total w (distinct ys) ≡ w x + total w (distinct (without x ys))) [
      | true ↦ λ k. omega arith
      | false ↦ λ k. omega arith
    ] h)

taken_other : (w : List ℕ → ℕ) (x y : List ℕ) (ys : List (List ℕ)) → bytes_eq x y ≡ false
    → total w (distinct ys) ≡ (if is_among ys x then w x else 0) + total w (distinct (without x ys))
    → (if is_among ys y then 0 else w y) + total w (distinct ys) ≡ (if is_among ys x then w x else 0) + total w (distinct (y ∷ without x ys))
taken_other w x y ys f h =
    let e = total-distinct_cons w y (without x ys) in
    let k = among-without x ys y f in
    let e' : total w (distinct (y ∷ without x ys)) ≡ (if is_among ys y then 0 else w y) + total w (distinct (without x ys)) = e ∙ ap (λ b. (if b then 0 else w y) + total w (distinct (without x ys))) k in
    omega arith

-- one member taken out
total-take_out : (w : List ℕ → ℕ) (x : List ℕ) (ys : List (List ℕ))
    → total w (distinct ys) ≡ (if is_among ys x then w x else 0) + total w (distinct (without x ys))
total-take_out w x [] = refl
total-take_out w x (y ∷ ys) =
    total-distinct_cons w y ys ∙ elim (bytes_eq y x) as (λ b. bytes_eq y x ≡ b
    → (if is_among ys y then 0 else w y) + total w (distinct ys) ≡ (if b || is_among ys x then w x else 0) + total w (distinct (if b then without x ys else y ∷ without x ys))) [
      | true ↦ λ t. taken_same w x y ys (same_bytes y x t) (total-take_out w x ys)
      | false ↦ λ f. taken_other w x y ys (bytes_eq-sym x y ∙ f) (total-take_out w x ys)
    ] refl

none_among : (ys : List (List ℕ)) → SameMembers [] ys → ys ≡ []
none_among [] same = refl
none_among (y ∷ ys) same = absurd (both_ways (bytes_eq y y || is_among ys y) (sym (same y)) (rw (bytes_eq-refl y) refl))

same_there : (x : List ℕ) (xs ys : List (List ℕ)) → is_among xs x ≡ true → SameMembers (x ∷ xs) ys → SameMembers xs ys
same_there x xs ys there same z =
    elim (bytes_eq x z) as (λ b. bytes_eq x z ≡ b → (b || is_among xs z) ≡ is_among ys z → is_among xs z ≡ is_among ys z) [
      | true ↦ λ t s. (ap (λ v. is_among xs v) (sym (same_bytes x z t)) ∙ there) ∙ s
      | false ↦ λ f s. s
    ] refl (same z)

same_rest : (x : List ℕ) (xs ys : List (List ℕ)) → is_among xs x ≡ false → SameMembers (x ∷ xs) ys → SameMembers xs (without x ys)
same_rest x xs ys gone same z =
    elim (bytes_eq x z) as (λ b. bytes_eq x z ≡ b → (b || is_among xs z) ≡ is_among ys z → is_among xs z ≡ is_among (without x ys) z) [
      | true ↦ λ t s. let e : x ≡ z = same_bytes x z t in
          (ap (λ v. is_among xs v) (sym e) ∙ gone) ∙ sym (ap (λ v. is_among (without x ys) v) (sym e) ∙ gone-without x ys)
      | false ↦ λ f s. s ∙ sym (among-without x ys z f)
    ] refl (same z)

there_too : (x : List ℕ) (xs ys : List (List ℕ)) → SameMembers (x ∷ xs) ys → is_among ys x ≡ true
there_too x xs ys same = sym (same x) ∙ rw (bytes_eq-refl x) refl

-- lists with the same members have the same sum
pub total-same : (w : List ℕ → ℕ) (xs ys : List (List ℕ)) → SameMembers xs ys → total w (distinct xs) ≡ total w (distinct ys)
total-same w [] ys same = rw (none_among ys same) refl
total-same w (x ∷ xs) ys same =
    elim (is_among xs x) as (λ b. is_among xs x ≡ b → total w (if b then distinct xs else x ∷ distinct xs) ≡ total w (distinct ys)) [
      | true ↦ λ t. total-same w xs ys (same_there x xs ys t same)
      | false ↦ λ f.
          let rest = total-same w xs (without x ys) (same_rest x xs ys f same) in
          let out = total-take_out w x ys in
          let out' : total w (distinct ys) ≡ w x + total w (distinct (without x ys)) = out ∙ ap (λ b. (if b then w x else 0) + total w (distinct (without x ys))) (there_too x xs ys same) in
          ap (λ n. w x + n) rest ∙ sym out'
    ] refl

pub there_already : (x : List ℕ) (xs : List (List ℕ)) (z : List ℕ) → is_among xs x ≡ true → is_among xs z ≡ (bytes_eq x z || is_among xs z)
there_already x xs z there =
    elim (bytes_eq x z) as (λ b. bytes_eq x z ≡ b → is_among xs z ≡ (b || is_among xs z)) [
      | true ↦ λ t. ap (λ v. is_among xs v) (sym (same_bytes x z t)) ∙ there
      | false ↦ λ f. refl
    ] refl

-- each member once
abbrev pub IsSet : List (List ℕ) → Type 0
IsSet [] = Unit {0}
IsSet (x ∷ xs) = (is_among xs x ≡ false) × IsSet xs

-- what distinct members in front add
pub total-front : (w : List ℕ → ℕ) (xs qs : List (List ℕ)) → IsSet xs
    → total w (distinct (xs ++ qs)) ≡ total_beyond w qs xs + total w (distinct qs)
total-front w [] qs set = omega arith
total-front w (x ∷ xs) qs set =
    let e = total-distinct_cons w x (xs ++ qs) in
    let k : is_among (xs ++ qs) x ≡ is_among qs x = among-append xs qs x ∙ ap (λ b. b || is_among qs x) set.0 in
    let e' : total w (distinct (x ∷ (xs ++ qs))) ≡ (if is_among qs x then 0 else w x) + total w (distinct (xs ++ qs)) = e ∙ ap (λ b. (if b then 0 else w x) + total w (distinct (xs ++ qs))) k in
    let rest = total-front w xs qs set.1 in
    omega arith
