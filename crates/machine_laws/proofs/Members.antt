-- What holds of each element of a list.
use Rattle.std.proofs.Common.{◌≡◌, Bool, true, false, List, [], ◌∷◌, ◌++◌, filter, if◌then◌else◌, refl}
use Rattle.std.specs.List.{AllByRecursion, list_all}
use Rattle.machine_laws.proofs.Tests.{left_holds, right_holds, both_hold}

pub all_map : {T : Type 0} (P Q : T → Type 0) → ((x : T) → P x → Q x) → (xs : List T) → AllByRecursion P xs → AllByRecursion Q xs
all_map P Q more [] all = tt
all_map P Q more (x ∷ xs) all = (more x all.0, all_map P Q more xs all.1)

chosen : {T : Type 0} (Q : T → Type 0) (b : Bool) (x : T) (xs : List T) → (b ≡ true → Q x) → AllByRecursion Q xs
    → AllByRecursion Q (if b then x ∷ xs else xs)
chosen Q true x xs here rest = (here refl, rest)
chosen Q false x xs here rest = rest

-- the elements that pass a test have what it says besides
pub all_filter : {T : Type 0} (P Q : T → Type 0) (test : T → Bool) → ((x : T) → P x → test x ≡ true → Q x) → (xs : List T) → AllByRecursion P xs
    → AllByRecursion Q (filter test xs)
all_filter P Q test more [] all = tt
all_filter P Q test more (x ∷ xs) all = chosen Q (test x) x (filter test xs) (more x all.0) (all_filter P Q test more xs all.1)

pub all_append : {T : Type 0} (P : T → Type 0) (xs ys : List T) → AllByRecursion P xs → AllByRecursion P ys → AllByRecursion P (xs ++ ys)
all_append P [] ys one other = other
all_append P (x ∷ xs) ys one other = (one.0, all_append P xs ys one.1 other)

pub all_tests : {T : Type 0} (test : T → Bool) (xs : List T) → list_all test xs ≡ true → AllByRecursion (λ x. test x ≡ true) xs
all_tests test [] all = tt
all_tests test (x ∷ xs) all = (left_holds (test x) (list_all test xs) all, all_tests test xs (right_holds (test x) (list_all test xs) all))

pub test_all : {T : Type 0} (test : T → Bool) (xs : List T) → AllByRecursion (λ x. test x ≡ true) xs → list_all test xs ≡ true
test_all test [] all = refl
test_all test (x ∷ xs) all = both_hold (test x) (list_all test xs) all.0 (test_all test xs all.1)

pub all_both : {T : Type 0} (P Q : T → Type 0) (xs : List T) → AllByRecursion P xs → AllByRecursion Q xs → AllByRecursion (λ x. P x × Q x) xs
all_both P Q [] one other = tt
all_both P Q (x ∷ xs) one other = ((one.0, other.0), all_both P Q xs one.1 other.1)
