-- Paths right below others, and how many pass a test.
use Rattle.std.proofs.Common.{◌≡◌, ℕ, zero, suc, ◌+◌, ◌<◌, Bool, true, false, cond, ◌&&◌, List, [], ◌∷◌, ◌++◌, length, get_or, set, Some, slice_get, count_by, refl, sym, ap, ◌∙◌, arith}
use Rattle.std.proofs.lemmas.List.Sums.{sum_by-cons, sum_by-set}
use Rattle.std.proofs.lemmas.Option.{none-some, same_Some}
use Rattle.std.specs.Cmp.Lexicographic.{bytes_decides}
use Rattle.std.specs.Str.{bytes_eq}
use Rattle.init_machine.specs.FileTree.{same_path, is_below, is_root}
use Rattle.init_machine.proofs.Paths.{both_true}
use Rattle.model_fs.specs.internal.Entries.{is_child}

-- a path is right below another by its front
pub child_last : (path front : List (List ℕ)) (last : List ℕ) → is_child path (front ++ last ∷ []) ≡ same_path path front
child_last [] [] last = refl
child_last [] (f ∷ []) last = refl
child_last [] (f ∷ g ∷ front) last = refl
child_last (p ∷ path) [] last = child_none path (bytes_eq p last)
  where
    child_none : (path : List (List ℕ)) (b : Bool) → (b && is_child path []) ≡ false
    child_none path true = refl
    child_none path false = refl
child_last (p ∷ path) (f ∷ front) last = ap (λ b. bytes_eq p f && b) (child_last path front last)

-- what is right below is below
pub child_below : (path other : List (List ℕ)) → is_child path other ≡ true → is_below path other ≡ true
child_below path [] is = absurd (cc)
child_below [] (q ∷ qs) is = refl
child_below (p ∷ path) (q ∷ qs) is =
    let both = both_true (bytes_eq p q) (is_child path qs) is in
    cc (child_below path qs both.1)

-- a path that is right below another has one part more
pub child_split : (path other : List (List ℕ)) → is_child path other ≡ true → (last : List ℕ) × (other ≡ path ++ last ∷ [])
child_split path [] is = absurd (cc)
child_split [] (q ∷ []) is = (q, refl)
child_split [] (q ∷ r ∷ qs) is = absurd (cc)
child_split (p ∷ path) (q ∷ qs) is =
    let both = both_true (bytes_eq p q) (is_child path qs) is in
    let rest = child_split path qs both.1 in
    (rest.0, ap (λ xs. q ∷ xs) rest.1 ∙ ap (λ x. x ∷ (path ++ rest.0 ∷ [])) (sym ((bytes_decides p q).0 both.0)))

-- a path with parts has a last one
pub last_of : (q : List ℕ) (qs : List (List ℕ)) → (front : List (List ℕ)) × (last : List ℕ) × (q ∷ qs ≡ front ++ last ∷ [])
last_of q [] = ([], q, refl)
last_of q (r ∷ qs) =
    let rest = last_of r qs in
    (q ∷ rest.0, rest.1, ap (λ xs. q ∷ xs) rest.2)

pub some_parts : (path : List (List ℕ)) → is_root path ≡ false → (front : List (List ℕ)) × (last : List ℕ) × (path ≡ front ++ last ∷ [])
some_parts [] is = absurd (cc)
some_parts (q ∷ qs) is = last_of q qs

pub no_parts : (path : List (List ℕ)) → is_root path ≡ true → path ≡ []
no_parts [] is = refl
no_parts (q ∷ qs) is = absurd (cc)

-- How many pass.

abbrev pub bit : Bool → ℕ
bit b = cond b 1 0

count_cons : {X : Type 0} (p : X → Bool) (x : X) (xs : List X) → count_by p (x ∷ xs) ≡ bit (p x) + count_by p xs
count_cons p x xs = sum_by-cons (λ y. bit (p y)) x xs

pub count_set : {X : Type 0} (p : X → Bool) (xs : List X) (i : ℕ) (y d : X) → i < length xs
    → count_by p (set xs i y) + bit (p (get_or xs i d)) ≡ count_by p xs + bit (p y)
count_set p xs i y d within = sum_by-set (λ x. bit (p x)) xs i y d within

pub count_last : {X : Type 0} (p : X → Bool) (xs : List X) (x : X) → p x ≡ false → count_by p (xs ++ x ∷ []) ≡ count_by p xs
count_last p [] x fails = count_cons p x [] ∙ ap (λ b. bit b + 0) fails
count_last p (y ∷ xs) x fails =
    count_cons p y (xs ++ x ∷ []) ∙ ap (λ n. bit (p y) + n) (count_last p xs x fails) ∙ sym (count_cons p y xs)

pub count_none : {X : Type 0} (p : X → Bool) (xs : List X) → ((i : ℕ) (x : X) → slice_get xs i ≡ Some x → p x ≡ false) → count_by p xs ≡ 0
count_none p [] fails = refl
count_none p (x ∷ xs) fails =
    let rest : count_by p xs ≡ 0 = count_none p xs (λ i y at. fails (suc i) y at) in
    count_cons p x xs ∙ ap (λ b. bit b + count_by p xs) (fails 0 x refl) ∙ ap (λ n. 0 + n) rest

-- one that passes is counted
pub count_some : {X : Type 0} (p : X → Bool) (xs : List X) (i : ℕ) (x : X) → slice_get xs i ≡ Some x → p x ≡ true → 0 < count_by p xs
count_some p [] i x at passes = absurd (none-some x at)
count_some p (y ∷ xs) zero x at passes =
    let here : bit (p y) ≡ 1 = ap (λ z. bit (p z)) (same_Some y x at) ∙ ap bit passes in
    let all = count_cons p y xs in
    omega arith
count_some p (y ∷ xs) (suc i) x at passes =
    let rest = count_some p xs i x at passes in
    let all = count_cons p y xs in
    omega arith

-- where some are counted, one passes
pub some_count : {X : Type 0} (p : X → Bool) (xs : List X) → 0 < count_by p xs → (i : ℕ) × (x : X) × (slice_get xs i ≡ Some x) × (p x ≡ true)
some_count p [] some = absurd (omega arith)
some_count {X = X} p (x ∷ xs) some = by (p x) refl (λ fails. some_count p xs (let all = count_cons p x xs in let none : bit (p x) ≡ 0 = ap bit fails in omega arith))
  where
    by : (b : Bool) → p x ≡ b → (p x ≡ false → (i : ℕ) × (y : X) × (slice_get xs i ≡ Some y) × (p y ≡ true)) → (i : ℕ) × (y : X) × (slice_get (x ∷ xs) i ≡ Some y) × (p y ≡ true)
    by true passes rest = (0, x, refl, passes)
    by false fails rest = let r = rest fails in (suc r.0, r.1, r.2, r.3)
