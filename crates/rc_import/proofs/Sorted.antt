-- Names that are sorted are in the order of the definition.
use Rattle.std.proofs.Common.{◌≡◌, ℕ, suc, ◌+◌, ◌<◌, ◌≤◌, Bool, true, false, if◌then◌else◌, List, [], ◌∷◌, length, get_or, refl, sym, ap, ◌∙◌, arith}
use Rattle.std.specs.Cmp.Lexicographic.{slice_cmp, nat_list_cmp_total}
use Rattle.std.specs.List.{sum_by}
use Rattle.std.specs.List.Sorted.{IsPermutation, IsSortedBy}
use Rattle.std.specs.Ordering.{is_lt, nat_cmp, ordering_reverse}
use Rattle.std.specs.declared.cmp.Ordering.{Ordering}
use Rattle.std.specs.declared.cmp.Ordering.TheVariants.{Less, Equal, Greater}
use Rattle.std.specs.Str.{bytes_eq}
use Rattle.std.proofs.lemmas.Bool.{false≢true}
use Rattle.std.proofs.lemmas.List.Recursion.{is_sum_by}
use Rattle.std.proofs.lemmas.List.Sorted.{ranks_by, sorted_far, sum_by-IsPermutation}
use Rattle.std.proofs.lemmas.Map.Lookups.{exact_bytes}
use Rattle.std.proofs.lemmas.Slice.Eq.{bytes_eq-Decides}
use Rattle.rc_import.specs.Names.{in_byte_order, is_before, put_in_order}

-- ---- lists in order

-- no name of the list stands before this one
abbrev Above : List ℕ → List (List ℕ) → Type 0
Above name [] = Unit {0}
Above name (other ∷ rest) = (is_before other name ≡ false) × Above name rest

abbrev Up : List (List ℕ) → Type 0
Up [] = Unit {0}
Up (name ∷ rest) = Above name rest × Up rest

abbrev IsFar : List (List ℕ) → Type 0
IsFar names = (i j : ℕ) (d : List ℕ) → i ≤ j → j < length names → is_before (get_or names j d) (get_or names i d) ≡ false

above_all : (name : List ℕ) (names : List (List ℕ)) → ((k : ℕ) → k < length names → is_before (get_or names k name) name ≡ false) → Above name names
above_all name [] each = tt
above_all name (other ∷ rest) each = (each 0 (omega arith), above_all name rest (λ k below. each (suc k) (omega arith)))

up_far : (names : List (List ℕ)) → IsFar names → Up names
up_far [] far = tt
up_far (name ∷ rest) far =
    (above_all name rest (λ k below. far 0 (suc k) name (omega arith) (omega arith)), up_far rest (λ i j d order below. far (suc i) (suc j) d (omega arith) (omega arith)))

pub up_sorted : (names : List (List ℕ)) → IsSortedBy is_before names → Up names
up_sorted names sorted = up_far names (sorted_far is_before (ranks_by nat_list_cmp_total (λ name. name)) names sorted)

-- ---- the order of two names

turned : (o : Ordering) → is_lt o ≡ false → is_lt (ordering_reverse o) ≡ false → o ≡ Equal
turned Less h k = absurd (false≢true (sym h))
turned Equal h k = refl
turned Greater h k = absurd (false≢true (sym k))

same_name : (a b : List ℕ) → is_before a b ≡ false → is_before b a ≡ false → a ≡ b
same_name a b h k = exact_bytes a b (turned (slice_cmp nat_cmp a b) h (ap is_lt (sym (nat_list_cmp_total.antisymm b a)) ∙ k))

-- ---- counts

abbrev count : List ℕ → List (List ℕ) → ℕ
count name [] = 0
count name (other ∷ rest) = (if bytes_eq name other then 1 else 0) + count name rest

same_bytes : (a b : List ℕ) → bytes_eq a b ≡ true → a ≡ b
same_bytes a b same = (bytes_eq-Decides a b).0 same

is_itself : (a : List ℕ) → bytes_eq a a ≡ true
is_itself a = (bytes_eq-Decides a a).1 refl

count_itself : (name : List ℕ) (rest : List (List ℕ)) → count name (name ∷ rest) ≡ 1 + count name rest
count_itself name rest = ap (λ b. (if b then 1 else 0) + count name rest) (is_itself name)

not_before : (name : List ℕ) → is_before name name ≡ false
not_before name =
    elim (is_before name name) as (λ v. is_before name name ≡ v → v ≡ false) [
      | true ↦ λ e. sym e ∙ (ranks_by nat_list_cmp_total (λ (n : List ℕ). n)).one_way name name e
      | false ↦ λ e. refl
    ] refl

-- a name that is counted isn't before one above which the list is
counted_above : (name least : List ℕ) (rest : List (List ℕ)) → Above least rest → 1 ≤ count name rest → is_before name least ≡ false
counted_above name least [] above some = absurd (omega arith)
counted_above name least (other ∷ rest) above some = by (bytes_eq name other) refl (counted_above name least rest above.1)
  where
    by : (b : Bool) → bytes_eq name other ≡ b → (1 ≤ count name rest → is_before name least ≡ false) → is_before name least ≡ false
    by true e more = ap (λ n. is_before n least) (same_bytes name other e) ∙ above.0
    by false e more =
        let left : count name (other ∷ rest) ≡ 0 + count name rest = ap (λ b. (if b then 1 else 0) + count name rest) e in
        more (omega (arith, some, left))

-- the first of a list is before none that is counted in it
first_of : (name least : List ℕ) (rest : List (List ℕ)) → Up (least ∷ rest) → 1 ≤ count name (least ∷ rest) → is_before name least ≡ false
first_of name least rest up some = counted_above name least (least ∷ rest) (not_before least, up.0) some

-- ---- two lists in order with the same counts are one

same_first : (x y : List ℕ) (xs ys : List (List ℕ)) → Up (x ∷ xs) → Up (y ∷ ys) → ((name : List ℕ) → count name (x ∷ xs) ≡ count name (y ∷ ys)) → x ≡ y
same_first x y xs ys up other same =
    same_name x y
    (first_of x y ys other (omega (arith, same x, count_itself x xs)))
    (first_of y x xs up (omega (arith, same y, count_itself y ys)))

pub one_list : (xs ys : List (List ℕ)) → Up xs → Up ys → ((name : List ℕ) → count name xs ≡ count name ys) → xs ≡ ys
one_list [] [] up other same = refl
one_list [] (y ∷ ys) up other same = let some = count_itself y ys in let none = same y in absurd (omega (arith, some, none))
one_list (x ∷ xs) [] up other same = let some = count_itself x xs in let none = same x in absurd (omega (arith, some, none))
one_list (x ∷ xs) (y ∷ ys) up other same =
    let first : x ≡ y = same_first x y xs ys up other same in
    let rest : xs ≡ ys =
    one_list xs ys up.1 other.1 (λ name.
    let all : (if bytes_eq name x then 1 else 0) + count name xs ≡ (if bytes_eq name x then 1 else 0) + count name ys =
    same name ∙ ap (λ z. (if bytes_eq name z then 1 else 0) + count name ys) (sym first) in
    omega (arith, all)) in
    (λ i. first i ∷ rest i)

-- ---- the order of the definition

put_counts : (name other : List ℕ) (rest : List (List ℕ)) → count name (put_in_order other rest) ≡ count name (other ∷ rest)
put_counts name other [] = refl
put_counts name other (next ∷ rest) = by (is_before next other) (put_counts name other rest)
  where
    by : (b : Bool) → count name (put_in_order other rest) ≡ count name (other ∷ rest)
        → count name (if b then next ∷ put_in_order other rest else other ∷ next ∷ rest) ≡ count name (other ∷ next ∷ rest)
    by true more = omega (arith, more)
    by false more = refl

order_counts : (name : List ℕ) (names : List (List ℕ)) → count name (in_byte_order names) ≡ count name names
order_counts name [] = refl
order_counts name (other ∷ rest) = put_counts name other (in_byte_order rest) ∙ ap (λ n. (if bytes_eq name other then 1 else 0) + n) (order_counts name rest)

above_put : (name least : List ℕ) (rest : List (List ℕ)) → is_before name least ≡ false → Above least rest → Above least (put_in_order name rest)
above_put name least [] first above = (first, tt)
above_put name least (next ∷ rest) first above = by (is_before next name) (above_put name least rest first above.1)
  where
    by : (b : Bool) → Above least (put_in_order name rest) → Above least (if b then next ∷ put_in_order name rest else name ∷ next ∷ rest)
    by true more = (above.0, more)
    by false more = (first, above)

above_more : (name next : List ℕ) (rest : List (List ℕ)) → is_before next name ≡ false → Above next rest → Above name rest
above_more name next [] first above = tt
above_more name next (other ∷ rest) first above =
    ((ranks_by nat_list_cmp_total (λ (n : List ℕ). n)).chain other next name above.0 first, above_more name next rest first above.1)

put_up : (name : List ℕ) (rest : List (List ℕ)) → Up rest → Up (put_in_order name rest)
put_up name [] up = (tt, tt)
put_up name (next ∷ rest) up = by (is_before next name) refl (put_up name rest up.1)
  where
    by : (b : Bool) → is_before next name ≡ b → Up (put_in_order name rest) → Up (if b then next ∷ put_in_order name rest else name ∷ next ∷ rest)
    by true e more = (above_put name next rest ((ranks_by nat_list_cmp_total (λ (n : List ℕ). n)).one_way next name e) up.0, more)
    by false e more = ((e, above_more name next rest e up.0), up)

order_up : (names : List (List ℕ)) → Up (in_byte_order names)
order_up [] = tt
order_up (name ∷ rest) = put_up name (in_byte_order rest) (order_up rest)

count_sum : (name : List ℕ) (names : List (List ℕ)) → count name names ≡ sum_by (λ other. if bytes_eq name other then 1 else 0) names
count_sum name names = is_sum_by (count name) (λ other. if bytes_eq name other then 1 else 0) refl (λ _ _. refl) names

-- the same names in another order, which is that of their bytes
pub ordered : (names sorted : List (List ℕ)) → IsPermutation names sorted → IsSortedBy is_before sorted → sorted ≡ in_byte_order names
ordered names sorted moved up =
    one_list sorted (in_byte_order names) (up_sorted sorted up) (order_up names) (λ name.
    count_sum name sorted ∙ sum_by-IsPermutation (λ other. if bytes_eq name other then 1 else 0) names sorted moved
    ∙ sym (count_sum name names) ∙ sym (order_counts name names))

-- names in another order have the same order
pub same_order : (names moved : List (List ℕ)) → IsPermutation names moved → in_byte_order moved ≡ in_byte_order names
same_order names moved is =
    one_list (in_byte_order moved) (in_byte_order names) (order_up moved) (order_up names) (λ name.
    order_counts name moved ∙ count_sum name moved ∙ sum_by-IsPermutation (λ other. if bytes_eq name other then 1 else 0) names moved is
    ∙ sym (count_sum name names) ∙ sym (order_counts name names))
