-- Lines that a sort leaves.
use Rattle.std.proofs.Common.{◌≡◌, ℕ, suc, ◌+◌, Bool, true, false, cond, not, ◌&&◌, ◌||◌, ◌==◌, nat_lt, List, [], ◌∷◌, map, refl, ap, sym, subst, ◌∙◌, get_or, IsTrue, arith}
use Rattle.std.specs.Prelude.{Vec}
use Rattle.std.specs.Ordering.{is_lt, nat_cmp, ordering_then}
use Rattle.std.specs.Cmp.Lexicographic.{slice_cmp}
use Rattle.std.specs.List.Sorted.{IsPermutation, IsSorted}
use Rattle.std.specs.declared.cmp.Ordering.{Ordering}
use Rattle.std.specs.declared.cmp.Ordering.TheVariants.{Less, Equal, Greater}
use Rattle.std.proofs.lemmas.List.Sorted.{IsPermutation-map}
use Rattle.init_machine.specs.Pairs.{is_before}
use Rattle.lint_findings.specs.declared.finding.Finding.{Finding}
use Rattle.lint_findings.specs.Baseline.{IsBaselineOf, ascend, baseline_text, row_of}
use Rattle.lint_findings.proofs.Fronts.{join}

one_byte : (less same : Bool) (o : Ordering) → is_lt (ordering_then (cond less Less (cond same Equal Greater)) o) ≡ (less || (same && is_lt o))
one_byte true same o = refl
one_byte false true o = refl
one_byte false false o = refl

before_is : (a b : List ℕ) → is_lt (slice_cmp nat_cmp a b) ≡ is_before a b
before_is [] [] = refl
before_is [] (y ∷ ys) = refl
before_is (x ∷ xs) [] = refl
before_is (x ∷ xs) (y ∷ ys) =
    one_byte (nat_lt x y) (x == y) (slice_cmp nat_cmp xs ys) ∙ ap (λ b. nat_lt x y || ((x == y) && b)) (before_is xs ys)

abbrev bytes_of : {A : Type 0} → List (Vec ℕ A) → List (List ℕ)
bytes_of rows = map (λ row. row.items) rows

pub sorted_ascend : {A : Type 0} (rows : List (Vec ℕ A)) → IsSorted (λ x y. slice_cmp nat_cmp x.items y.items) rows → IsTrue (ascend (bytes_of rows))
sorted_ascend [] h = refl
sorted_ascend (row ∷ []) h = refl
sorted_ascend (row ∷ next ∷ rest) h =
    let first : is_lt (slice_cmp nat_cmp next.items row.items) ≡ false = h 0 row (omega arith) (omega arith) in
    join (not (is_before next.items row.items)) (ascend (bytes_of (next ∷ rest)))
    (ap not (sym (before_is next.items row.items) ∙ first))
    (sorted_ascend (next ∷ rest) (λ k d low high.
    let at : suc k + 1 ≡ suc (k + 1) = omega arith in
    subst (λ n. is_lt (slice_cmp nat_cmp (get_or (row ∷ next ∷ rest) n d).items (get_or (next ∷ rest) k d).items) ≡ false) at
    (h (suc k) d (omega arith) (omega arith))))

pub printed : {A : Type 0} (findings : List Finding) (rows sorted : List (Vec ℕ A)) (text : List ℕ)
    → bytes_of rows ≡ map row_of findings → IsPermutation rows sorted → IsSorted (λ x y. slice_cmp nat_cmp x.items y.items) sorted
    → text ≡ baseline_text (bytes_of sorted) → (lines : List (List ℕ)) × IsBaselineOf findings lines × (text ≡ baseline_text lines)
printed findings rows sorted text are moved order is = (
  bytes_of sorted,
  record { ascending = sorted_ascend sorted order; rows_are = rw (← are) (IsPermutation-map (λ row. row.items) rows sorted moved) },
  is,
)
