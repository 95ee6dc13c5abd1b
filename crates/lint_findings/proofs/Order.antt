-- The order of lines.
use Rattle.std.proofs.Common.{◌≡◌, ℕ, suc, ◌-◌, Bool, true, false, not, ◌&&◌, Option, Some, None, List, [], ◌∷◌, ◌++◌, length, slice_get, refl, ap, sym, ◌∙◌, IsTrue, arith}
use Rattle.std.proofs.Math.Bool.{and-true}
use Rattle.init_machine.specs.Pairs.{is_before}
use Rattle.lint_findings.specs.Baseline.{ascend}

-- the last line
abbrev pub last_of : List (List ℕ) → Option (List ℕ)
last_of [] = None
last_of (row ∷ []) = Some row
last_of (row ∷ next ∷ rest) = last_of (next ∷ rest)

last_is : (rows : List (List ℕ)) → last_of rows ≡ slice_get rows (length rows - 1)
last_is [] = refl
last_is (row ∷ []) = refl
last_is (row ∷ next ∷ rest) =
    let at : length (row ∷ next ∷ rest) - 1 ≡ suc (length (next ∷ rest) - 1) = omega arith in
    rw at (last_is (next ∷ rest))

and_joined : (a b c : Bool) → (a && (b && c)) ≡ ((a && b) && c)
and_joined true b c = refl
and_joined false b c = refl

-- one line more
ascend_more : (rows : List (List ℕ)) (last row : List ℕ) → last_of rows ≡ Some last
    → ascend (rows ++ row ∷ []) ≡ (ascend rows && not (is_before row last))
ascend_more [] last row h = absurd (cc h)
ascend_more (p ∷ []) last row h =
    let is : p ≡ last = cc h in
    and-true (not (is_before row p)) ∙ ap (λ q. not (is_before row q)) is
ascend_more (p ∷ q ∷ rest) last row h =
    ap (λ b. not (is_before q p) && b) (ascend_more (q ∷ rest) last row h) ∙ and_joined (not (is_before q p)) (ascend (q ∷ rest)) (not (is_before row last))

pub follows : (rows : List (List ℕ)) (last row : List ℕ) (before : Bool) → Some last ≡ slice_get rows (length rows - 1) → before ≡ is_before row last
    → IsTrue (ascend rows) → not before ≡ ascend (rows ++ row ∷ [])
follows rows last row before there is up =
    ap not is ∙ sym (ascend_more rows last row (last_is rows ∙ sym there) ∙ ap (λ b. b && not (is_before row last)) up)
