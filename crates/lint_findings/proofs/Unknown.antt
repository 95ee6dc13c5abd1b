-- What a baseline leaves, finding by finding.
use Rattle.std.proofs.Common.{◌≡◌, ℕ, ◌+◌, ◌-◌, ◌<◌, Bool, true, false, ◌==◌, cond, nat_lt, List, [], ◌∷◌, ◌++◌, map, refl, sym, ap, ◌∙◌, inl, inr, append_assoc, arith, lt-ltb}
use Rattle.std.specs.Prelude.{filter}
use Rattle.std.specs.Str.{bytes_eq}
use Rattle.std.specs.Cmp.Lexicographic.{bytes_decides}
use Rattle.std.proofs.lemmas.Bool.Decides.{nat_tests}
use Rattle.std.proofs.lemmas.List.Sums.{sum_by-append}
use Rattle.std.proofs.lemmas.List.Sorted.{sum_by-IsPermutation}
use Rattle.lint_findings.specs.Baseline.{IsBaselineOf, row_of}
use Rattle.lint_findings.specs.Left.{IsPartOf, having, is_known, is_new, known, left, left_behind}
use Rattle.lint_findings.specs.declared.finding.Finding.{Finding}

bytes_same : (xs : List ℕ) → bytes_eq xs xs ≡ true
bytes_same xs = (bytes_decides xs xs).1 refl

lt_true : (h k : ℕ) → h < k → nat_lt h k ≡ true
lt_true h k below = lt-ltb h k below

pub having_more : (before : List Finding) (f : Finding) (q : List ℕ)
    → having (before ++ f ∷ []) q ≡ having before q + cond (bytes_eq (row_of f) q) 1 0
having_more before f q =
    sum_by-append (λ finding. cond (bytes_eq (row_of finding) q) 1 0) before (f ∷ []) ∙ omega arith

having_first : (f : Finding) (rest : List Finding) (q : List ℕ) → having (f ∷ rest) q ≡ cond (bytes_eq (row_of f) q) 1 0 + having rest q
having_first f rest q =
    sum_by-append (λ finding. cond (bytes_eq (row_of finding) q) 1 0) (f ∷ []) rest ∙ omega arith

known_first : (row : List ℕ) (rows : List (List ℕ)) (q : List ℕ) → known (row ∷ rows) q ≡ cond (bytes_eq row q) 1 0 + known rows q
known_first row rows q = sum_by-append (λ other. cond (bytes_eq other q) 1 0) (row ∷ []) rows ∙ omega arith

positive_rest : (k h : ℕ) → nat_lt 0 (k - h) ≡ nat_lt h k
positive_rest k h = grind (arith, nat_tests)

-- a finding goes, or joins those that are left
pub left_more : (rows : List (List ℕ)) (before : List Finding) (f : Finding) (rest old new all : List Finding) (number : ℕ)
    → old ++ left_behind rows before (f ∷ rest) ≡ all → number ≡ known rows (row_of f) - having before (row_of f)
    → new ≡ old ++ cond (nat_lt 0 number) [] (f ∷ []) → new ++ left_behind rows (before ++ f ∷ []) rest ≡ all
left_more rows before f rest old new all number so_far counted added =
    let test : nat_lt 0 number ≡ is_known rows before f = ap (nat_lt 0) counted ∙ positive_rest (known rows (row_of f)) (having before (row_of f)) in
    ap (λ (fs : List Finding). fs ++ left_behind rows (before ++ f ∷ []) rest) (added ∙ ap (λ (b : Bool). old ++ cond b [] (f ∷ [])) test)
    ∙ append_assoc old (cond (is_known rows before f) [] (f ∷ [])) (left_behind rows (before ++ f ∷ []) rest)
    ∙ so_far

pub counts_more : (known_there before had now one : ℕ) → had ≡ known_there - before → now ≡ had - one → now ≡ known_there - (before + one)
counts_more known_there before had now one h i = omega arith

never_below : (h : ℕ) → nat_lt h 0 ≡ false
never_below h = grind (arith, nat_tests)

all_behind : (before findings : List Finding) → left_behind [] before findings ≡ findings
all_behind before [] = refl
all_behind before (f ∷ rest) =
    ap (λ (b : Bool). cond b [] (f ∷ []) ++ left_behind [] (before ++ f ∷ []) rest) (never_below (having before (row_of f)))
    ∙ ap (λ (fs : List Finding). f ∷ fs) (all_behind (before ++ f ∷ []) rest)

-- where no line is known, all are left
pub all_left : (rows : List (List ℕ)) (findings : List Finding) → rows ≡ [] → findings ≡ left rows findings
all_left rows findings none = sym (ap (λ (rs : List (List ℕ)). left rs findings) none ∙ all_behind [] findings)

-- ---- laws

none_left : (rows : List (List ℕ)) (before rest : List Finding) → ((q : List ℕ) → known rows q ≡ having (before ++ rest) q) → left_behind rows before rest ≡ []
none_left rows before [] h = refl
none_left rows before (f ∷ rest) h =
    let row : List ℕ = row_of f in
    let parts : having (before ++ f ∷ rest) row ≡ having before row + having (f ∷ rest) row =
    sum_by-append (λ finding. cond (bytes_eq (row_of finding) row) 1 0) before (f ∷ rest) in
    let own : bytes_eq row row ≡ true = bytes_same row in
    let one : having (f ∷ rest) row ≡ 1 + having rest row = having_first f rest row ∙ ap (λ (b : Bool). cond b 1 0 + having rest row) own in
    let is : is_known rows before f ≡ true = lt_true (having before row) (known rows row) (omega (arith, h row, parts, one)) in
    let more : left_behind rows (before ++ f ∷ []) rest ≡ [] =
    none_left rows (before ++ f ∷ []) rest (λ q. h q ∙ ap (λ (fs : List Finding). having fs q) (sym (append_assoc before (f ∷ []) rest))) in
    ap (λ (b : Bool). cond b [] (f ∷ []) ++ left_behind rows (before ++ f ∷ []) rest) is ∙ more

rows_counted : (findings : List Finding) (q : List ℕ) → known (map row_of findings) q ≡ having findings q
rows_counted [] q = refl
rows_counted (f ∷ rest) q =
    known_first (row_of f) (map row_of rest) q ∙ ap (λ n. cond (bytes_eq (row_of f) q) 1 0 + n) (rows_counted rest q) ∙ sym (having_first f rest q)

pub own_goes : (findings : List Finding) (rows : List (List ℕ)) → IsBaselineOf findings rows → left rows findings ≡ []
own_goes findings rows is =
    none_left rows [] findings
    (λ q. sum_by-IsPermutation (λ other. cond (bytes_eq other q) 1 0) (map row_of findings) rows is.rows_are ∙ rows_counted findings q)

part_behind : (rows : List (List ℕ)) (before findings : List Finding) → IsPartOf (left_behind rows before findings) findings
part_behind rows before [] = refl
part_behind rows before (f ∷ rest) =
    let more = part_behind rows (before ++ f ∷ []) rest in
    elim (is_known rows before f) as (λ b. IsPartOf (cond b [] (f ∷ []) ++ left_behind rows (before ++ f ∷ []) rest) (f ∷ rest)) [
      | true ↦ inl more
      | false ↦ inr (left_behind rows (before ++ f ∷ []) rest, refl, more)
    ]

pub left_is_part : (findings : List Finding) (rows : List (List ℕ)) → IsPartOf (left rows findings) findings
left_is_part findings rows = part_behind rows [] findings

-- a known line is in the baseline
not_new : (h k : ℕ) → nat_lt h k ≡ true → (k == 0) ≡ false
not_new h k e = grind (arith, nat_tests)

kept : (rows : List (List ℕ)) (f : Finding) (rest more : List Finding) (b new : Bool)
    → (b ≡ true → new ≡ false) → filter (is_new rows) more ≡ filter (is_new rows) rest → is_new rows f ≡ new
    → filter (is_new rows) (cond b [] (f ∷ []) ++ more) ≡ filter (is_new rows) (f ∷ rest)
kept rows f rest more true new h same is =
    same ∙ sym (ap (λ (t : Bool). cond t (f ∷ filter (is_new rows) rest) (filter (is_new rows) rest)) (is ∙ h refl))
kept rows f rest more false new h same is =
    ap (λ (fs : List Finding). cond (is_new rows f) (f ∷ fs) fs) same

new_behind : (rows : List (List ℕ)) (before findings : List Finding)
    → filter (is_new rows) (left_behind rows before findings) ≡ filter (is_new rows) findings
new_behind rows before [] = refl
new_behind rows before (f ∷ rest) =
    kept rows f rest (left_behind rows (before ++ f ∷ []) rest) (is_known rows before f) (is_new rows f)
    (not_new (having before (row_of f)) (known rows (row_of f))) (new_behind rows (before ++ f ∷ []) rest) refl

pub new_is_left : (findings : List Finding) (rows : List (List ℕ)) → filter (is_new rows) (left rows findings) ≡ filter (is_new rows) findings
new_is_left findings rows = new_behind rows [] findings
