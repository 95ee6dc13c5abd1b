-- What a baseline leaves of findings.
use Rattle.std.specs.Prelude.{◌≡◌, ℕ, Bool, nat_lt, ◌==◌, ◌⊎◌, count_by, if◌then◌else◌, List, [], ◌∷◌, ◌++◌}
use Rattle.std.specs.Str.{bytes_eq}
use Rattle.lint_findings.specs.Baseline.{row_of}
use Rattle.lint_findings.specs.declared.finding.Finding.{Finding}

-- how often a line stands in a baseline
abbrev pub known : List (List ℕ) → List ℕ → ℕ
known rows row = count_by (λ other. bytes_eq other row) rows

-- how many findings have a line
abbrev pub having : List Finding → List ℕ → ℕ
having findings row = count_by (λ finding. bytes_eq (row_of finding) row) findings

-- A finding is known where fewer findings of its line stand before it than lines in the baseline.
abbrev pub is_known : List (List ℕ) → List Finding → Finding → Bool
is_known rows before finding = nat_lt (having before (row_of finding)) (known rows (row_of finding))

-- the findings that aren't known, where these stand before them
abbrev pub left_behind : List (List ℕ) → List Finding → List Finding → List Finding
left_behind rows before [] = []
left_behind rows before (finding ∷ rest) =
    (if is_known rows before finding then [] else finding ∷ []) ++ left_behind rows (before ++ finding ∷ []) rest

abbrev pub left : List (List ℕ) → List Finding → List Finding
left rows findings = left_behind rows [] findings

-- ---- what is said of it

-- the baseline hasn't the line of a finding
abbrev pub is_new : List (List ℕ) → Finding → Bool
is_new rows finding = known rows (row_of finding) == 0

-- some findings of others, in their order
abbrev pub IsPartOf : List Finding → List Finding → Type 0
IsPartOf part [] = part ≡ []
IsPartOf part (finding ∷ rest) = IsPartOf part rest ⊎ ((behind : List Finding) × (part ≡ finding ∷ behind) × IsPartOf behind rest)
