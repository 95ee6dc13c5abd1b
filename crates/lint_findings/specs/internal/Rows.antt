-- What private functions say of themselves. No promise of the crate cites it.
use Rattle.std.specs.Prelude.{◌≡◌, ℕ, IsTrue, Vec, List, [], ◌∷◌, ◌++◌, unwrap_or}
use Rattle.std.specs.HashMap.{HashMap, get_by}
use Rattle.std.specs.Str.{bytes_eq}
use Rattle.lint_findings.specs.Baseline.{are_rows, ended}

-- the line was taken
pub record TakesRow (old new : List (List ℕ)) (bytes behind : List ℕ) : Type 0 where
  pub row : List ℕ
  pub more : new ≡ old ++ row ∷ []
  pub rows_are : IsTrue (are_rows new)
  pub line : bytes ≡ ended row ++ behind

-- the number of a line, 0 where it has none
abbrev pub count_in : {A S : Type 0} → HashMap (Vec ℕ A) ℕ S → List ℕ → ℕ
count_in numbers row = unwrap_or (get_by (λ key. bytes_eq row key.items) numbers) 0
