-- A line by its number.
use Rattle.std.proofs.Common.{◌≡◌, ℕ, zero, suc, ◌-◌, ◌==◌, true, List, [], ◌∷◌, drop, length, Option, Some, None, refl, ap, arith}
use Rattle.std.specs.List.{slice_get}
use Rattle.std.proofs.lemmas.Bool.{eqb-true}
use Rattle.init_base.specs.Lines.{lines_of}
use Rattle.init_machine.proofs.DistinctSums.{same_bytes}
use Rattle.trace_causes.specs.Faults.{has_line, is_this}

pub first_dropped : {A : Type 0} (xs : List A) (n : ℕ) → slice_get xs n ≡ slice_get (drop n xs) 0
first_dropped [] zero = refl
first_dropped [] (suc n) = refl
first_dropped (x ∷ xs) zero = refl
first_dropped (x ∷ xs) (suc n) = first_dropped xs n

pub no_lines : (text : List ℕ) → (length text == 0) ≡ true → slice_get (lines_of text) 0 ≡ None
no_lines [] h = refl
no_lines (b ∷ text) h = let none : length (b ∷ text) ≡ 0 = eqb-true (length (b ∷ text)) 0 h in absurd (omega arith)

is_there : (wanted : List ℕ) (found : Option (List ℕ)) → is_this wanted found ≡ true → found ≡ Some wanted
is_there wanted None h = cc
is_there wanted (Some line) h = ap (λ t. Some t) (same_bytes line wanted h)

pub line_found : (lines : List (List ℕ)) (number : ℕ) (wanted : List ℕ) → has_line lines number wanted ≡ true → slice_get lines (number - 1) ≡ Some wanted
line_found lines number wanted h = is_there wanted (slice_get lines (number - 1)) h
