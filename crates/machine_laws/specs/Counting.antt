-- Numbers in a row.
use Rattle.std.specs.Prelude.{ℕ, zero, suc, ◌+◌, List, [], ◌∷◌}

-- the n numbers behind k: k + 1, .., k + n
abbrev pub counting_from : ℕ → ℕ → List ℕ
counting_from k zero = []
counting_from k (suc n) = (k + 1) ∷ counting_from (k + 1) n
