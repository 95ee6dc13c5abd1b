-- The lines of a text.
use Rattle.std.specs.Prelude.{ℕ, Bool, ◌==◌, if◌then◌else◌, List, [], ◌∷◌}
use Rattle.std.specs.List.{onto_first}

abbrev pub is_line_feed : ℕ → Bool
is_line_feed b = b == 10

-- each line ends with LF, which the last one may lack
abbrev pub lines_of : List ℕ → List (List ℕ)
lines_of [] = []
lines_of (b ∷ rest) = if is_line_feed b then [] ∷ lines_of rest else onto_first b (lines_of rest)
