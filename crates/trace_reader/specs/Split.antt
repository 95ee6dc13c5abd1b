-- How a text is cut into lines, and a line into fields.
use Rattle.std.specs.Prelude.{ℕ, Bool, ◌==◌, List, [], Option, Some, None}
use Rattle.std.specs.List.{slice_split}

abbrev pub is_space : ℕ → Bool
is_space = λ byte. byte == 32

abbrev pub is_line_feed : ℕ → Bool
is_line_feed = λ byte. byte == 10

-- the fields of what stands behind a space, and none behind the last field
abbrev pub fields_in : Option (List ℕ) → List (List ℕ)
fields_in None = []
fields_in (Some rest) = slice_split is_space rest
