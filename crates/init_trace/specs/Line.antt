-- Lines of a report, as lists of fields, in this project's trace format. A line that is begun by a space has an empty first field.
use Rattle.std.specs.Prelude.{ℕ, List, [], ◌∷◌, ◌++◌}
use Rattle.std.specs.List.{flat_map}

-- each field begun by one space
abbrev pub spaced : List (List ℕ) → List ℕ
spaced [] = []
spaced (field ∷ rest) = (32 ∷ field) ++ spaced rest

-- the fields parted by one space, and LF
abbrev pub line_text : List (List ℕ) → List ℕ
line_text [] = 10 ∷ []
line_text (field ∷ rest) = field ++ spaced rest ++ 10 ∷ []

-- lines, one after another
abbrev pub lines_text : List (List (List ℕ)) → List ℕ
lines_text lines = flat_map line_text lines
