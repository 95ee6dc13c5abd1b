-- Lines of a text, which count from 1.
use Rattle.std.specs.Prelude.{ℕ, ◌+◌, List, [], ◌∷◌, ◌++◌, take, count_by}
use Rattle.std.specs.List.{flat_map}
use Rattle.init_base.specs.Lines.{is_line_feed}

-- one more than the LFs before a place: the number of the line that begins there, where one does
abbrev pub number_at : List ℕ → ℕ → ℕ
number_at text at = count_by is_line_feed (take at text) + 1

-- a line with LF
abbrev pub with_end : List ℕ → List ℕ
with_end line = line ++ 10 ∷ []

-- the text of the first lines, so many, each with LF
abbrev pub front : List (List ℕ) → ℕ → List ℕ
front lines count = flat_map with_end (take count lines)
