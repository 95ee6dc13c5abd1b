-- The words of a line of a policy's texts. Space (32), tab (9) and CR (13) are blanks.
use Rattle.std.specs.Prelude.{ℕ, Bool, true, false, not, ◌||◌, ◌==◌, nat_eq, List, [], ◌∷◌, filter, codes}
use Rattle.std.specs.List.{slice_split, starts_with}

abbrev pub is_blank : ℕ → Bool
is_blank b = b == 32 || b == 9 || b == 13

abbrev pub is_no_blank : ℕ → Bool
is_no_blank b = not (is_blank b)

abbrev pub is_word : List ℕ → Bool
is_word [] = false
is_word (b ∷ rest) = true

-- the words between the blanks
abbrev pub words_of : List ℕ → List (List ℕ)
words_of line = filter is_word (slice_split is_blank line)

-- a line whose first word begins with `#` says nothing
abbrev pub is_comment : List ℕ → Bool
is_comment word = starts_with nat_eq word (codes "#")
