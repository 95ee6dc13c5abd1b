-- The lines of a script and their words, this project's own format: lines as each text has them, and words between spaces and tabs.
pub use Rattle.init_base.specs.Lines.{is_line_feed, lines_of}
use Rattle.std.specs.Prelude.{ℕ, Bool, true, false, ◌&&◌, ◌||◌, ◌==◌, nat_le, List, [], ◌∷◌, filter}
use Rattle.std.specs.List.{list_all, slice_split}

-- what parts words: a space or a tab
abbrev pub is_space : ℕ → Bool
is_space b = b == 32 || b == 9

-- a space, a tab or a carriage return
abbrev pub is_blank : ℕ → Bool
is_blank b = is_space b || b == 13

-- what may stand in a line: hexadecimal 21 to 7E, a space or a tab
abbrev pub is_permitted : ℕ → Bool
is_permitted b = (nat_le 33 b && nat_le b 126) || is_space b

abbrev pub has_any : {A : Type 0} → List A → Bool
has_any [] = false
has_any (x ∷ xs) = true

-- the words of a line
abbrev pub words_of : List ℕ → List (List ℕ)
words_of line = filter has_any (slice_split is_space line)

abbrev pub begins_with_hash : List ℕ → Bool
begins_with_hash [] = false
begins_with_hash (b ∷ rest) = b == 35

abbrev pub first_begins_with_hash : List (List ℕ) → Bool
first_begins_with_hash [] = false
first_begins_with_hash (word ∷ words) = begins_with_hash word

-- a line of blanks alone, also where one of them is a carriage return
abbrev pub is_empty_line : List ℕ → Bool
is_empty_line line = list_all is_blank line

-- a line whose first word begins with `#`. The bytes behind it must be permitted too.
abbrev pub is_comment : List ℕ → Bool
is_comment line = first_begins_with_hash (words_of line) && list_all is_permitted line

-- a line that says nothing
abbrev pub says_nothing : List ℕ → Bool
says_nothing line = is_empty_line line || is_comment line
