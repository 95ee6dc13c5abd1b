-- The words of lines, and the sections that lines make (AOSP, init's README, "Android Init Language").
use Rattle.std.specs.Prelude.{ℕ, Bool, ◌||◌, if◌then◌else◌, List, [], ◌∷◌, codes}
use Rattle.std.specs.List.{before_first}
use Rattle.std.specs.Str.{bytes_eq}
use Rattle.rc_tokens.specs.Lines.{Line}

-- the first of some words; a line that had none would begin with the empty word
abbrev pub first_word : List (List ℕ) → List ℕ
first_word [] = []
first_word (word ∷ words) = word

-- the words behind the first one
abbrev pub arguments : List (List ℕ) → List (List ℕ)
arguments [] = []
arguments (word ∷ words) = words

abbrev pub begins_with : List ℕ → Line → Bool
begins_with word line = bytes_eq (first_word line.words) word

abbrev pub is_on : Line → Bool
is_on line = begins_with (codes "on") line

abbrev pub is_service : Line → Bool
is_service line = begins_with (codes "service") line

abbrev pub is_import : Line → Bool
is_import line = begins_with (codes "import") line

-- a line that begins a section
abbrev pub is_header : Line → Bool
is_header line = is_on line || is_service line || is_import line

-- the lines before the first header, or all where there is none
abbrev pub lines_before_header : List Line → List Line
lines_before_header lines = before_first is_header lines

-- a header, and the lines up to the next one
pub record Section : Type 0 where
  pub header : Line
  pub body : List Line

-- the sections of a file: one for each header, with the lines up to the next one
abbrev pub sections : List Line → List Section
sections [] = []
sections (line ∷ lines) =
    if is_header line then record { header = line; body = lines_before_header lines } ∷ sections lines
    else sections lines
