-- The text of a baseline, version 1, this project's own form: the line `rc-lint baseline 1`, and a line for each known finding. Each
-- line ends with LF (10).
use Rattle.std.specs.Prelude.{◌≡◌, ◌≢◌, ℕ, ◌+◌, ⊤, Bool, true, not, ◌&&◌, ◌==◌, ◌⊎◌, IsTrue, is_some, List, [], ◌∷◌, ◌++◌, length, codes, map}
use Rattle.std.specs.List.{after_first, before_first, flat_map, list_all}
use Rattle.std.specs.List.Sorted.{IsPermutation}
use Rattle.init_base.specs.Quoted.{is_byte, quoted, unquoted}
use Rattle.init_machine.specs.Pairs.{is_before}
use Rattle.lint_findings.specs.Names.{about_in, about_text}
use Rattle.lint_findings.specs.declared.finding.Finding.{Finding}
use Rattle.lint_findings.specs.declared.refusal.BaselineRefusal.{BaselineRefusal}
use Rattle.lint_findings.specs.declared.refusal.BaselineRefusal.TheVariants as refusal

-- the line of a finding, without its end: the name of its kind, and in q form its file and its message, parted by spaces (32)
abbrev pub row_of : Finding → List ℕ
row_of finding = about_text finding.about ++ 32 ∷ [] ++ quoted finding.file ++ 32 ∷ [] ++ quoted finding.message

abbrev pub ended : List ℕ → List ℕ
ended row = row ++ 10 ∷ []

abbrev pub baseline_text : List (List ℕ) → List ℕ
baseline_text rows = ended (codes "rc-lint baseline 1") ++ flat_map ended rows

-- ---- lines that may stand there

-- none of the bytes is this one
abbrev pub lacks : ℕ → List ℕ → Bool
lacks byte bytes = list_all (λ b. not (b == byte)) bytes

-- what stands before the first space
abbrev pub word_of : List ℕ → List ℕ
word_of text = before_first (λ b. b == 32) text

-- what stands behind it
abbrev pub behind_word : List ℕ → List ℕ
behind_word text = after_first (λ b. b == 32) text

-- a line of a finding: the name of a kind, and two texts in q form
abbrev pub is_row : List ℕ → Bool
is_row line =
    lacks 10 line
    && (is_some (about_in (word_of line)) && is_some (unquoted (word_of (behind_word line))) && is_some (unquoted (behind_word (behind_word line))))

-- no line is before the one before it in the order of bytes
abbrev pub ascend : List (List ℕ) → Bool
ascend [] = true
ascend (row ∷ []) = true
ascend (row ∷ next ∷ rest) = not (is_before next row) && ascend (next ∷ rest)

abbrev pub are_rows : List (List ℕ) → Bool
are_rows rows = list_all is_row rows && ascend rows

-- the bytes are the text of a baseline with these lines
pub record IsBaseline (bytes : List ℕ) (rows : List (List ℕ)) : Type 0 where
  pub rows_are : IsTrue (are_rows rows)
  pub text : bytes ≡ baseline_text rows

-- the texts of a finding are of bytes
abbrev pub are_bytes : Finding → Bool
are_bytes finding = list_all is_byte finding.file && list_all is_byte finding.message

-- the lines of some findings, in ascending order
pub record IsBaselineOf (findings : List Finding) (rows : List (List ℕ)) : Type 0 where
  pub ascending : IsTrue (ascend rows)
  pub rows_are : IsPermutation (map row_of findings) rows

-- ---- bytes that are none

-- the bytes begin with a line
abbrev pub BeginsWith : List ℕ → List ℕ → Type 0
BeginsWith bytes line = (behind : List ℕ) × (bytes ≡ ended line ++ behind)

-- the bytes begin with a line that may stand behind these
abbrev pub BeginsWithNext : List (List ℕ) → List ℕ → Type 0
BeginsWithNext rows bytes = (row : List ℕ) × IsTrue (are_rows (rows ++ row ∷ [])) × BeginsWith bytes row

-- the first line isn't `rc-lint baseline 1`
pub record HasBadHead (bytes : List ℕ) (line : ℕ) : Type 0 where
  pub head : ¬ BeginsWith bytes (codes "rc-lint baseline 1")
  pub number_is : line ≡ 1

-- behind the longest front that is a baseline's text stands a line that can't follow
pub record HasBadLine (bytes : List ℕ) (line : ℕ) : Type 0 where
  pub rows : List (List ℕ)
  pub rest : List ℕ
  pub rows_are : IsTrue (are_rows rows)
  pub text : bytes ≡ baseline_text rows ++ rest
  pub some : rest ≢ []
  pub longest : ¬ BeginsWithNext rows rest
  pub number_is : line ≡ length rows + 2

-- the first line that doesn't fit, from 1
abbrev pub IsUnfitAt : List ℕ → ℕ → Type 0
IsUnfitAt bytes line = HasBadHead bytes line ⊎ HasBadLine bytes line

-- why the bytes are no baseline; want of memory is free
abbrev pub IsRefused : List ℕ → BaselineRefusal → Type 0
IsRefused bytes (refusal.BadLine line) = IsUnfitAt bytes line
IsRefused bytes refusal.TooLarge = ⊥
IsRefused bytes refusal.ReadFault = ⊥
IsRefused bytes refusal.NoMemory = ⊤
