-- The lines that a text spells.
use Rattle.std.specs.Prelude.{◌≡◌, ℕ, ◌+◌, ◌<◌, Bool, true, false, ◌||◌, if◌then◌else◌, List, [], ◌∷◌, ◌++◌, Option, Some, None, count_by, map}
use Rattle.std.specs.List.{AllByRecursion, flat_map, list_any, slice_split}
use Rattle.std.specs.Option.{option_to_list}
use Rattle.rc_tokens.specs.Grammar.{is_line_feed, Piece, spelled, is_quoted, Item, blank, line_end, comment, token, item_bytes, items_bytes, Ending, whole, open_quote, lone_backslash, IsReading}

abbrev pub has_any : {A : Type 0} → List A → Bool
has_any [] = false
has_any (x ∷ xs) = true

-- ---- tokens

-- what a token spells
abbrev pub word_of : List Piece → List ℕ
word_of pieces = flat_map spelled pieces

-- a token that spells nothing counts only where it has a quoted run
abbrev pub counts : List Piece → Bool
counts pieces = list_any is_quoted pieces || has_any (word_of pieces)

-- the physical line, from 1, on which what stands behind these bytes begins
abbrev pub line_number : List ℕ → ℕ
line_number before = 1 + count_by is_line_feed before

-- an item, and the physical line on which it begins
pub record Placed : Type 0 where
  pub number : ℕ
  pub item : Item

-- items in their places, where `before` are the bytes of the file before them
abbrev pub placed : List ℕ → List Item → List Placed
placed before [] = []
placed before (item ∷ items) = record { number = line_number before; item = item } ∷ placed (before ++ item_bytes item) items

-- a word, and the physical line on which its token begins
pub record Word : Type 0 where
  pub number : ℕ
  pub bytes : List ℕ

abbrev pub word_at : ℕ → Item → List Word
word_at number (blank b) = []
word_at number line_end = []
word_at number (comment run) = []
word_at number (token piece pieces) =
    if counts (piece ∷ pieces) then record { number = number; bytes = word_of (piece ∷ pieces) } ∷ [] else []

-- ---- lines

-- a line: the physical line on which its first token begins, from 1, and its words
pub record Line : Type 0 where
  pub number : ℕ
  pub words : List (List ℕ)

-- the lines of a file, and the number of the last line, where it is left out
pub record Tokens : Type 0 where
  pub lines : List Line
  pub dropped : Option ℕ

abbrev pub ends_line : Item → Bool
ends_line (blank b) = false
ends_line line_end = true
ends_line (comment run) = false
ends_line (token piece pieces) = false

-- the words of some items
abbrev pub words_in : List Placed → List Word
words_in places = flat_map (λ place. word_at place.number place.item) places

-- the words between two line ends, stretch by stretch, where `before` are the bytes of the file before these items
abbrev pub stretches : List ℕ → List Item → List (List Word)
stretches before items = map words_in (slice_split (λ place. ends_line place.item) (placed before items))

-- the line that such words make: its number is that of its first token; without words there is none
abbrev pub line_of : List Word → List Line
line_of [] = []
line_of (first ∷ others) = record { number = first.number; words = first.bytes ∷ map (λ other. other.bytes) others } ∷ []

abbrev pub all_but_last : {A : Type 0} → List A → List A
all_but_last [] = []
all_but_last (x ∷ []) = []
all_but_last (x ∷ y ∷ xs) = x ∷ all_but_last (y ∷ xs)

abbrev pub last_of : List (List Word) → List Word
last_of [] = []
last_of (words ∷ []) = words
last_of (words ∷ next ∷ more) = last_of (next ∷ more)

-- the physical line on which the first of these words begins, or else what stands behind them, at this line
abbrev pub first_number : List Word → ℕ → ℕ
first_number [] number = number
first_number (first ∷ others) number = first.number

-- the number of the last line, where a token begins behind all items and isn't finished
abbrev pub cut_number : List Item → ℕ
cut_number items = first_number (last_of (stretches [] items)) (line_number (items_bytes items))

-- where the file ends inside a token, the last line is left out
abbrev pub lines_of : List Item → Ending → List Line
lines_of items whole = flat_map line_of (stretches [] items)
lines_of items (open_quote pieces run) = flat_map line_of (all_but_last (stretches [] items))
lines_of items (lone_backslash pieces) = flat_map line_of (all_but_last (stretches [] items))

abbrev pub dropped_of : List Item → Ending → Option ℕ
dropped_of items whole = None
dropped_of items (open_quote pieces run) = Some (cut_number items)
dropped_of items (lone_backslash pieces) = Some (cut_number items)

-- the text spells these lines, and `dropped` is the number of the line that is left out
pub record Lines (bytes : List ℕ) (lines : List Line) (dropped : Option ℕ) : Type 0 where
  pub items : List Item
  pub ending : Ending
  pub reading : IsReading bytes items ending
  pub lines_are : lines ≡ lines_of items ending
  pub dropped_is : dropped ≡ dropped_of items ending

-- ---- their numbers

-- each number is less than all that follow it
abbrev pub Ascend : List ℕ → Type 0
Ascend [] = Unit {0}
Ascend (number ∷ others) = AllByRecursion (λ other. number < other) others × Ascend others

-- the numbers of the lines, and behind them that of the line that is left out
abbrev pub numbers : List Line → Option ℕ → List ℕ
numbers lines dropped = map (λ line. line.number) lines ++ option_to_list dropped
