-- Words as ranges of one buffer, and lines as ranges of the words.
use Rattle.std.specs.Prelude.{ℕ, ◌≤◌, ◌&&◌, nat_le, Bool, IsTrue, List, length, drop, map}
use Rattle.std.specs.List.{list_all, slice_range}
use Rattle.rc_tokens.specs.Lines.{Line}
use Rattle.rc_tokens.specs.declared.range.Mark.{Mark}
use Rattle.rc_tokens.specs.declared.range.Range.{Range}

-- the values of a range
abbrev pub part : {A : Type 0} → List A → Range → List A
part xs range = slice_range xs range.from range.to

abbrev pub words_at : List ℕ → List Range → List (List ℕ)
words_at bytes ranges = map (λ range. part bytes range) ranges

abbrev pub line_at : List (List ℕ) → Mark → Line
line_at words mark = record { number = mark.number; words = part words mark.words }

abbrev pub lines_at : List (List ℕ) → List Mark → List Line
lines_at words marks = map (line_at words) marks

-- what is spelled so far: the lines that have ended, the words of the present line that have ended, and the present token
pub record Spelling : Type 0 where
  pub lines : List Line
  pub words : List (List ℕ)
  pub token : List ℕ

abbrev pub spelling_of : List ℕ → ℕ → List Range → ℕ → List Mark → Spelling
spelling_of bytes token_from words line_from lines = record {
  lines = lines_at (words_at bytes words) lines;
  words = drop line_from (words_at bytes words);
  token = drop token_from bytes;
}

abbrev pub is_within : ℕ → Range → Bool
is_within len range = nat_le range.from range.to && nat_le range.to len

-- all lines are among so many words
abbrev pub are_among : ℕ → List Mark → Bool
are_among len marks = list_all (λ mark. is_within len mark.words) marks

-- all ranges and places are within what they speak of
pub record AreWithin (bytes : List ℕ) (token_from : ℕ) (words : List Range) (line_from : ℕ) (lines : List Mark) : Type 0 where
  pub words_within : IsTrue (list_all (is_within (length bytes)) words)
  pub token_within : token_from ≤ length bytes
  pub lines_within : IsTrue (are_among (length words) lines)
  pub line_within : line_from ≤ length words

-- words are ranges of a buffer, and lines of the words
pub record AreSpans (bytes : List ℕ) (words : List Range) (lines : List Mark) : Type 0 where
  pub words_within : IsTrue (list_all (is_within (length bytes)) words)
  pub lines_within : IsTrue (are_among (length words) lines)
