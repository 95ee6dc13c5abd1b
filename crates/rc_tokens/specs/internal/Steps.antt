-- The steps of the reader, byte by byte. The proof leads from them to the grammar.
use Rattle.std.specs.Prelude.{ℕ, ◌+◌, ◌==◌, Bool, true, false, ◌||◌, not, if◌then◌else◌, List, [], ◌∷◌, ◌++◌, Option, Some, None}
use Rattle.std.specs.List.{count_by}
use Rattle.rc_tokens.specs.declared.reader.Mode.{Mode}
use Rattle.rc_tokens.specs.declared.reader.Mode.TheVariants as mode
use Rattle.rc_tokens.specs.declared.reader.Reader.{Reader}
use Rattle.rc_tokens.specs.Grammar.{is_space, is_blank, is_line_feed, is_quote, is_backslash, is_hash, is_plain, escaped}
use Rattle.rc_tokens.specs.Lines.{Line, Tokens, has_any}

abbrev pub start : Reader
start = record { spelled = record { lines = []; words = []; token = [] }; first = 1; number = 1; has_quotes = false; mode = mode.Between }

-- a line that is the next one, if it has words
abbrev pub with_line : List Line → ℕ → List (List ℕ) → List Line
with_line lines number words = if has_any words then lines ++ record { number = number; words = words } ∷ [] else lines

abbrev pub ended_line : Reader → Reader
ended_line r = record r { spelled = record r.spelled { lines = with_line r.spelled.lines r.first r.spelled.words; words = [] }; mode = mode.Between }

abbrev pub with_token : List (List ℕ) → Bool → List ℕ → List (List ℕ)
with_token words has_quotes token = if has_quotes || has_any token then words ++ token ∷ [] else words

abbrev pub ended_token : Reader → Reader
ended_token r = record r { spelled = record r.spelled { words = with_token r.spelled.words r.has_quotes r.spelled.token; token = [] }; mode = mode.Between }

abbrev pub begun_token : Reader → Reader
begun_token r = record r { first = (if has_any r.spelled.words then r.first else r.number); has_quotes = false; mode = mode.Word }

abbrev pub with_byte : Reader → ℕ → Reader
with_byte r b = record r { spelled = record r.spelled { token = r.spelled.token ++ b ∷ [] }; mode = mode.Word }

abbrev pub in_word : Reader → ℕ → Reader
in_word r b =
    if is_blank b then ended_token r
    else if is_line_feed b then ended_line (ended_token r)
    else if is_quote b then record r { has_quotes = true; mode = mode.Quoted }
    else if is_backslash b then record r { mode = mode.Backslash }
    else with_byte r b

abbrev pub between : Reader → ℕ → Reader
between r b =
    if is_blank b then r
    else if is_line_feed b then ended_line r
    else if is_hash b then record r { mode = mode.Comment }
    else in_word (begun_token r) b

abbrev pub in_comment : Reader → ℕ → Reader
in_comment r b = if is_line_feed b then ended_line r else r

abbrev pub in_quotes : Reader → ℕ → Reader
in_quotes r b = if is_quote b then record r { mode = mode.Word } else record r { spelled = record r.spelled { token = r.spelled.token ++ b ∷ [] } }

abbrev pub after_backslash : Reader → ℕ → Reader
after_backslash r b =
    if is_line_feed b then record r { mode = mode.Folded }
    else if b == 13 then record r { mode = mode.BackslashReturn }
    else with_byte r (escaped b)

abbrev pub after_return : Reader → ℕ → Reader
after_return r b = if is_line_feed b then record r { mode = mode.Folded } else in_word (with_byte r 13) b

abbrev pub in_fold : Reader → ℕ → Reader
in_fold r b = if is_space b then r else in_word (record r { mode = mode.Word }) b

abbrev pub moved : Mode → Reader → ℕ → Reader
moved mode.Between r b = between r b
moved mode.Comment r b = in_comment r b
moved mode.Word r b = in_word r b
moved mode.Quoted r b = in_quotes r b
moved mode.Backslash r b = after_backslash r b
moved mode.BackslashReturn r b = after_return r b
moved mode.Folded r b = in_fold r b

abbrev pub number_after : ℕ → ℕ → ℕ
number_after number b = number + (if is_line_feed b then 1 else 0)

abbrev pub step : Reader → ℕ → Reader
step r b = record (moved r.mode r b) { number = number_after r.number b }

abbrev pub run : Reader → List ℕ → Reader
run r [] = r
run r (b ∷ bytes) = run (step r b) bytes

-- a byte that begins a token where none has begun
abbrev pub begins_token : ℕ → Bool
begins_token b = not (is_blank b || is_line_feed b || is_hash b)

-- a byte that ends a run of bytes which mean nothing of their own in this mode
abbrev pub ends_run : Mode → ℕ → Bool
ends_run mode.Between b = not (is_blank b)
ends_run mode.Comment b = is_line_feed b
ends_run mode.Word b = not (is_plain b)
ends_run mode.Quoted b = is_quote b
ends_run mode.Backslash b = true
ends_run mode.BackslashReturn b = true
ends_run mode.Folded b = true

-- bytes more, none of which ends a run
abbrev pub with_run : Mode → Reader → List ℕ → Reader
with_run mode.Between r bytes = r
with_run mode.Comment r bytes = r
with_run mode.Word r bytes = record r { spelled = record r.spelled { token = r.spelled.token ++ bytes } }
with_run mode.Quoted r bytes = record r { spelled = record r.spelled { token = r.spelled.token ++ bytes }; number = r.number + count_by is_line_feed bytes }
with_run mode.Backslash r bytes = r
with_run mode.BackslashReturn r bytes = r
with_run mode.Folded r bytes = r

-- the end of the file, where it ends no token in an open quote or after a backslash
abbrev pub closed : Mode → Reader → Reader
closed mode.Between r = ended_line r
closed mode.Comment r = ended_line r
closed mode.Word r = ended_line (ended_token r)
closed mode.Quoted r = r
closed mode.Backslash r = r
closed mode.BackslashReturn r = ended_line (ended_token (with_byte r 13))
closed mode.Folded r = ended_line (ended_token r)

abbrev pub dropped_number : Mode → ℕ → Option ℕ
dropped_number mode.Between first = None
dropped_number mode.Comment first = None
dropped_number mode.Word first = None
dropped_number mode.Quoted first = Some first
dropped_number mode.Backslash first = Some first
dropped_number mode.BackslashReturn first = None
dropped_number mode.Folded first = None

abbrev pub finished : Reader → Tokens
finished r = record { lines = (closed r.mode r).spelled.lines; dropped = dropped_number r.mode r.first }
