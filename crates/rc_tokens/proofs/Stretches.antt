-- The lines of a text by recursion over its items, as the reader finds them, and that they are those of the definition.
-- A token that isn't finished stands in its line as an empty word here.
use Rattle.std.proofs.Common.{◌≡◌, ℕ, Bool, true, false, cond, if◌then◌else◌, Some, None, Option, List, [], ◌∷◌, ◌++◌, map, filter, refl, sym, ap, ◌∙◌, append_assoc}
use Rattle.std.proofs.lemmas.List.{append-nil}
use Rattle.std.specs.List.{flat_map, onto_first, slice_split}
use Rattle.rc_tokens.specs.Grammar.{Item, blank, line_end, comment, token, item_bytes, items_bytes, Ending, whole, open_quote, lone_backslash}
use Rattle.rc_tokens.specs.Lines.{Line, has_any, word_of, counts, line_number, Placed, placed, Word, word_at, words_in, ends_line, stretches, line_of, all_but_last, last_of, first_number, cut_number, lines_of, dropped_of}

abbrev pub no_tokens : Line
no_tokens = record { number = 0; words = [] }

-- a token in front of the others of its line: the line's number is that of its first token
abbrev pub put_before : ℕ → List ℕ → Line → Line
put_before number word line = record { number = number; words = word ∷ line.words }

-- the token in front of those of the first line
abbrev pub onto_first_line : ℕ → List ℕ → List Line → List Line
onto_first_line number word [] = put_before number word no_tokens ∷ []
onto_first_line number word (line ∷ lines) = put_before number word line ∷ lines

-- a token that isn't finished has its place in its line, though it spells no word
abbrev pub ending_line : List ℕ → Ending → Line
ending_line before whole = no_tokens
ending_line before (open_quote pieces run) = put_before (line_number before) [] no_tokens
ending_line before (lone_backslash pieces) = put_before (line_number before) [] no_tokens

-- the line of each stretch between two line ends, where `before` are the bytes of the file before these items
abbrev pub line_parts : List ℕ → List Item → Ending → List Line
line_parts before [] ending = ending_line before ending ∷ []
line_parts before (blank b ∷ items) ending = line_parts (before ++ item_bytes (blank b)) items ending
line_parts before (line_end ∷ items) ending = no_tokens ∷ line_parts (before ++ item_bytes line_end) items ending
line_parts before (comment run ∷ items) ending = line_parts (before ++ item_bytes (comment run)) items ending
line_parts before (token piece pieces ∷ items) ending =
    let rest = line_parts (before ++ item_bytes (token piece pieces)) items ending in
    if counts (piece ∷ pieces) then onto_first_line (line_number before) (word_of (piece ∷ pieces)) rest else rest

-- a stretch without tokens gives no line
abbrev pub with_words : List Line → List Line
with_words lines = filter (λ line. has_any line.words) lines

abbrev pub last_number : List Line → ℕ
last_number [] = 0
last_number (line ∷ []) = line.number
last_number (line ∷ next ∷ lines) = last_number (next ∷ lines)

-- where the file ends inside a token, the last line is left out
abbrev pub kept_lines : List Line → Ending → List Line
kept_lines lines whole = with_words lines
kept_lines lines (open_quote pieces run) = with_words (all_but_last lines)
kept_lines lines (lone_backslash pieces) = with_words (all_but_last lines)

abbrev pub dropped_line : List Line → Ending → Option ℕ
dropped_line lines whole = None
dropped_line lines (open_quote pieces run) = Some (last_number lines)
dropped_line lines (lone_backslash pieces) = Some (last_number lines)

-- ---- the words of a stretch

-- words in front of those of the first stretch
abbrev onto_front : List Word → List (List Word) → List (List Word)
onto_front words [] = (words ++ []) ∷ []
onto_front words (first ∷ rest) = (words ++ first) ∷ rest

words_onto : (place : Placed) (parts : List (List Placed)) → map words_in (onto_first place parts) ≡ onto_front (word_at place.number place.item) (map words_in parts)
words_onto place [] = refl
words_onto place (part ∷ parts) = refl

some_onto : (words : List Word) (parts : List (List Word)) → (first : List Word) × (rest : List (List Word)) × (onto_front words parts ≡ first ∷ rest)
some_onto words [] = (words ++ [], [], refl)
some_onto words (first ∷ rest) = (words ++ first, rest, refl)

-- the stretches of an item in front of others
stretches_onto : (before : List ℕ) (item : Item) (items : List Item) → ends_line item ≡ false
    → stretches before (item ∷ items) ≡ onto_front (word_at (line_number before) item) (stretches (before ++ item_bytes item) items)
stretches_onto before item items inside =
    ap (λ (b : Bool). map words_in (cond b ([] ∷ slice_split (λ place. ends_line place.item) (placed (before ++ item_bytes item) items))
    (onto_first (record { number = line_number before; item = item }) (slice_split (λ place. ends_line place.item) (placed (before ++ item_bytes item) items))))) inside
    ∙ words_onto (record { number = line_number before; item = item }) (slice_split (λ place. ends_line place.item) (placed (before ++ item_bytes item) items))

-- there is a first stretch
abbrev Some_stretch : List (List Word) → Type 0
Some_stretch parts = (first : List Word) × (rest : List (List Word)) × (parts ≡ first ∷ rest)

some_behind : (before : List ℕ) (item : Item) (items : List Item) → ends_line item ≡ false → Some_stretch (stretches before (item ∷ items))
some_behind before item items inside =
    let some = some_onto (word_at (line_number before) item) (stretches (before ++ item_bytes item) items) in
    (some.0, some.1, stretches_onto before item items inside ∙ some.2)

some_first : (before : List ℕ) (items : List Item) → Some_stretch (stretches before items)
some_first before [] = ([], [], refl)
some_first before (blank b ∷ items) = some_behind before (blank b) items refl
some_first before (line_end ∷ items) = ([], stretches (before ++ item_bytes line_end) items, refl)
some_first before (comment run ∷ items) = some_behind before (comment run) items refl
some_first before (token piece pieces ∷ items) = some_behind before (token piece pieces) items refl

-- ---- the line of a stretch

-- words in front of a line
abbrev line_then : List Word → Line → Line
line_then [] line = line
line_then (word ∷ words) line = put_before word.number word.bytes (line_then words line)

-- the lines of stretches, the last of which goes on with this line
abbrev with_last : Line → List (List Word) → List Line
with_last line [] = []
with_last line (words ∷ []) = line_then words line ∷ []
with_last line (words ∷ next ∷ more) = line_then words no_tokens ∷ with_last line (next ∷ more)

onto_none : (line : Line) (parts : List (List Word)) → Some_stretch parts → with_last line (onto_front [] parts) ≡ with_last line parts
onto_none line parts some = ap (λ (p : List (List Word)). with_last line (onto_front [] p)) some.2 ∙ ap (with_last line) (sym some.2)

onto_one : (line : Line) (word : Word) (first : List Word) (rest : List (List Word))
    → with_last line (onto_front (word ∷ []) (first ∷ rest)) ≡ onto_first_line word.number word.bytes (with_last line (first ∷ rest))
onto_one line word first [] = refl
onto_one line word first (next ∷ more) = refl

onto_counted : (line : Line) (number : ℕ) (bytes : List ℕ) (v : Bool) (parts : List (List Word)) → Some_stretch parts
    → with_last line (onto_front (if v then record { number = number; bytes = bytes } ∷ [] else []) parts)
    ≡ (if v then onto_first_line number bytes (with_last line parts) else with_last line parts)
onto_counted line number bytes true parts some =
    ap (λ (p : List (List Word)). with_last line (onto_front (record { number = number; bytes = bytes } ∷ []) p)) some.2
    ∙ onto_one line (record { number = number; bytes = bytes }) some.0 some.1
    ∙ ap (λ (p : List (List Word)). onto_first_line number bytes (with_last line p)) (sym some.2)
onto_counted line number bytes false parts some = onto_none line parts some

end_first : (line : Line) (parts : List (List Word)) → Some_stretch parts → with_last line ([] ∷ parts) ≡ no_tokens ∷ with_last line parts
end_first line parts some =
    ap (λ (p : List (List Word)). with_last line ([] ∷ p)) some.2 ∙ ap (λ (p : List (List Word)). no_tokens ∷ with_last line p) (sym some.2)

-- an item more, in front of which `before` stands
behind_item : (before : List ℕ) (item : Item) (items : List Item) (ending : Ending)
    → line_parts (before ++ item_bytes item) items ending ≡ with_last (ending_line ((before ++ item_bytes item) ++ items_bytes items) ending) (stretches (before ++ item_bytes item) items)
    → line_parts (before ++ item_bytes item) items ending ≡ with_last (ending_line (before ++ items_bytes (item ∷ items)) ending) (stretches (before ++ item_bytes item) items)
behind_item before item items ending e =
    e ∙ ap (λ (u : List ℕ). with_last (ending_line u ending) (stretches (before ++ item_bytes item) items)) (append_assoc before (item_bytes item) (items_bytes items))

-- an item that is no token and ends no line
no_word : (before : List ℕ) (item : Item) (items : List Item) (ending : Ending) → ends_line item ≡ false → word_at (line_number before) item ≡ []
    → line_parts (before ++ item_bytes item) items ending ≡ with_last (ending_line ((before ++ item_bytes item) ++ items_bytes items) ending) (stretches (before ++ item_bytes item) items)
    → line_parts (before ++ item_bytes item) items ending ≡ with_last (ending_line (before ++ items_bytes (item ∷ items)) ending) (stretches before (item ∷ items))
no_word before item items ending inside none e =
    let line : Line = ending_line (before ++ items_bytes (item ∷ items)) ending in
    behind_item before item items ending e
    ∙ sym (onto_none line (stretches (before ++ item_bytes item) items) (some_first (before ++ item_bytes item) items))
    ∙ sym (ap (λ (words : List Word). with_last line (onto_front words (stretches (before ++ item_bytes item) items))) none)
    ∙ sym (ap (with_last line) (stretches_onto before item items inside))

parts_are : (before : List ℕ) (items : List Item) (ending : Ending)
    → line_parts before items ending ≡ with_last (ending_line (before ++ items_bytes items) ending) (stretches before items)
parts_are before [] ending = ap (λ (u : List ℕ). ending_line u ending ∷ []) (sym (append-nil before))
parts_are before (blank b ∷ items) ending = no_word before (blank b) items ending refl refl (parts_are (before ++ item_bytes (blank b)) items ending)
parts_are before (line_end ∷ items) ending =
    let line : Line = ending_line (before ++ items_bytes (line_end ∷ items)) ending in
    ap (λ (u : List Line). no_tokens ∷ u) (behind_item before line_end items ending (parts_are (before ++ item_bytes line_end) items ending))
    ∙ sym (end_first line (stretches (before ++ item_bytes line_end) items) (some_first (before ++ item_bytes line_end) items))
parts_are before (comment run ∷ items) ending = no_word before (comment run) items ending refl refl (parts_are (before ++ item_bytes (comment run)) items ending)
parts_are before (token piece pieces ∷ items) ending =
    let behind = before ++ item_bytes (token piece pieces) in
    let line : Line = ending_line (before ++ items_bytes (token piece pieces ∷ items)) ending in
    ap (λ (u : List Line). if counts (piece ∷ pieces) then onto_first_line (line_number before) (word_of (piece ∷ pieces)) u else u)
    (behind_item before (token piece pieces) items ending (parts_are behind items ending))
    ∙ sym (onto_counted line (line_number before) (word_of (piece ∷ pieces)) (counts (piece ∷ pieces)) (stretches behind items) (some_first behind items))
    ∙ sym (ap (with_last line) (stretches_onto before (token piece pieces) items refl))

-- ---- the lines

words_then : (words : List Word) → (line_then words no_tokens).words ≡ map (λ other. other.bytes) words
words_then [] = refl
words_then (word ∷ words) = ap (λ (u : List (List ℕ)). word.bytes ∷ u) (words_then words)

line_kept : (words : List Word) (lines : List Line) → with_words (line_then words no_tokens ∷ lines) ≡ line_of words ++ with_words lines
line_kept [] lines = refl
line_kept (word ∷ words) lines =
    ap (λ (u : List (List ℕ)). record { number = word.number; words = word.bytes ∷ u } ∷ with_words lines) (words_then words)

whole_lines : (parts : List (List Word)) → with_words (with_last no_tokens parts) ≡ flat_map line_of parts
whole_lines [] = refl
whole_lines (words ∷ []) = line_kept words []
whole_lines (words ∷ next ∷ more) =
    line_kept words (with_last no_tokens (next ∷ more)) ∙ ap (λ (u : List Line). line_of words ++ u) (whole_lines (next ∷ more))

cut_lines : (line : Line) (parts : List (List Word)) → with_words (all_but_last (with_last line parts)) ≡ flat_map line_of (all_but_last parts)
cut_lines line [] = refl
cut_lines line (words ∷ []) = refl
cut_lines line (words ∷ next ∷ []) = line_kept words []
cut_lines line (words ∷ next ∷ other ∷ more) =
    line_kept words (all_but_last (with_last line (next ∷ other ∷ more))) ∙ ap (λ (u : List Line). line_of words ++ u) (cut_lines line (next ∷ other ∷ more))

first_is : (line : Line) (words : List Word) → (line_then words line).number ≡ first_number words line.number
first_is line [] = refl
first_is line (word ∷ words) = refl

last_is : (line : Line) (first : List Word) (rest : List (List Word)) → last_number (with_last line (first ∷ rest)) ≡ first_number (last_of (first ∷ rest)) line.number
last_is line first [] = first_is line first
last_is line first (next ∷ []) = first_is line next
last_is line first (next ∷ other ∷ more) = last_is line next (other ∷ more)

-- the lines by recursion are those of the definition
pub lines_same : (items : List Item) (ending : Ending) → kept_lines (line_parts [] items ending) ending ≡ lines_of items ending
lines_same items whole = ap with_words (parts_are [] items whole) ∙ whole_lines (stretches [] items)
lines_same items (open_quote pieces run) =
    ap (λ (u : List Line). with_words (all_but_last u)) (parts_are [] items (open_quote pieces run)) ∙ cut_lines _ (stretches [] items)
lines_same items (lone_backslash pieces) =
    ap (λ (u : List Line). with_words (all_but_last u)) (parts_are [] items (lone_backslash pieces)) ∙ cut_lines _ (stretches [] items)

cut_same : (items : List Item) (ending : Ending) (line : Line) → ending_line (items_bytes items) ending ≡ line → line.number ≡ line_number (items_bytes items)
    → last_number (line_parts [] items ending) ≡ cut_number items
cut_same items ending line is number =
    let some = some_first [] items in
    ap last_number (parts_are [] items ending)
    ∙ ap (λ (l : Line). last_number (with_last l (stretches [] items))) is
    ∙ ap (λ (p : List (List Word)). last_number (with_last line p)) some.2
    ∙ last_is line some.0 some.1
    ∙ ap (λ (p : List (List Word)). first_number (last_of p) line.number) (sym some.2)
    ∙ ap (first_number (last_of (stretches [] items))) number

pub dropped_same : (items : List Item) (ending : Ending) → dropped_line (line_parts [] items ending) ending ≡ dropped_of items ending
dropped_same items whole = refl
dropped_same items (open_quote pieces run) =
    ap (λ (n : ℕ). Some n) (cut_same items (open_quote pieces run) (put_before (line_number (items_bytes items)) [] no_tokens) refl refl)
dropped_same items (lone_backslash pieces) =
    ap (λ (n : ℕ). Some n) (cut_same items (lone_backslash pieces) (put_before (line_number (items_bytes items)) [] no_tokens) refl refl)
