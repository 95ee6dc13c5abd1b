-- What the reader makes of the items of a file: the lines that the grammar says.
use Rattle.std.proofs.Common.{◌≡◌, ℕ, Bool, true, false, ◌||◌, cond, if◌then◌else◌, Some, None, List, [], ◌∷◌, ◌++◌, refl, sym, ap, subst, ◌∙◌, append_assoc, arith, inl, inr}
use Rattle.std.proofs.lemmas.List.{append-nil}
use Rattle.std.proofs.lemmas.List.Sums.{sum_by-append}
use Rattle.std.proofs.lemmas.Bool.{not-true, or_cases}
use Rattle.std.specs.List.{list_any}
use Rattle.rc_tokens.specs.Grammar.{is_blank, is_line_feed, is_hash, stops, has_none, Piece, plain, quoted, escape, folded, piece_bytes, is_quoted, PieceFits, pieces_bytes, PiecesFit, begin_with_hash, Item, blank, line_end, comment, token, item_bytes, ItemFits, items_bytes, ItemsFit, Ending, whole, open_quote, lone_backslash, ending_bytes, EndingFits}
use Rattle.rc_tokens.specs.Lines.{Line, Tokens, has_any, word_of, counts, line_number, all_but_last}
use Rattle.rc_tokens.proofs.Stretches.{no_tokens, put_before, onto_first_line, ending_line, line_parts, with_words, last_number, kept_lines, dropped_line}
use Rattle.rc_tokens.specs.internal.Steps.{number_after, in_word, between, in_comment, ended_token, with_token, with_line, begun_token}
use Rattle.rc_tokens.specs.declared.reader.Mode.TheVariants as mode
use Rattle.rc_tokens.specs.declared.reader.Reader.{Reader}
use Rattle.rc_tokens.proofs.Bytes.{plain_facts, feed_is}
use Rattle.rc_tokens.proofs.Pieces.{outcome, at, number_past, number_past-is, after_step, none_parts, pieces_run, open_quotes_run, cut_at}

-- ---- where a token begins and ends

-- the number of the line, if a token begins on physical line n
abbrev pub first_of : List (List ℕ) → ℕ → ℕ → ℕ
first_of words first n = if has_any words then first else n

abbrev pub begun : Reader → ℕ → Reader
begun r n = record r { first = first_of r.spelled.words r.first n }

between_other : (r : Reader) (b : ℕ) → is_blank b ≡ false → is_line_feed b ≡ false → is_hash b ≡ false → between r b ≡ in_word (begun_token r) b
between_other r b no_blank no_feed no_hash = rw (no_blank, no_feed, no_hash) refl

begin_at : (r : Reader) (n : ℕ) (t : List ℕ) (q : Bool) (b : ℕ) (next : List ℕ) → is_blank b ≡ false → is_line_feed b ≡ false → is_hash b ≡ false
    → outcome (at mode.Between r n t q) (b ∷ next) ≡ outcome (at mode.Word (begun r n) n t false) (b ∷ next)
begin_at r n t q b next no_blank no_feed no_hash = after_step (at mode.Between r n t q) _ b next (between_other (at mode.Between r n t q) b no_blank no_feed no_hash)

token_begins : (p : Piece) (ps : List Piece) (r : Reader) (n : ℕ) (t : List ℕ) (q : Bool) (next : List ℕ) → begin_with_hash (p ∷ ps) ≡ false → PieceFits p next
    → outcome (at mode.Between r n t q) (piece_bytes p ++ next) ≡ outcome (at mode.Word (begun r n) n t false) (piece_bytes p ++ next)
token_begins (plain b) ps r n t q next h fits = let f = plain_facts b fits in begin_at r n t q b next f.no_blank f.no_feed h
token_begins (quoted bytes) ps r n t q next h fits = refl
token_begins (escape b) ps r n t q next h fits = refl
token_begins (folded end spaces) ps r n t q next h fits = refl

-- a reader whose token has ended
abbrev pub rested : Reader → ℕ → List ℕ → Bool → Reader
rested r n t q = at mode.Between (record r { spelled = record r.spelled { words = with_token r.spelled.words q t } }) n [] q

in_word_blank : (r : Reader) (b : ℕ) → is_blank b ≡ true → in_word r b ≡ ended_token r
in_word_blank r b h = rw h refl

between_blank : (r : Reader) (b : ℕ) → is_blank b ≡ true → between r b ≡ r
between_blank r b h = rw h refl

token_ends : (r : Reader) (n : ℕ) (t : List ℕ) (q : Bool) (next : List ℕ) → stops (λ b. is_blank b || is_line_feed b) next ≡ true
    → outcome (at mode.Word r n t q) next ≡ outcome (rested r n t q) next
token_ends r n t q [] h = refl
token_ends r n t q (b ∷ next) h =
    elim (or_cases (is_blank b) (is_line_feed b) h) [
      | inl e ↦
          after_step (at mode.Word r n t q) _ b next (in_word_blank (at mode.Word r n t q) b e)
          ∙ sym (after_step (rested r n t q) _ b next (between_blank (rested r n t q) b e))
      | inr e ↦ subst (λ (c : ℕ). outcome (at mode.Word r n t q) (c ∷ next) ≡ outcome (rested r n t q) (c ∷ next)) (sym (feed_is b e)) refl
    ]

-- ---- comments

in_comment_other : (r : Reader) (b : ℕ) → is_line_feed b ≡ false → in_comment r b ≡ r
in_comment_other r b h = rw h refl

comment_ends : (r : Reader) (n : ℕ) (q : Bool) (next : List ℕ) → stops is_line_feed next ≡ true
    → outcome (at mode.Comment r n [] q) next ≡ outcome (at mode.Between r n [] q) next
comment_ends r n q [] h = refl
comment_ends r n q (b ∷ next) h = subst (λ (c : ℕ). outcome (at mode.Comment r n [] q) (c ∷ next) ≡ outcome (at mode.Between r n [] q) (c ∷ next)) (sym (feed_is b h)) refl

comment_runs : (r : Reader) (n : ℕ) (q : Bool) (bytes next : List ℕ) → has_none is_line_feed bytes ≡ true → stops is_line_feed next ≡ true
    → outcome (at mode.Comment r n [] q) (bytes ++ next) ≡ outcome (at mode.Between r (number_past n bytes) [] q) next
comment_runs r n q [] next h s = comment_ends r n q next s
comment_runs r n q (b ∷ bytes) next h s =
    let p = none_parts is_line_feed b bytes h in
    after_step (at mode.Comment r n [] q) _ b (bytes ++ next) (in_comment_other (at mode.Comment r n [] q) b p.0)
    ∙ comment_runs r (number_after n b) q bytes next p.1 s

-- ---- the present line, in front of what follows

abbrev pub join_line : ℕ → List (List ℕ) → Line → Line
join_line first words line = if has_any words then record { number = first; words = words ++ line.words } else line

-- what is read of a line stands in front of the rest of the line
abbrev pub joined : ℕ → List (List ℕ) → List Line → List Line
joined first words [] = join_line first words no_tokens ∷ []
joined first words (line ∷ lines) = join_line first words line ∷ lines

abbrev pub answer : Reader → List ℕ → List Item → Ending → Tokens
answer r before items ending =
    let lines = joined r.first r.spelled.words (line_parts before items ending) in
    record { lines = r.spelled.lines ++ kept_lines lines ending; dropped = dropped_line lines ending }

-- ---- the ending

last_line : (lines : List Line) (first : ℕ) (words : List (List ℕ)) → with_line lines first words ≡ lines ++ with_words (join_line first words no_tokens ∷ [])
last_line lines first [] = sym (append-nil lines)
last_line lines first (w ∷ words) = ap (λ (ws : List (List ℕ)). lines ++ record { number = first; words = w ∷ ws } ∷ []) (sym (append-nil words))

cut_line : (first n : ℕ) (words : List (List ℕ)) → first_of words first n ≡ (join_line first words (put_before n [] no_tokens)).number
cut_line first n [] = refl
cut_line first n (w ∷ words) = refl

-- a token that isn't finished
cut_runs : (ps : List Piece) (r : Reader) (n : ℕ) (q : Bool) (b : ℕ) (next : List ℕ) → begin_with_hash ps ≡ false → PiecesFit ps (b ∷ next)
    → is_blank b ≡ false → is_line_feed b ≡ false → is_hash b ≡ false
    → outcome (at mode.Between r n [] q) (pieces_bytes ps ++ b ∷ next) ≡ outcome (at mode.Word (begun r n) (number_past n (pieces_bytes ps)) (word_of ps) (list_any is_quoted ps || false)) (b ∷ next)
cut_runs [] r n q b next h fits no_blank no_feed no_hash = begin_at r n [] q b next no_blank no_feed no_hash
cut_runs (p ∷ ps) r n q b next h fits no_blank no_feed no_hash =
    let split = append_assoc (piece_bytes p) (pieces_bytes ps) (b ∷ next) in
    ap (λ (u : List ℕ). outcome (at mode.Between r n [] q) u) split
    ∙ token_begins p ps r n [] q (pieces_bytes ps ++ b ∷ next) h fits.0
    ∙ ap (λ (u : List ℕ). outcome (at mode.Word (begun r n) n [] false) u) (sym split)
    ∙ pieces_run (p ∷ ps) (begun r n) n [] false (b ∷ next) fits

cut_answer : (r : Reader) (n : ℕ) → cut_at (begun r n) ≡ (let t : Tokens = record { lines = r.spelled.lines ++ []; dropped = Some (join_line r.first r.spelled.words (put_before n [] no_tokens)).number } in t)
cut_answer r n =
    ap (λ (ls : List Line). (let t : Tokens = record { lines = ls; dropped = Some (first_of r.spelled.words r.first n) } in t)) (sym (append-nil r.spelled.lines))
    ∙ ap (λ (k : ℕ). (let t : Tokens = record { lines = r.spelled.lines ++ []; dropped = Some k } in t)) (cut_line r.first n r.spelled.words)

ending_runs : (ending : Ending) (r : Reader) (before : List ℕ) (q : Bool) → EndingFits ending
    → outcome (at mode.Between r (line_number before) [] q) (ending_bytes ending) ≡ answer r before [] ending
ending_runs whole r before q h = ap (λ (ls : List Line). (let t : Tokens = record { lines = ls; dropped = None } in t)) (last_line r.spelled.lines r.first r.spelled.words)
ending_runs (open_quote ps bytes) r before q h =
    let n = line_number before in
    let m = number_past n (pieces_bytes ps) in
    cut_runs ps r n q 34 bytes (not-true _ h.0) h.1 refl refl refl
    ∙ open_quotes_run (begun r n) (number_after m 34) (word_of ps) true bytes h.2
    ∙ cut_answer r n
ending_runs (lone_backslash ps) r before q h =
    let n = line_number before in
    cut_runs ps r n q 92 [] (not-true _ h.0) h.1 refl refl refl
    ∙ cut_answer r n

-- ---- one token

token_runs : (p : Piece) (ps : List Piece) (r : Reader) (n : ℕ) (q : Bool) (next : List ℕ) → ItemFits (token p ps) next
    → outcome (at mode.Between r n [] q) (pieces_bytes (p ∷ ps) ++ next) ≡ outcome (rested (begun r n) (number_past n (pieces_bytes (p ∷ ps))) (word_of (p ∷ ps)) (list_any is_quoted (p ∷ ps) || false)) next
token_runs p ps r n q next h =
    let split = append_assoc (piece_bytes p) (pieces_bytes ps) next in
    ap (λ (u : List ℕ). outcome (at mode.Between r n [] q) u) split
    ∙ token_begins p ps r n [] q (pieces_bytes ps ++ next) (not-true _ h.0) h.1.0
    ∙ ap (λ (u : List ℕ). outcome (at mode.Word (begun r n) n [] false) u) (sym split)
    ∙ pieces_run (p ∷ ps) (begun r n) n [] false next h.1
    ∙ token_ends (begun r n) (number_past n (pieces_bytes (p ∷ ps))) (word_of (p ∷ ps)) (list_any is_quoted (p ∷ ps) || false) next h.2

-- ---- items

-- there is a stretch
pub some_stretch : (before : List ℕ) (items : List Item) (ending : Ending) → (line : Line) × (lines : List Line) × (line_parts before items ending ≡ line ∷ lines)
some_stretch before [] ending = (ending_line before ending, [], refl)
some_stretch before (blank b ∷ items) ending = some_stretch (before ++ item_bytes (blank b)) items ending
some_stretch before (line_end ∷ items) ending = (no_tokens, line_parts (before ++ item_bytes line_end) items ending, refl)
some_stretch before (comment bytes ∷ items) ending = some_stretch (before ++ item_bytes (comment bytes)) items ending
some_stretch before (token p ps ∷ items) ending =
    let behind = before ++ item_bytes (token p ps) in
    let s = some_stretch behind items ending in
    elim (counts (p ∷ ps)) as (λ (v : Bool). (line : Line) × (lines : List Line) × (cond v (onto_first_line (line_number before) (word_of (p ∷ ps)) (line_parts behind items ending)) (line_parts behind items ending) ≡ line ∷ lines)) [
      | true ↦ (put_before (line_number before) (word_of (p ∷ ps)) s.0, s.1, ap (λ (ls : List Line). onto_first_line (line_number before) (word_of (p ∷ ps)) ls) s.2)
      | false ↦ s
    ]

joined_nothing : (first : ℕ) (line : Line) (lines : List Line) → joined first [] (line ∷ lines) ≡ line ∷ lines
joined_nothing first line lines = refl

-- the end of a line
with_words_ended : (done : List Line) (first : ℕ) (words : List (List ℕ)) (rest : List Line)
    → with_line done first words ++ with_words rest ≡ done ++ with_words (join_line first words no_tokens ∷ rest)
with_words_ended done first [] rest = refl
with_words_ended done first (w ∷ words) rest =
    append_assoc done _ (with_words rest)
    ∙ ap (λ (ws : List (List ℕ)). done ++ record { number = first; words = w ∷ ws } ∷ with_words rest) (sym (append-nil words))

line_ended : (ending : Ending) (done : List Line) (first : ℕ) (words : List (List ℕ)) (line : Line) (lines : List Line)
    → (let t : Tokens = record { lines = with_line done first words ++ kept_lines (joined first [] (line ∷ lines)) ending; dropped = dropped_line (joined first [] (line ∷ lines)) ending } in t)
    ≡ (let t : Tokens = record { lines = done ++ kept_lines (join_line first words no_tokens ∷ line ∷ lines) ending; dropped = dropped_line (join_line first words no_tokens ∷ line ∷ lines) ending } in t)
line_ended whole done first words line lines = ap (λ (ls : List Line). (let t : Tokens = record { lines = ls; dropped = None } in t)) (with_words_ended done first words (line ∷ lines))
line_ended (open_quote ps bytes) done first words line lines = ap (λ (ls : List Line). (let t : Tokens = record { lines = ls; dropped = Some (last_number (line ∷ lines)) } in t)) (with_words_ended done first words (all_but_last (line ∷ lines)))
line_ended (lone_backslash ps) done first words line lines = ap (λ (ls : List Line). (let t : Tokens = record { lines = ls; dropped = Some (last_number (line ∷ lines)) } in t)) (with_words_ended done first words (all_but_last (line ∷ lines)))

-- a token more
or_none : (b : Bool) → (b || false) ≡ b
or_none true = refl
or_none false = refl

join_more : (first n : ℕ) (words : List (List ℕ)) (word : List ℕ) (line : Line)
    → join_line (first_of words first n) (words ++ word ∷ []) line ≡ join_line first words (put_before n word line)
join_more first n [] word line = refl
join_more first n (w ∷ words) word line = ap (λ (ws : List (List ℕ)). (let l : Line = record { number = first; words = w ∷ ws } in l)) (append_assoc words (word ∷ []) line.words)

join_same : (first n : ℕ) (words : List (List ℕ)) (line : Line) → join_line (first_of words first n) words line ≡ join_line first words line
join_same first n [] line = refl
join_same first n (w ∷ words) line = refl

joined_more : (first n : ℕ) (words : List (List ℕ)) (word : List ℕ) (lines : List Line)
    → joined (first_of words first n) (words ++ word ∷ []) lines ≡ joined first words (onto_first_line n word lines)
joined_more first n words word [] = ap (λ (l : Line). l ∷ []) (join_more first n words word no_tokens)
joined_more first n words word (line ∷ lines) = ap (λ (l : Line). l ∷ lines) (join_more first n words word line)

joined_same : (first n : ℕ) (words : List (List ℕ)) (lines : List Line) → joined (first_of words first n) words lines ≡ joined first words lines
joined_same first n words [] = ap (λ (l : Line). l ∷ []) (join_same first n words no_tokens)
joined_same first n words (line ∷ lines) = ap (λ (l : Line). l ∷ lines) (join_same first n words line)

joined_counted : (v : Bool) (first n : ℕ) (words : List (List ℕ)) (word : List ℕ) (lines : List Line)
    → joined (first_of words first n) (if v then words ++ word ∷ [] else words) lines ≡ joined first words (if v then onto_first_line n word lines else lines)
joined_counted true first n words word lines = joined_more first n words word lines
joined_counted false first n words word lines = joined_same first n words lines

joined_token : (first n : ℕ) (words : List (List ℕ)) (ps : List Piece) (lines : List Line)
    → joined (first_of words first n) (with_token words (list_any is_quoted ps || false) (word_of ps)) lines ≡ joined first words (if counts ps then onto_first_line n (word_of ps) lines else lines)
joined_token first n words ps lines =
    ap (λ (v : Bool). joined (first_of words first n) (with_token words v (word_of ps)) lines) (or_none (list_any is_quoted ps))
    ∙ joined_counted (counts ps) first n words (word_of ps) lines

-- the physical line behind more bytes
number_behind : (before bytes : List ℕ) → number_past (line_number before) bytes ≡ line_number (before ++ bytes)
number_behind before bytes = number_past-is (line_number before) bytes ∙ omega (arith, sum_by-append (λ b. cond (is_line_feed b) 1 0) before bytes)

pub items_run : (items : List Item) (ending : Ending) (r : Reader) (before : List ℕ) (q : Bool) → ItemsFit items (ending_bytes ending) → EndingFits ending
    → outcome (at mode.Between r (line_number before) [] q) (items_bytes items ++ ending_bytes ending) ≡ answer r before items ending
items_run [] ending r before q fits end = ending_runs ending r before q end
items_run (blank b ∷ items) ending r before q fits end =
    let next = items_bytes items ++ ending_bytes ending in
    let here = at mode.Between r (line_number before) [] q in
    after_step here _ b next (between_blank here b fits.0)
    ∙ ap (λ (m : ℕ). outcome (at mode.Between r m [] q) next) (number_behind before (b ∷ []))
    ∙ items_run items ending r (before ++ b ∷ []) q fits.1 end
items_run (line_end ∷ items) ending r before q fits end =
    let behind = before ++ 10 ∷ [] in
    let next = items_bytes items ++ ending_bytes ending in
    let some = some_stretch behind items ending in
    let ended : Reader = record r { spelled = record r.spelled { lines = with_line r.spelled.lines r.first r.spelled.words; words = [] } } in
    ap (λ (m : ℕ). outcome (at mode.Between ended m [] q) next) (number_behind before (10 ∷ []))
    ∙ items_run items ending ended behind q fits.1 end
    ∙ ap (λ (ls : List Line). (let t : Tokens = record { lines = ended.spelled.lines ++ kept_lines (joined r.first [] ls) ending; dropped = dropped_line (joined r.first [] ls) ending } in t)) some.2
    ∙ line_ended ending r.spelled.lines r.first r.spelled.words some.0 some.1
    ∙ ap (λ (ls : List Line). (let t : Tokens = record { lines = r.spelled.lines ++ kept_lines (join_line r.first r.spelled.words no_tokens ∷ ls) ending; dropped = dropped_line (join_line r.first r.spelled.words no_tokens ∷ ls) ending } in t)) (sym some.2)
items_run (comment bytes ∷ items) ending r before q fits end =
    let next = items_bytes items ++ ending_bytes ending in
    let n = line_number before in
    ap (λ (u : List ℕ). outcome (at mode.Between r n [] q) (35 ∷ u)) (append_assoc bytes (items_bytes items) (ending_bytes ending))
    ∙ comment_runs r (number_after n 35) q bytes next fits.0.0 fits.0.1
    ∙ ap (λ (m : ℕ). outcome (at mode.Between r m [] q) next) (number_behind before (35 ∷ bytes))
    ∙ items_run items ending r (before ++ 35 ∷ bytes) q fits.1 end
items_run (token p ps ∷ items) ending r before q fits end =
    let next = items_bytes items ++ ending_bytes ending in
    let n = line_number before in
    let behind = before ++ pieces_bytes (p ∷ ps) in
    let quotes = list_any is_quoted (p ∷ ps) || false in
    let words = with_token r.spelled.words quotes (word_of (p ∷ ps)) in
    let ended : Reader = record (begun r n) { spelled = record r.spelled { words = words } } in
    ap (λ (u : List ℕ). outcome (at mode.Between r n [] q) u) (append_assoc (pieces_bytes (p ∷ ps)) (items_bytes items) (ending_bytes ending))
    ∙ token_runs p ps r n q next fits.0
    ∙ ap (λ (m : ℕ). outcome (at mode.Between ended m [] quotes) next) (number_behind before (pieces_bytes (p ∷ ps)))
    ∙ items_run items ending ended behind quotes fits.1 end
    ∙ ap (λ (ls : List Line). (let t : Tokens = record { lines = r.spelled.lines ++ kept_lines ls ending; dropped = dropped_line ls ending } in t)) (joined_token r.first n r.spelled.words (p ∷ ps) (line_parts behind items ending))
