-- Two readings of one text are the same.
use Rattle.std.proofs.Common.{◌≡◌, ℕ, Bool, true, false, not, ◌||◌, eqb, if◌then◌else◌, ◌≤◌, List, [], ◌∷◌, ◌++◌, refl, sym, ap, subst, ◌∙◌, append_assoc, arith}
use Rattle.std.proofs.lemmas.Bool.{not-true, not_from_true, or_from, and_parts, and_right, eqb-false, both_ways}
use Rattle.std.specs.List.{list_all}
use Rattle.rc_tokens.specs.Grammar.{is_space, is_blank, is_line_feed, is_quote, is_hash, is_plain, begins, stops, has_none, LineEnd, bare, returned, Piece, plain, quoted, escape, folded, line_end_bytes, piece_bytes, PieceFits, pieces_bytes, PiecesFit, begin_with_hash, Item, blank, line_end, comment, token, item_bytes, ItemFits, items_bytes, ItemsFit, Ending, whole, open_quote, lone_backslash, ending_bytes, EndingFits, IsReading}
use Rattle.rc_tokens.proofs.Bytes.{plain_facts}

head_is : (b c : ℕ) (xs ys : List ℕ) → b ∷ xs ≡ c ∷ ys → b ≡ c
head_is b c xs ys e = cc

tail_is : (b c : ℕ) (xs ys : List ℕ) → b ∷ xs ≡ c ∷ ys → xs ≡ ys
tail_is b c xs ys e = cc

heads_differ : (b c : ℕ) (xs ys : List ℕ) → eqb b c ≡ false → b ∷ xs ≡ c ∷ ys → ⊥
heads_differ b c xs ys h e = eqb-false b c h (head_is b c xs ys e)

-- ---- runs

-- a run of bytes that pass a test, as long as it can be
run_unique : (test : ℕ → Bool) (xs ys rest next : List ℕ) → list_all test xs ≡ true → list_all test ys ≡ true → begins test rest ≡ false → begins test next ≡ false
    → xs ++ rest ≡ ys ++ next → (xs ≡ ys) × (rest ≡ next)
run_unique test [] [] rest next h g stop end e = (refl, e)
run_unique test [] (y ∷ ys) rest next h g stop end e =
    let yes : begins test rest ≡ true = rw e (and_parts (test y) _ g).0 in absurd (both_ways _ stop yes)
run_unique test (x ∷ xs) [] rest next h g stop end e =
    let yes : begins test next ≡ true = rw (← e) (and_parts (test x) _ h).0 in absurd (both_ways _ end yes)
run_unique test (x ∷ xs) (y ∷ ys) rest next h g stop end e =
    let r = run_unique test xs ys rest next (and_parts (test x) _ h).1 (and_parts (test y) _ g).1 stop end (tail_is x y _ _ e) in
    let same : x ≡ y = head_is x y _ _ e in
    let all : xs ≡ ys = r.0 in
    (cc, r.1)

quotes_unique : (xs ys rest next : List ℕ) → has_none is_quote xs ≡ true → has_none is_quote ys ≡ true
    → (xs ++ 34 ∷ []) ++ rest ≡ (ys ++ 34 ∷ []) ++ next → (xs ≡ ys) × (rest ≡ next)
quotes_unique xs ys rest next h g e =
    let f : xs ++ 34 ∷ rest ≡ ys ++ 34 ∷ next = sym (append_assoc xs (34 ∷ []) rest) ∙ e ∙ append_assoc ys (34 ∷ []) next in
    let r = run_unique (λ b. not (is_quote b)) xs ys (34 ∷ rest) (34 ∷ next) h g refl refl f in
    (r.0, tail_is 34 34 rest next r.1)

-- ---- pieces

not_plain : (b : ℕ) → is_plain b ≡ true → is_plain b ≡ false → ⊥
not_plain b h g = both_ways _ g h

plain_is_not : (b c : ℕ) → is_plain b ≡ true → is_plain c ≡ false → b ≡ c → ⊥
plain_is_not b c h g e = not_plain c (subst (λ (d : ℕ). is_plain d ≡ true) e h) g

escape_feed : (next : List ℕ) → PieceFits (escape 10) next → ⊥
escape_feed next h = both_ways _ refl h

escape_return : (next rest : List ℕ) → next ≡ 10 ∷ rest → PieceFits (escape 13) next → ⊥
escape_return next rest e h = let f : PieceFits (escape 13) (10 ∷ rest) = subst (λ (u : List ℕ). PieceFits (escape 13) u) e h in both_ways _ refl f

escape_not_folded : (b : ℕ) (end : LineEnd) (spaces rest next : List ℕ) → PieceFits (escape b) rest → b ∷ rest ≡ (line_end_bytes end ++ spaces) ++ next → ⊥
escape_not_folded b bare spaces rest next h e = escape_feed rest (subst (λ (c : ℕ). PieceFits (escape c) rest) (head_is b 10 _ _ e) h)
escape_not_folded b returned spaces rest next h e =
    escape_return rest (spaces ++ next) (tail_is b 13 _ _ e) (subst (λ (c : ℕ). PieceFits (escape c) rest) (head_is b 13 _ _ e) h)

abbrev pub folded_same : LineEnd → List ℕ → Piece
folded_same end spaces = folded end spaces

folds_unique : (end end' : LineEnd) (xs ys rest next : List ℕ) → PieceFits (folded end xs) rest → PieceFits (folded end' ys) next
    → (line_end_bytes end ++ xs) ++ rest ≡ (line_end_bytes end' ++ ys) ++ next → (folded end xs ≡ folded end' ys) × (rest ≡ next)
folds_unique bare bare xs ys rest next h g e =
    let r = run_unique is_space xs ys rest next h.0 g.0 (not-true _ h.1) (not-true _ g.1) (tail_is 10 10 _ _ e) in
    (ap (λ (u : List ℕ). folded bare u) r.0, r.1)
folds_unique bare returned xs ys rest next h g e = absurd (heads_differ 10 13 _ _ refl e)
folds_unique returned bare xs ys rest next h g e = absurd (heads_differ 13 10 _ _ refl e)
folds_unique returned returned xs ys rest next h g e =
    let r = run_unique is_space xs ys rest next h.0 g.0 (not-true _ h.1) (not-true _ g.1) (tail_is 10 10 _ _ (tail_is 13 13 _ _ e)) in
    (ap (λ (u : List ℕ). folded returned u) r.0, r.1)

piece_unique : (p p' : Piece) (rest next : List ℕ) → PieceFits p rest → PieceFits p' next → piece_bytes p ++ rest ≡ piece_bytes p' ++ next → (p ≡ p') × (rest ≡ next)
piece_unique (plain b) (plain c) rest next h g e = (ap (λ (d : ℕ). plain d) (head_is b c _ _ e), tail_is b c _ _ e)
piece_unique (plain b) (quoted run) rest next h g e = absurd (plain_is_not b 34 h refl (head_is b 34 _ _ e))
piece_unique (plain b) (escape c) rest next h g e = absurd (plain_is_not b 92 h refl (head_is b 92 _ _ e))
piece_unique (plain b) (folded end spaces) rest next h g e = absurd (plain_is_not b 92 h refl (head_is b 92 _ _ e))
piece_unique (quoted run) (plain c) rest next h g e = absurd (plain_is_not c 34 g refl (head_is c 34 _ _ (sym e)))
piece_unique (quoted run) (quoted run') rest next h g e =
    let r = quotes_unique run run' rest next h g (tail_is 34 34 _ _ e) in (ap (λ (u : List ℕ). quoted u) r.0, r.1)
piece_unique (quoted run) (escape c) rest next h g e = absurd (heads_differ 34 92 _ _ refl e)
piece_unique (quoted run) (folded end spaces) rest next h g e = absurd (heads_differ 34 92 _ _ refl e)
piece_unique (escape b) (plain c) rest next h g e = absurd (plain_is_not c 92 g refl (head_is c 92 _ _ (sym e)))
piece_unique (escape b) (quoted run) rest next h g e = absurd (heads_differ 92 34 _ _ refl e)
piece_unique (escape b) (escape c) rest next h g e =
    let f = tail_is 92 92 _ _ e in (ap (λ (d : ℕ). escape d) (head_is b c _ _ f), tail_is b c _ _ f)
piece_unique (escape b) (folded end spaces) rest next h g e = absurd (escape_not_folded b end spaces rest next h (tail_is 92 92 _ _ e))
piece_unique (folded end spaces) (plain c) rest next h g e = absurd (plain_is_not c 92 g refl (head_is c 92 _ _ (sym e)))
piece_unique (folded end spaces) (quoted run) rest next h g e = absurd (heads_differ 92 34 _ _ refl e)
piece_unique (folded end spaces) (escape c) rest next h g e = absurd (escape_not_folded c end spaces next rest g (tail_is 92 92 _ _ (sym e)))
piece_unique (folded end spaces) (folded end' spaces') rest next h g e = folds_unique end end' spaces spaces' rest next h g (tail_is 92 92 _ _ e)

-- ---- what follows the pieces of a token is no piece

abbrev NoPiece : List ℕ → Type 0
NoPiece bytes = (p : Piece) (next : List ℕ) → PieceFits p next → bytes ≡ piece_bytes p ++ next → ⊥

abbrev is_stop : ℕ → Bool
is_stop b = is_blank b || is_line_feed b

piece_no_stop : (p : Piece) (next : List ℕ) → PieceFits p next → stops is_stop (piece_bytes p ++ next) ≡ false
piece_no_stop (plain b) next h = let f = plain_facts b h in or_from (is_blank b) (is_line_feed b) f.no_blank f.no_feed
piece_no_stop (quoted run) next h = refl
piece_no_stop (escape b) next h = refl
piece_no_stop (folded end spaces) next h = refl

stop_no_piece : (bytes : List ℕ) → stops is_stop bytes ≡ true → NoPiece bytes
stop_no_piece bytes stop p next h e = both_ways _ (piece_no_stop p next h) (subst (λ (u : List ℕ). stops is_stop u ≡ true) e stop)

has_quote : (xs next : List ℕ) → has_none is_quote ((xs ++ 34 ∷ []) ++ next) ≡ false
has_quote [] next = refl
has_quote (x ∷ xs) next = and_right (not (is_quote x)) _ (has_quote xs next)

quote_no_piece : (run : List ℕ) → has_none is_quote run ≡ true → NoPiece (34 ∷ run)
quote_no_piece run none (plain b) next h e = plain_is_not b 34 h refl (sym (head_is 34 b _ _ e))
quote_no_piece run none (quoted run') next h e = both_ways _ (has_quote run' next) (subst (λ (u : List ℕ). has_none is_quote u ≡ true) (tail_is 34 34 _ _ e) none)
quote_no_piece run none (escape b) next h e = heads_differ 34 92 _ _ refl e
quote_no_piece run none (folded end spaces) next h e = heads_differ 34 92 _ _ refl e

backslash_no_piece : NoPiece (92 ∷ [])
backslash_no_piece (plain b) next h e = plain_is_not b 92 h refl (sym (head_is 92 b _ _ e))
backslash_no_piece (quoted run) next h e = heads_differ 92 34 _ _ refl e
backslash_no_piece (escape b) next h e = cc
backslash_no_piece (folded bare spaces) next h e = cc
backslash_no_piece (folded returned spaces) next h e = cc

pieces_unique : (ps ps' : List Piece) (rest next : List ℕ) → PiecesFit ps rest → PiecesFit ps' next → NoPiece rest → NoPiece next
    → pieces_bytes ps ++ rest ≡ pieces_bytes ps' ++ next → (ps ≡ ps') × (rest ≡ next)
pieces_unique [] [] rest next h g none none' e = (refl, e)
pieces_unique [] (p ∷ ps) rest next h g none none' e = absurd (none p (pieces_bytes ps ++ next) g.0 (e ∙ append_assoc (piece_bytes p) (pieces_bytes ps) next))
pieces_unique (p ∷ ps) [] rest next h g none none' e = absurd (none' p (pieces_bytes ps ++ rest) h.0 (sym e ∙ append_assoc (piece_bytes p) (pieces_bytes ps) rest))
pieces_unique (p ∷ ps) (p' ∷ ps') rest next h g none none' e =
    let f = sym (append_assoc (piece_bytes p) (pieces_bytes ps) rest) ∙ e ∙ append_assoc (piece_bytes p') (pieces_bytes ps') next in
    let first = piece_unique p p' (pieces_bytes ps ++ rest) (pieces_bytes ps' ++ next) h.0 g.0 f in
    let others = pieces_unique ps ps' rest next h.1 g.1 none none' first.1 in
    let same : p ≡ p' = first.0 in
    let all : ps ≡ ps' = others.0 in
    (cc, others.1)

-- ---- items

-- the kind of what begins with these bytes: a blank, a line end, a comment, a token, nothing
abbrev kind : List ℕ → ℕ
kind [] = 4
kind (b ∷ bytes) = if is_blank b then 0 else if is_line_feed b then 1 else if is_hash b then 2 else 3

abbrev item_kind : Item → ℕ
item_kind (blank b) = 0
item_kind line_end = 1
item_kind (comment run) = 2
item_kind (token p ps) = 3

abbrev ending_kind : Ending → ℕ
ending_kind whole = 4
ending_kind (open_quote ps run) = 3
ending_kind (lone_backslash ps) = 3

kind_blank : (b : ℕ) (bytes : List ℕ) → is_blank b ≡ true → kind (b ∷ bytes) ≡ 0
kind_blank b bytes h = rw h refl

kind_word : (b : ℕ) (bytes : List ℕ) → is_blank b ≡ false → is_line_feed b ≡ false → is_hash b ≡ false → kind (b ∷ bytes) ≡ 3
kind_word b bytes no_blank no_feed no_hash = rw (no_blank, no_feed, no_hash) refl

kind_piece : (p : Piece) (ps : List Piece) (next : List ℕ) → PieceFits p next → begin_with_hash (p ∷ ps) ≡ false → kind (piece_bytes p ++ next) ≡ 3
kind_piece (plain b) ps next h hash = let f = plain_facts b h in kind_word b next f.no_blank f.no_feed hash
kind_piece (quoted run) ps next h hash = refl
kind_piece (escape b) ps next h hash = refl
kind_piece (folded end spaces) ps next h hash = refl

kind_pieces : (ps : List Piece) (next : List ℕ) → PiecesFit ps next → begin_with_hash ps ≡ false → kind next ≡ 3 → kind (pieces_bytes ps ++ next) ≡ 3
kind_pieces [] next h hash k = k
kind_pieces (p ∷ ps) next h hash k = rw append_assoc (kind_piece p ps (pieces_bytes ps ++ next) h.0 hash)

kind_item : (i : Item) (next : List ℕ) → ItemFits i next → kind (item_bytes i ++ next) ≡ item_kind i
kind_item (blank b) next h = kind_blank b next h
kind_item line_end next h = refl
kind_item (comment run) next h = refl
kind_item (token p ps) next h = rw append_assoc (kind_piece p ps (pieces_bytes ps ++ next) h.1.0 (not-true _ h.0))

kind_ending : (ending : Ending) → EndingFits ending → kind (ending_bytes ending) ≡ ending_kind ending
kind_ending whole h = refl
kind_ending (open_quote ps run) h = kind_pieces ps (34 ∷ run) h.1 (not-true _ h.0) refl
kind_ending (lone_backslash ps) h = kind_pieces ps (92 ∷ []) h.1 (not-true _ h.0) refl

stop_begins : (bytes : List ℕ) → stops is_line_feed bytes ≡ true → begins (λ b. not (is_line_feed b)) bytes ≡ false
stop_begins [] h = refl
stop_begins (b ∷ bytes) h = not_from_true _ h

same_kind : (i i' : Item) (rest next : List ℕ) → ItemFits i rest → ItemFits i' next → item_bytes i ++ rest ≡ item_bytes i' ++ next → item_kind i ≡ item_kind i'
same_kind i i' rest next h g e = sym (kind_item i rest h) ∙ ap (λ (u : List ℕ). kind u) e ∙ kind_item i' next g

tokens_unique : (p p' : Piece) (ps ps' : List Piece) (rest next : List ℕ) → ItemFits (token p ps) rest → ItemFits (token p' ps') next
    → pieces_bytes (p ∷ ps) ++ rest ≡ pieces_bytes (p' ∷ ps') ++ next → (token p ps ≡ token p' ps') × (rest ≡ next)
tokens_unique p p' ps ps' rest next h g e =
    let r = pieces_unique (p ∷ ps) (p' ∷ ps') rest next h.1 g.1 (stop_no_piece rest h.2) (stop_no_piece next g.2) e in
    let all : p ∷ ps ≡ p' ∷ ps' = r.0 in
    let same : p ≡ p' = cc in
    let others : ps ≡ ps' = cc in
    (cc, r.1)

item_unique : (i i' : Item) (rest next : List ℕ) → ItemFits i rest → ItemFits i' next → item_bytes i ++ rest ≡ item_bytes i' ++ next → (i ≡ i') × (rest ≡ next)
item_unique (blank b) (blank c) rest next h g e = (ap (λ (d : ℕ). blank d) (head_is b c _ _ e), tail_is b c _ _ e)
item_unique line_end line_end rest next h g e = (refl, tail_is 10 10 _ _ e)
item_unique (comment run) (comment run') rest next h g e =
    let r = run_unique (λ b. not (is_line_feed b)) run run' rest next h.0 g.0 (stop_begins rest h.1) (stop_begins next g.1) (tail_is 35 35 _ _ e) in
    (ap (λ (u : List ℕ). comment u) r.0, r.1)
item_unique (token p ps) (token p' ps') rest next h g e = tokens_unique p p' ps ps' rest next h g e
item_unique i i' rest next h g e = let k = same_kind i i' rest next h g e in absurd (omega (arith, k))

-- ---- endings

cut_no_stop : (b : ℕ) (bytes rest : List ℕ) → is_stop b ≡ false → stops is_stop rest ≡ true → rest ≡ b ∷ bytes → ⊥
cut_no_stop b bytes rest h stop e = both_ways _ h (subst (λ (u : List ℕ). stops is_stop u ≡ true) e stop)

token_no_cut : (p : Piece) (ps ps' : List Piece) (b : ℕ) (rest bytes : List ℕ) → ItemFits (token p ps) rest → PiecesFit ps' (b ∷ bytes) → NoPiece (b ∷ bytes) → is_stop b ≡ false
    → pieces_bytes (p ∷ ps) ++ rest ≡ pieces_bytes ps' ++ b ∷ bytes → ⊥
token_no_cut p ps ps' b rest bytes h g none stop e =
    let r = pieces_unique (p ∷ ps) ps' rest (b ∷ bytes) h.1 g (stop_no_piece rest h.2) none e in
    cut_no_stop b bytes rest stop h.2 r.1

ending_kind_low : (ending : Ending) → 3 ≤ ending_kind ending
ending_kind_low whole = omega arith
ending_kind_low (open_quote ps run) = omega arith
ending_kind_low (lone_backslash ps) = omega arith

item_no_ending : (i : Item) (ending : Ending) (rest : List ℕ) → ItemFits i rest → EndingFits ending → item_bytes i ++ rest ≡ ending_bytes ending → ⊥
item_no_ending (token p ps) (open_quote ps' run) rest h g e = token_no_cut p ps ps' 34 rest run h g.1 (quote_no_piece run g.2) refl e
item_no_ending (token p ps) (lone_backslash ps') rest h g e = token_no_cut p ps ps' 92 rest [] h g.1 backslash_no_piece refl e
item_no_ending i ending rest h g e =
    let k : item_kind i ≡ ending_kind ending = sym (kind_item i rest h) ∙ ap (λ (u : List ℕ). kind u) e ∙ kind_ending ending g in omega (arith, k, ending_kind_low ending)

same_ending_kind : (a b : Ending) → EndingFits a → EndingFits b → ending_bytes a ≡ ending_bytes b → ending_kind a ≡ ending_kind b
same_ending_kind a b h g e = sym (kind_ending a h) ∙ ap (λ (u : List ℕ). kind u) e ∙ kind_ending b g

ending_unique : (a b : Ending) → EndingFits a → EndingFits b → ending_bytes a ≡ ending_bytes b → a ≡ b
ending_unique whole whole h g e = refl
ending_unique (open_quote ps run) (open_quote ps' run') h g e =
    let r = pieces_unique ps ps' (34 ∷ run) (34 ∷ run') h.1 g.1 (quote_no_piece run h.2) (quote_no_piece run' g.2) e in
    let all : ps ≡ ps' = r.0 in
    let rest : run ≡ run' = tail_is 34 34 _ _ r.1 in
    cc
ending_unique (open_quote ps run) (lone_backslash ps') h g e =
    let r = pieces_unique ps ps' (34 ∷ run) (92 ∷ []) h.1 g.1 (quote_no_piece run h.2) backslash_no_piece e in
    absurd (heads_differ 34 92 _ _ refl r.1)
ending_unique (lone_backslash ps) (open_quote ps' run) h g e =
    let r = pieces_unique ps ps' (92 ∷ []) (34 ∷ run) h.1 g.1 backslash_no_piece (quote_no_piece run g.2) e in
    absurd (heads_differ 92 34 _ _ refl r.1)
ending_unique (lone_backslash ps) (lone_backslash ps') h g e =
    let r = pieces_unique ps ps' (92 ∷ []) (92 ∷ []) h.1 g.1 backslash_no_piece backslash_no_piece e in
    ap (λ (u : List Piece). lone_backslash u) r.0
ending_unique a b h g e = let k = same_ending_kind a b h g e in absurd (omega (arith, k))

-- ---- files

items_unique : (items items' : List Item) (ending ending' : Ending) → ItemsFit items (ending_bytes ending) → ItemsFit items' (ending_bytes ending') → EndingFits ending → EndingFits ending'
    → items_bytes items ++ ending_bytes ending ≡ items_bytes items' ++ ending_bytes ending' → (items ≡ items') × (ending ≡ ending')
items_unique [] [] ending ending' h g f f' e = (refl, ending_unique ending ending' f f' e)
items_unique [] (i ∷ items) ending ending' h g f f' e =
    absurd (item_no_ending i ending (items_bytes items ++ ending_bytes ending') g.0 f (sym (append_assoc (item_bytes i) (items_bytes items) (ending_bytes ending')) ∙ sym e))
items_unique (i ∷ items) [] ending ending' h g f f' e =
    absurd (item_no_ending i ending' (items_bytes items ++ ending_bytes ending) h.0 f' (sym (append_assoc (item_bytes i) (items_bytes items) (ending_bytes ending)) ∙ e))
items_unique (i ∷ items) (i' ∷ items') ending ending' h g f f' e =
    let split = sym (append_assoc (item_bytes i) (items_bytes items) (ending_bytes ending)) ∙ e ∙ append_assoc (item_bytes i') (items_bytes items') (ending_bytes ending') in
    let first = item_unique i i' (items_bytes items ++ ending_bytes ending) (items_bytes items' ++ ending_bytes ending') h.0 g.0 split in
    let others = items_unique items items' ending ending' h.1 g.1 f f' first.1 in
    let same : i ≡ i' = first.0 in
    let all : items ≡ items' = others.0 in
    (cc, others.1)

pub reading_unique : (bytes : List ℕ) (items items' : List Item) (ending ending' : Ending) → IsReading bytes items ending → IsReading bytes items' ending' → (items ≡ items') × (ending ≡ ending')
reading_unique bytes items items' ending ending' a b =
    items_unique items items' ending ending' a.items_fit b.items_fit a.ending_fits b.ending_fits (sym a.text ∙ b.text)
