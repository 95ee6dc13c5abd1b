-- Each text has a reading.
use Rattle.std.proofs.Common.{◌≡◌, ℕ, true, false, ◌||◌, ◌⊎◌, eqb, List, [], ◌∷◌, ◌++◌, refl, sym, ap, subst, ◌∙◌, append_assoc, inl, inr}
use Rattle.std.proofs.lemmas.Bool.{not_from_false, or_left, or_from, and_from, eqb-true, cases_Bool, both_ways}
use Rattle.std.specs.List.{list_all}
use Rattle.rc_tokens.specs.Grammar.{is_space, is_blank, is_line_feed, is_quote, is_backslash, is_hash, begins, stops, has_none, LineEnd, bare, returned, Piece, plain, quoted, escape, folded, piece_bytes, PieceFits, pieces_bytes, PiecesFit, begin_with_hash, Item, blank, line_end, comment, token, item_bytes, ItemFits, items_bytes, Ending, whole, open_quote, lone_backslash, ending_bytes, EndingFits, IsReading}
use Rattle.rc_tokens.proofs.Bytes.{plain_from}

-- what may follow the pieces of a token: other items, the rest of an open quote, or a last backslash
pub data Tail (bytes : List ℕ) : Type 0 where
  ended : (items : List Item) (ending : Ending) → IsReading bytes items ending → stops (λ b. is_blank b || is_line_feed b) bytes ≡ true → Tail bytes
  opened : (run : List ℕ) → bytes ≡ 34 ∷ run → has_none is_quote run ≡ true → Tail bytes
  lone : bytes ≡ 92 ∷ [] → Tail bytes

-- ---- what is read of the bytes that are left, by what has begun

pub record Word (bytes : List ℕ) : Type 0 where
  pub pieces : List Piece
  pub rest : List ℕ
  pub text : bytes ≡ pieces_bytes pieces ++ rest
  pub fit : PiecesFit pieces rest
  pub tail : Tail rest

pub record Between (bytes : List ℕ) : Type 0 where
  pub items : List Item
  pub ending : Ending
  pub reading : IsReading bytes items ending

pub record Comment (bytes : List ℕ) : Type 0 where
  pub run : List ℕ
  pub rest : List ℕ
  pub text : bytes ≡ run ++ rest
  pub none : has_none is_line_feed run ≡ true
  pub stop : stops is_line_feed rest ≡ true
  pub between : Between rest

pub record Closed (bytes : List ℕ) : Type 0 where
  pub run : List ℕ
  pub rest : List ℕ
  pub text : bytes ≡ run ++ 34 ∷ rest
  pub none : has_none is_quote run ≡ true
  pub word : Word rest

pub record Fold (bytes : List ℕ) : Type 0 where
  pub spaces : List ℕ
  pub rest : List ℕ
  pub text : bytes ≡ spaces ++ rest
  pub all : list_all is_space spaces ≡ true
  pub stop : begins is_space rest ≡ false
  pub word : Word rest

pub record Reads (bytes : List ℕ) : Type 0 where
  pub between : Between bytes
  pub comment : Comment bytes
  pub word : Word bytes
  pub quotes : Closed bytes ⊎ (has_none is_quote bytes ≡ true)
  pub backslash : Word (92 ∷ bytes)
  pub return : Word (92 ∷ 13 ∷ bytes)
  pub fold : Fold bytes

-- ---- one piece or item more

with_piece : (p : Piece) (bytes : List ℕ) → PieceFits p bytes → Word bytes → Word (piece_bytes p ++ bytes)
with_piece p bytes fits w = record {
  pieces = p ∷ w.pieces;
  rest = w.rest;
  text = ap (λ (u : List ℕ). piece_bytes p ++ u) w.text ∙ sym (append_assoc (piece_bytes p) (pieces_bytes w.pieces) w.rest);
  fit = (subst (λ (u : List ℕ). PieceFits p u) w.text fits, w.fit);
  tail = w.tail;
}

with_item : (i : Item) (bytes : List ℕ) → ItemFits i bytes → Between bytes → Between (item_bytes i ++ bytes)
with_item i bytes fits b = record {
  items = i ∷ b.items;
  ending = b.ending;
  reading = record {
    text = ap (λ (u : List ℕ). item_bytes i ++ u) b.reading.text ∙ sym (append_assoc (item_bytes i) (items_bytes b.items) (ending_bytes b.ending));
    items_fit = (subst (λ (u : List ℕ). ItemFits i u) b.reading.text fits, b.reading.items_fit);
    ending_fits = b.reading.ending_fits;
  };
}

no_pieces : (bytes : List ℕ) → Tail bytes → Word bytes
no_pieces bytes tail = record { pieces = []; rest = bytes; text = refl; fit = tt; tail = tail }

with_quotes : (bytes : List ℕ) → Closed bytes → Word (34 ∷ bytes)
with_quotes bytes c =
    let e : 34 ∷ bytes ≡ piece_bytes (quoted c.run) ++ c.rest = ap (λ (u : List ℕ). 34 ∷ u) (c.text ∙ sym (append_assoc c.run (34 ∷ []) c.rest)) in
    subst (λ (u : List ℕ). Word u) (sym e) (with_piece (quoted c.run) c.rest c.none c.word)

with_fold : (end : LineEnd) (bytes : List ℕ) → Fold bytes → Word (piece_bytes (folded end []) ++ bytes)
with_fold bare bytes f = subst (λ (u : List ℕ). Word (92 ∷ 10 ∷ u)) (sym f.text) (with_piece (folded bare f.spaces) f.rest (f.all, not_from_false _ f.stop) f.word)
with_fold returned bytes f = subst (λ (u : List ℕ). Word (92 ∷ 13 ∷ 10 ∷ u)) (sym f.text) (with_piece (folded returned f.spaces) f.rest (f.all, not_from_false _ f.stop) f.word)

-- ---- a token where its bytes begin

-- pieces that begin with a `#` spell bytes that begin with it
hash_begins : (pieces : List Piece) (rest : List ℕ) (b : ℕ) (bytes : List ℕ) → b ∷ bytes ≡ pieces_bytes pieces ++ rest → is_hash b ≡ false → begin_with_hash pieces ≡ false
hash_begins [] rest b bytes e h = refl
hash_begins (plain c ∷ pieces) rest b bytes e h = let same : b ≡ c = cc in subst (λ (d : ℕ). is_hash d ≡ false) same h
hash_begins (quoted run ∷ pieces) rest b bytes e h = refl
hash_begins (escape c ∷ pieces) rest b bytes e h = refl
hash_begins (folded end spaces ∷ pieces) rest b bytes e h = refl

-- what begins a token is no blank and no line feed
stops_not : (b : ℕ) (bytes : List ℕ) → is_blank b ≡ false → is_line_feed b ≡ false → stops (λ b. is_blank b || is_line_feed b) (b ∷ bytes) ≡ true → ⊥
stops_not b bytes no_blank no_feed h = both_ways _ (or_from (is_blank b) (is_line_feed b) no_blank no_feed) h

nothing_but : (ending : Ending) (bytes : List ℕ) → bytes ≡ ending_bytes ending → EndingFits ending → Between bytes
nothing_but ending bytes e fits = record { items = []; ending = ending; reading = record { text = e; items_fit = tt; ending_fits = fits } }

token_from : (b : ℕ) (bytes : List ℕ) → is_blank b ≡ false → is_line_feed b ≡ false → is_hash b ≡ false
    → (pieces : List Piece) (rest : List ℕ) → b ∷ bytes ≡ pieces_bytes pieces ++ rest → PiecesFit pieces rest → Tail rest → Between (b ∷ bytes)
token_from b bytes no_blank no_feed no_hash [] rest e fit (ended items ending reading stop) =
    absurd (stops_not b bytes no_blank no_feed (subst (λ (u : List ℕ). stops (λ c. is_blank c || is_line_feed c) u ≡ true) (sym e) stop))
token_from b bytes no_blank no_feed no_hash (p ∷ ps) rest e fit (ended items ending reading stop) =
    let hash = hash_begins (p ∷ ps) rest b bytes e no_hash in
    subst (λ (u : List ℕ). Between u) (sym e)
    (with_item (token p ps) rest (not_from_false _ hash, fit, stop) (record { items = items; ending = ending; reading = reading }))
token_from b bytes no_blank no_feed no_hash pieces rest e fit (opened run is none) =
    let hash = hash_begins pieces rest b bytes e no_hash in
    nothing_but (open_quote pieces run) (b ∷ bytes) (e ∙ ap (λ (u : List ℕ). pieces_bytes pieces ++ u) is) (not_from_false _ hash, subst (λ (u : List ℕ). PiecesFit pieces u) is fit, none)
token_from b bytes no_blank no_feed no_hash pieces rest e fit (lone is) =
    let hash = hash_begins pieces rest b bytes e no_hash in
    nothing_but (lone_backslash pieces) (b ∷ bytes) (e ∙ ap (λ (u : List ℕ). pieces_bytes pieces ++ u) is) (not_from_false _ hash, subst (λ (u : List ℕ). PiecesFit pieces u) is fit)

-- ---- a byte more

-- what is known of a byte outside quotes
pub data Kind (b : ℕ) : Type 0 where
  blank_byte : is_blank b ≡ true → Kind b
  feed_byte : 10 ≡ b → Kind b
  quote_byte : 34 ≡ b → Kind b
  backslash_byte : 92 ≡ b → Kind b
  hash_byte : 35 ≡ b → Kind b
  plain_byte : is_blank b ≡ false → is_line_feed b ≡ false → is_quote b ≡ false → is_backslash b ≡ false → is_hash b ≡ false → Kind b

kind_of : (b : ℕ) → Kind b
kind_of b =
    elim (cases_Bool (is_blank b)) [
      | inl h ↦ blank_byte h
      | inr no_blank ↦ elim (cases_Bool (is_line_feed b)) [
        | inl h ↦ feed_byte (sym (eqb-true b 10 h))
        | inr no_feed ↦ elim (cases_Bool (is_quote b)) [
          | inl h ↦ quote_byte (sym (eqb-true b 34 h))
          | inr no_quote ↦ elim (cases_Bool (is_backslash b)) [
            | inl h ↦ backslash_byte (sym (eqb-true b 92 h))
            | inr no_backslash ↦ elim (cases_Bool (is_hash b)) [
              | inl h ↦ hash_byte (sym (eqb-true b 35 h))
              | inr no_hash ↦ plain_byte no_blank no_feed no_quote no_backslash no_hash
            ]
          ]
        ]
      ]
    ]

-- the rest of an open or closed quote
quotes_word : (bytes : List ℕ) → Closed bytes ⊎ (has_none is_quote bytes ≡ true) → Word (34 ∷ bytes)
quotes_word bytes (inl c) = with_quotes bytes c
quotes_word bytes (inr none) = no_pieces (34 ∷ bytes) (opened bytes refl none)

-- what begins here, between tokens and in one
pub record Here (bytes : List ℕ) : Type 0 where
  pub between : Between bytes
  pub word : Word bytes

-- a blank or a line feed, behind which other items stand
here_stop : (b : ℕ) (bytes : List ℕ) → (is_blank b || is_line_feed b) ≡ true → Between (b ∷ bytes) → Here (b ∷ bytes)
here_stop b bytes stop between = record { between = between; word = no_pieces (b ∷ bytes) (ended between.items between.ending between.reading stop) }

-- a byte that begins a token
here_word : (b : ℕ) (bytes : List ℕ) → is_blank b ≡ false → is_line_feed b ≡ false → is_hash b ≡ false → Word (b ∷ bytes) → Here (b ∷ bytes)
here_word b bytes no_blank no_feed no_hash w = record { between = token_from b bytes no_blank no_feed no_hash w.pieces w.rest w.text w.fit w.tail; word = w }

with_comment : (bytes : List ℕ) → Comment bytes → Between (35 ∷ bytes)
with_comment bytes c = subst (λ (u : List ℕ). Between (35 ∷ u)) (sym c.text) (with_item (comment c.run) c.rest (c.none, c.stop) c.between)

here : (b : ℕ) (bytes : List ℕ) → Reads bytes → Kind b → Here (b ∷ bytes)
here b bytes ih (blank_byte h) = here_stop b bytes (or_left (is_blank b) _ h) (with_item (blank b) bytes h ih.between)
here b bytes ih (feed_byte is) = subst (λ (c : ℕ). Here (c ∷ bytes)) is (here_stop 10 bytes refl (with_item line_end bytes tt ih.between))
here b bytes ih (quote_byte is) = subst (λ (c : ℕ). Here (c ∷ bytes)) is (here_word 34 bytes refl refl refl (quotes_word bytes ih.quotes))
here b bytes ih (backslash_byte is) = subst (λ (c : ℕ). Here (c ∷ bytes)) is (here_word 92 bytes refl refl refl ih.backslash)
here b bytes ih (hash_byte is) = subst (λ (c : ℕ). Here (c ∷ bytes)) is (record { between = with_comment bytes ih.comment; word = with_piece (plain 35) bytes refl ih.word })
here b bytes ih (plain_byte no_blank no_feed no_quote no_backslash no_hash) =
    here_word b bytes no_blank no_feed no_hash (with_piece (plain b) bytes (plain_from b no_blank no_feed no_quote no_backslash) ih.word)

comment_more : (b : ℕ) (bytes : List ℕ) → Reads bytes → Between (b ∷ bytes) → Comment (b ∷ bytes)
comment_more b bytes ih between =
    elim (cases_Bool (is_line_feed b)) [
      | inl h ↦ record { run = []; rest = b ∷ bytes; text = refl; none = refl; stop = h; between = between }
      | inr h ↦ record { run = b ∷ ih.comment.run; rest = ih.comment.rest; text = ap (λ (u : List ℕ). b ∷ u) ih.comment.text; none = and_from _ _ (not_from_false _ h) ih.comment.none; stop = ih.comment.stop; between = ih.comment.between }
    ]

open_more : (b : ℕ) (bytes : List ℕ) → is_quote b ≡ false → Closed bytes ⊎ (has_none is_quote bytes ≡ true) → Closed (b ∷ bytes) ⊎ (has_none is_quote (b ∷ bytes) ≡ true)
open_more b bytes h (inl c) = inl (record { run = b ∷ c.run; rest = c.rest; text = ap (λ (u : List ℕ). b ∷ u) c.text; none = and_from _ _ (not_from_false _ h) c.none; word = c.word })
open_more b bytes h (inr none) = inr (and_from _ _ (not_from_false _ h) none)

quotes_more : (b : ℕ) (bytes : List ℕ) → Reads bytes → Closed (b ∷ bytes) ⊎ (has_none is_quote (b ∷ bytes) ≡ true)
quotes_more b bytes ih =
    elim (cases_Bool (is_quote b)) [
      | inl h ↦ inl (record { run = []; rest = bytes; text = ap (λ (c : ℕ). c ∷ bytes) (eqb-true b 34 h); none = refl; word = ih.word })
      | inr h ↦ open_more b bytes h ih.quotes
    ]

backslash_more : (b : ℕ) (bytes : List ℕ) → Reads bytes → Word (92 ∷ b ∷ bytes)
backslash_more b bytes ih =
    elim (cases_Bool (is_line_feed b)) [
      | inl h ↦ subst (λ (c : ℕ). Word (92 ∷ c ∷ bytes)) (sym (eqb-true b 10 h)) (with_fold bare bytes ih.fold)
      | inr no_feed ↦ elim (cases_Bool (eqb b 13)) [
        | inl h ↦ subst (λ (c : ℕ). Word (92 ∷ c ∷ bytes)) (sym (eqb-true b 13 h)) ih.return
        | inr no_return ↦ with_piece (escape b) bytes (rw (no_feed, no_return) refl) ih.word
      ]
    ]

return_more : (b : ℕ) (bytes : List ℕ) → Reads bytes → Word (b ∷ bytes) → Word (92 ∷ 13 ∷ b ∷ bytes)
return_more b bytes ih word =
    elim (cases_Bool (is_line_feed b)) [
      | inl h ↦ subst (λ (c : ℕ). Word (92 ∷ 13 ∷ c ∷ bytes)) (sym (eqb-true b 10 h)) (with_fold returned bytes ih.fold)
      | inr h ↦ with_piece (escape 13) (b ∷ bytes) (not_from_false _ h) word
    ]

fold_more : (b : ℕ) (bytes : List ℕ) → Reads bytes → Word (b ∷ bytes) → Fold (b ∷ bytes)
fold_more b bytes ih word =
    elim (cases_Bool (is_space b)) [
      | inl h ↦ record { spaces = b ∷ ih.fold.spaces; rest = ih.fold.rest; text = ap (λ (u : List ℕ). b ∷ u) ih.fold.text; all = and_from _ _ h ih.fold.all; stop = ih.fold.stop; word = ih.fold.word }
      | inr h ↦ record { spaces = []; rest = b ∷ bytes; text = refl; all = refl; stop = h; word = word }
    ]

reads_more : (b : ℕ) (bytes : List ℕ) → Reads bytes → Here (b ∷ bytes) → Reads (b ∷ bytes)
reads_more b bytes ih h = record {
  between = h.between;
  comment = comment_more b bytes ih h.between;
  word = h.word;
  quotes = quotes_more b bytes ih;
  backslash = backslash_more b bytes ih;
  return = return_more b bytes ih h.word;
  fold = fold_more b bytes ih h.word;
}

nothing : Between []
nothing = nothing_but whole [] refl tt

no_word : Word []
no_word = no_pieces [] (ended nothing.items nothing.ending nothing.reading refl)

pub reads : (bytes : List ℕ) → Reads bytes
reads [] = record {
  between = nothing;
  comment = record { run = []; rest = []; text = refl; none = refl; stop = refl; between = nothing };
  word = no_word;
  quotes = inr refl;
  backslash = no_pieces (92 ∷ []) (lone refl);
  return = with_piece (escape 13) [] refl no_word;
  fold = record { spaces = []; rest = []; text = refl; all = refl; stop = refl; word = no_word };
}
reads (b ∷ bytes) = let ih = reads bytes in reads_more b bytes ih (here b bytes ih (kind_of b))
