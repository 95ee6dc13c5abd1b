-- What the reader makes of the pieces of a token.
use Rattle.std.proofs.Common.{◌≡◌, ℕ, ◌+◌, Bool, true, false, not, ◌&&◌, ◌||◌, cond, eqb, Some, List, [], ◌∷◌, ◌++◌, refl, sym, ap, subst, ◌∙◌, append_assoc}
use Rattle.std.proofs.lemmas.List.{append-nil}
use Rattle.std.proofs.lemmas.Grind.{fold-append}
use Rattle.std.proofs.lemmas.List.Sums.{sum_by_from}
use Rattle.std.proofs.lemmas.Bool.{not-true, or_parts, and_parts, eqb-true}
use Rattle.std.specs.List.{count_by, fold, list_all, list_any}
use Rattle.rc_tokens.specs.Grammar.{is_space, is_line_feed, is_quote, is_plain, begins, has_none, LineEnd, bare, returned, Piece, plain, quoted, escape, folded, piece_bytes, escaped, spelled, is_quoted, PieceFits, pieces_bytes, PiecesFit}
use Rattle.rc_tokens.specs.Lines.{Tokens, word_of}
use Rattle.rc_tokens.specs.internal.Steps as steps
use Rattle.rc_tokens.specs.internal.Steps.{run, finished, number_after, with_byte, in_word, in_quotes, after_backslash, after_return, in_fold}
use Rattle.rc_tokens.specs.declared.reader.Mode.{Mode}
use Rattle.rc_tokens.specs.declared.reader.Mode.TheVariants as mode
use Rattle.rc_tokens.specs.declared.reader.Reader.{Reader}
use Rattle.rc_tokens.proofs.Bytes.{plain_facts}

-- what is read in the end, where these bytes are left
abbrev pub outcome : Reader → List ℕ → Tokens
outcome r bytes = finished (run r bytes)

-- a reader in this mode, on this physical line, with this token
abbrev pub at : Mode → Reader → ℕ → List ℕ → Bool → Reader
at m r n t q = record r { spelled = record r.spelled { token = t }; number = n; has_quotes = q; mode = m }

-- the physical line behind the bytes
abbrev pub number_past : ℕ → List ℕ → ℕ
number_past n bytes = fold number_after n bytes

pub number_past-is : (n : ℕ) (bytes : List ℕ) → number_past n bytes ≡ n + count_by is_line_feed bytes
number_past-is n bytes = sum_by_from (λ b. cond (is_line_feed b) 1 0) n bytes

pub number_past-append : (n : ℕ) (xs ys : List ℕ) → number_past n (xs ++ ys) ≡ number_past (number_past n xs) ys
number_past-append n xs ys = fold-append number_after n xs ys

-- ---- plain bytes

pub in_word_plain : (r : Reader) (b : ℕ) → is_plain b ≡ true → in_word r b ≡ with_byte r b
in_word_plain r b h =
    let f = plain_facts b h in
    rw (f.no_blank, f.no_feed, f.no_quote, f.no_backslash) refl

-- one step, with what the step of the mode gives
pub after_step : (r s : Reader) (b : ℕ) (next : List ℕ) → steps.moved r.mode r b ≡ s → outcome r (b ∷ next) ≡ outcome (record s { number = number_after r.number b }) next
after_step r s b next e = ap (λ (u : Reader). outcome (record u { number = number_after r.number b }) next) e

plain_runs : (r : Reader) (n : ℕ) (t : List ℕ) (q : Bool) (b : ℕ) (next : List ℕ) → is_plain b ≡ true
    → outcome (at mode.Word r n t q) (b ∷ next) ≡ outcome (at mode.Word r (number_after n b) (t ++ b ∷ []) q) next
plain_runs r n t q b next h = after_step (at mode.Word r n t q) _ b next (in_word_plain (at mode.Word r n t q) b h)

-- ---- quoted runs

pub none_parts : (test : ℕ → Bool) (b : ℕ) (bytes : List ℕ) → has_none test (b ∷ bytes) ≡ true → (test b ≡ false) × (has_none test bytes ≡ true)
none_parts test b bytes h = let p = and_parts (not (test b)) (has_none test bytes) h in (not-true (test b) p.0, p.1)

in_quotes_other : (r : Reader) (b : ℕ) → is_quote b ≡ false → in_quotes r b ≡ record r { spelled = record r.spelled { token = r.spelled.token ++ b ∷ [] } }
in_quotes_other r b h = rw h refl

quotes_run : (r : Reader) (n : ℕ) (t : List ℕ) (bytes next : List ℕ) → has_none is_quote bytes ≡ true
    → outcome (at mode.Quoted r n t true) (bytes ++ 34 ∷ next) ≡ outcome (at mode.Word r (number_past n (bytes ++ 34 ∷ [])) (t ++ bytes) true) next
quotes_run r n t [] next h = rw append-nil refl
quotes_run r n t (b ∷ bytes) next h =
    let p = none_parts is_quote b bytes h in
    after_step (at mode.Quoted r n t true) _ b (bytes ++ 34 ∷ next) (in_quotes_other (at mode.Quoted r n t true) b p.0)
    ∙ quotes_run r (number_after n b) (t ++ b ∷ []) bytes next p.1
    ∙ ap (λ (u : List ℕ). outcome (at mode.Word r (number_past (number_after n b) (bytes ++ 34 ∷ [])) u true) next) (append_assoc t (b ∷ []) bytes)

abbrev pub cut_at : Reader → Tokens
cut_at r = record { lines = r.spelled.lines; dropped = Some r.first }

pub open_quotes_run : (r : Reader) (n : ℕ) (t : List ℕ) (q : Bool) (bytes : List ℕ) → has_none is_quote bytes ≡ true
    → outcome (at mode.Quoted r n t q) bytes ≡ cut_at r
open_quotes_run r n t q [] h = refl
open_quotes_run r n t q (b ∷ bytes) h =
    let p = none_parts is_quote b bytes h in
    after_step (at mode.Quoted r n t q) _ b bytes (in_quotes_other (at mode.Quoted r n t q) b p.0)
    ∙ open_quotes_run r (number_after n b) (t ++ b ∷ []) q bytes p.1

-- ---- escapes

after_backslash_other : (r : Reader) (b : ℕ) → is_line_feed b ≡ false → eqb b 13 ≡ false → after_backslash r b ≡ with_byte r (escaped b)
after_backslash_other r b feed return = rw (feed, return) refl

after_return_other : (r : Reader) (b : ℕ) → is_line_feed b ≡ false → after_return r b ≡ in_word (with_byte r 13) b
after_return_other r b h = rw h refl

return_runs : (r : Reader) (n : ℕ) (t : List ℕ) (q : Bool) (next : List ℕ) → begins is_line_feed next ≡ false
    → outcome (at mode.BackslashReturn r n t q) next ≡ outcome (at mode.Word r n (t ++ 13 ∷ []) q) next
return_runs r n t q [] h = refl
return_runs r n t q (b ∷ next) h = after_step (at mode.BackslashReturn r n t q) _ b next (after_return_other (at mode.BackslashReturn r n t q) b h)

-- a carriage return behind a backslash
escaped_return : (r : Reader) (n : ℕ) (t : List ℕ) (q : Bool) (next : List ℕ) → begins is_line_feed next ≡ false
    → outcome (at mode.Word r n t q) (92 ∷ 13 ∷ next) ≡ outcome (at mode.Word r (number_past n (92 ∷ 13 ∷ [])) (t ++ 13 ∷ []) q) next
escaped_return r n t q next h = return_runs r (number_past n (92 ∷ 13 ∷ [])) t q next h

escape_runs : (r : Reader) (n : ℕ) (t : List ℕ) (q : Bool) (b : ℕ) (next : List ℕ) → PieceFits (escape b) next
    → outcome (at mode.Word r n t q) (92 ∷ b ∷ next) ≡ outcome (at mode.Word r (number_past n (92 ∷ b ∷ [])) (t ++ escaped b ∷ []) q) next
escape_runs r n t q b next h =
    let p = or_parts (is_line_feed b) (eqb b 13 && begins is_line_feed next) (not-true _ h) in
    elim (eqb b 13) as (λ v. eqb b 13 ≡ v → outcome (at mode.Word r n t q) (92 ∷ b ∷ next) ≡ outcome (at mode.Word r (number_past n (92 ∷ b ∷ [])) (t ++ escaped b ∷ []) q) next) [
      | true ↦ λ e.
          let is : 13 ≡ b = sym (eqb-true b 13 e) in
          let last : begins is_line_feed next ≡ false = rw e at p.1 in
          subst (λ (c : ℕ). outcome (at mode.Word r n t q) (92 ∷ c ∷ next) ≡ outcome (at mode.Word r (number_past n (92 ∷ c ∷ [])) (t ++ escaped c ∷ []) q) next) is (escaped_return r n t q next last)
      | false ↦ λ e.
          let b1 = at mode.Backslash r (number_after n 92) t q in
          after_step b1 _ b next (after_backslash_other b1 b p.0 e)
    ] refl

-- ---- folds

in_fold_space : (r : Reader) (b : ℕ) → is_space b ≡ true → in_fold r b ≡ r
in_fold_space r b h = rw h refl

in_fold_other : (r : Reader) (b : ℕ) → is_space b ≡ false → in_fold r b ≡ in_word (record r { mode = mode.Word }) b
in_fold_other r b h = rw h refl

spaces_run : (r : Reader) (n : ℕ) (t : List ℕ) (q : Bool) (spaces next : List ℕ) → list_all is_space spaces ≡ true
    → outcome (at mode.Folded r n t q) (spaces ++ next) ≡ outcome (at mode.Folded r (number_past n spaces) t q) next
spaces_run r n t q [] next h = refl
spaces_run r n t q (b ∷ spaces) next h =
    let p = and_parts (is_space b) (list_all is_space spaces) h in
    after_step (at mode.Folded r n t q) _ b (spaces ++ next) (in_fold_space (at mode.Folded r n t q) b p.0)
    ∙ spaces_run r (number_after n b) t q spaces next p.1

fold_ends : (r : Reader) (n : ℕ) (t : List ℕ) (q : Bool) (next : List ℕ) → begins is_space next ≡ false
    → outcome (at mode.Folded r n t q) next ≡ outcome (at mode.Word r n t q) next
fold_ends r n t q [] h = refl
fold_ends r n t q (b ∷ next) h = after_step (at mode.Folded r n t q) _ b next (in_fold_other (at mode.Folded r n t q) b h)

fold_runs : (r : Reader) (n : ℕ) (t : List ℕ) (q : Bool) (end : LineEnd) (spaces next : List ℕ) → PieceFits (folded end spaces) next
    → outcome (at mode.Word r n t q) (piece_bytes (folded end spaces) ++ next) ≡ outcome (at mode.Word r (number_past n (piece_bytes (folded end spaces))) t q) next
fold_runs r n t q bare spaces next h =
    let m = number_past n (92 ∷ 10 ∷ []) in
    spaces_run r m t q spaces next h.0 ∙ fold_ends r (number_past m spaces) t q next (not-true _ h.1)
fold_runs r n t q returned spaces next h =
    let m = number_past n (92 ∷ 13 ∷ 10 ∷ []) in
    spaces_run r m t q spaces next h.0 ∙ fold_ends r (number_past m spaces) t q next (not-true _ h.1)

-- ---- pieces

pub piece_runs : (p : Piece) (r : Reader) (n : ℕ) (t : List ℕ) (q : Bool) (next : List ℕ) → PieceFits p next
    → outcome (at mode.Word r n t q) (piece_bytes p ++ next) ≡ outcome (at mode.Word r (number_past n (piece_bytes p)) (t ++ spelled p) (is_quoted p || q)) next
piece_runs (plain b) r n t q next h = plain_runs r n t q b next h
piece_runs (quoted bytes) r n t q next h =
    ap (λ (u : List ℕ). outcome (at mode.Word r n t q) (34 ∷ u)) (append_assoc bytes (34 ∷ []) next)
    ∙ quotes_run r (number_after n 34) t bytes next h
piece_runs (escape b) r n t q next h = escape_runs r n t q b next h
piece_runs (folded end spaces) r n t q next h =
    fold_runs r n t q end spaces next h
    ∙ ap (λ (u : List ℕ). outcome (at mode.Word r (number_past n (piece_bytes (folded end spaces))) u q) next) (sym (append-nil t))

or_regroup : (x y q : Bool) → (y || (x || q)) ≡ ((x || y) || q)
or_regroup true true q = refl
or_regroup true false q = refl
or_regroup false true q = refl
or_regroup false false q = refl

pub pieces_run : (ps : List Piece) (r : Reader) (n : ℕ) (t : List ℕ) (q : Bool) (next : List ℕ) → PiecesFit ps next
    → outcome (at mode.Word r n t q) (pieces_bytes ps ++ next) ≡ outcome (at mode.Word r (number_past n (pieces_bytes ps)) (t ++ word_of ps) (list_any is_quoted ps || q)) next
pieces_run [] r n t q next h = ap (λ (u : List ℕ). outcome (at mode.Word r n u q) next) (sym (append-nil t))
pieces_run (p ∷ ps) r n t q next h =
    let m = number_past n (piece_bytes p) in
    ap (λ (u : List ℕ). outcome (at mode.Word r n t q) u) (append_assoc (piece_bytes p) (pieces_bytes ps) next)
    ∙ piece_runs p r n t q (pieces_bytes ps ++ next) h.0
    ∙ pieces_run ps r m (t ++ spelled p) (is_quoted p || q) next h.1
    ∙ ap (λ (u : ℕ). outcome (at mode.Word r u ((t ++ spelled p) ++ word_of ps) (list_any is_quoted ps || (is_quoted p || q))) next) (sym (number_past-append n (piece_bytes p) (pieces_bytes ps)))
    ∙ ap (λ (u : List ℕ). outcome (at mode.Word r (number_past n (pieces_bytes (p ∷ ps))) u (list_any is_quoted ps || (is_quoted p || q))) next) (append_assoc t (spelled p) (word_of ps))
    ∙ ap (λ (u : Bool). outcome (at mode.Word r (number_past n (pieces_bytes (p ∷ ps))) (t ++ word_of (p ∷ ps)) u) next) (or_regroup (is_quoted p) (list_any is_quoted ps) q)
