-- A run of bytes that mean nothing of their own is taken as its bytes are, one by one.
use Rattle.std.proofs.Common.{◌≡◌, ℕ, ◌+◌, ◌≤◌, true, false, not, ◌||◌, cond, List, [], ◌∷◌, ◌++◌, ◌⊎◌, inl, inr, length, take, drop, refl, sym, ap, subst, ◌∙◌, append_assoc, add-zero, zero-add, arith}
use Rattle.std.proofs.Math.Numerals.{one-add}
use Rattle.std.proofs.lemmas.Bool.{not-true, not-false, or_parts}
use Rattle.std.proofs.lemmas.List.{append-nil}
use Rattle.std.proofs.lemmas.List.Sums.{count_by-le-length, sum_by-append}
use Rattle.std.specs.List.{count_by, position_or_len}
use Rattle.rc_tokens.specs.Grammar.{is_blank, is_line_feed, is_quote, is_plain, is_hash, begins}
use Rattle.rc_tokens.specs.internal.Steps.{run, step, number_after, ends_run, with_run, begins_token, between, begun_token, in_word}
use Rattle.rc_tokens.specs.declared.reader.Mode.{Mode}
use Rattle.rc_tokens.specs.declared.reader.Mode.TheVariants as mode
use Rattle.rc_tokens.specs.declared.reader.Reader.{Reader}
use Rattle.rc_tokens.proofs.Bytes.{plain_facts, feed_is}
use Rattle.rc_tokens.proofs.Pieces.{in_word_plain}

abbrev in_mode : Mode → Reader → Reader
in_mode m r = record r { mode = m }

-- ---- one byte

blank_no_feed : (b : ℕ) → is_blank b ≡ true → is_line_feed b ≡ false
blank_no_feed b blank =
    elim (is_line_feed b) as (λ t. is_line_feed b ≡ t → t ≡ false) [
      | true ↦ λ feed. (let P : ℕ → Type 0 = λ c. is_blank c ≡ true in let never : is_blank 10 ≡ true = subst P (feed_is b feed) blank in cc)
      | false ↦ λ no_feed. refl
    ] refl

no_feed_number : (n b : ℕ) → is_line_feed b ≡ false → number_after n b ≡ n
no_feed_number n b no_feed = rw no_feed (add-zero n)

between_step : (r : Reader) (b : ℕ) → is_blank b ≡ true → step (in_mode mode.Between r) b ≡ in_mode mode.Between r
between_step r b blank =
    (rw blank refl)
    ∙ ap (λ (n : ℕ). record r { number = n; mode = mode.Between }) (no_feed_number r.number b (blank_no_feed b blank))

comment_step : (r : Reader) (b : ℕ) → is_line_feed b ≡ false → step (in_mode mode.Comment r) b ≡ in_mode mode.Comment r
comment_step r b no_feed = rw no_feed (ap (λ (n : ℕ). record r { number = n; mode = mode.Comment }) (add-zero r.number))

word_step : (r : Reader) (b : ℕ) → is_plain b ≡ true → step (in_mode mode.Word r) b ≡ in_mode mode.Word (with_run mode.Word r (b ∷ []))
word_step r b plain =
    ap (λ (s : Reader). record s { number = number_after r.number b }) (in_word_plain (in_mode mode.Word r) b plain)
    ∙ ap (λ (n : ℕ). record (with_run mode.Word r (b ∷ [])) { number = n; mode = mode.Word }) (no_feed_number r.number b (plain_facts b plain).no_feed)

quoted_step : (r : Reader) (b : ℕ) → is_quote b ≡ false → step (in_mode mode.Quoted r) b ≡ in_mode mode.Quoted (with_run mode.Quoted r (b ∷ []))
quoted_step r b no_quote =
    let quoted : List ℕ → ℕ → Reader = λ t n. record r { spelled = record r.spelled { token = t }; number = n; mode = mode.Quoted } in
    let stepped : step (in_mode mode.Quoted r) b ≡ quoted (r.spelled.token ++ b ∷ []) (number_after r.number b) = rw no_quote refl in
    stepped ∙ ap (λ (feeds : ℕ). quoted (r.spelled.token ++ b ∷ []) (r.number + feeds)) (sym (zero-add (cond (is_line_feed b) 1 0)))

one_step : (m : Mode) (r : Reader) (b : ℕ) → ends_run m b ≡ false → step (in_mode m r) b ≡ in_mode m (with_run m r (b ∷ []))
one_step mode.Between r b goes_on = between_step r b (not-false _ goes_on)
one_step mode.Comment r b goes_on = comment_step r b goes_on
one_step mode.Word r b goes_on = word_step r b (not-false _ goes_on)
one_step mode.Quoted r b goes_on = quoted_step r b goes_on
one_step mode.Backslash r b goes_on = cc
one_step mode.BackslashReturn r b goes_on = cc
one_step mode.Folded r b goes_on = cc

-- ---- a run

none_added : (m : Mode) (r : Reader) → with_run m r [] ≡ r
none_added mode.Between r = refl
none_added mode.Comment r = refl
none_added mode.Word r = ap (λ (t : List ℕ). record r { spelled = record r.spelled { token = t } }) (append-nil r.spelled.token)
none_added mode.Quoted r =
    λ i. record r { spelled = record r.spelled { token = append-nil r.spelled.token i }; number = add-zero r.number i }
none_added mode.Backslash r = refl
none_added mode.BackslashReturn r = refl
none_added mode.Folded r = refl

more_added : (m : Mode) (r : Reader) (b : ℕ) (more : List ℕ) → with_run m (with_run m r (b ∷ [])) more ≡ with_run m r (b ∷ more)
more_added mode.Between r b more = refl
more_added mode.Comment r b more = refl
more_added mode.Word r b more = ap (λ (t : List ℕ). record r { spelled = record r.spelled { token = t } }) (append_assoc r.spelled.token (b ∷ []) more)
more_added mode.Quoted r b more =
    let feeds : (r.number + count_by is_line_feed (b ∷ [])) + count_by is_line_feed more ≡ r.number + count_by is_line_feed (b ∷ more) =
    omega (arith, sum_by-append (λ c. cond (is_line_feed c) 1 0) (b ∷ []) more) in
    λ i. record r { spelled = record r.spelled { token = append_assoc r.spelled.token (b ∷ []) more i }; number = feeds i }
more_added mode.Backslash r b more = refl
more_added mode.BackslashReturn r b more = refl
more_added mode.Folded r b more = refl

-- what is read where so many bytes are taken as a run
abbrev run_first : Mode → Reader → List ℕ → ℕ → Reader
run_first m r bytes n = run (in_mode m (with_run m r (take n bytes))) (drop n bytes)

run_taken : (m : Mode) (bytes : List ℕ) (r : Reader) → run_first m r bytes (position_or_len (ends_run m) bytes) ≡ run (in_mode m r) bytes
run_taken m [] r = ap (in_mode m) (none_added m r)
run_taken m (b ∷ rest) r =
    let n : ℕ = position_or_len (ends_run m) rest in
    elim (ends_run m b) as (λ t. ends_run m b ≡ t → run_first m r (b ∷ rest) (cond (not t) (1 + n) 0) ≡ run (in_mode m r) (b ∷ rest)) [
      | true ↦ λ ends. ap (λ (s : Reader). run (in_mode m s) (b ∷ rest)) (none_added m r)
      | false ↦ λ goes_on.
          ap (run_first m r (b ∷ rest)) (one-add n)
          ∙ ap (λ (s : Reader). run (in_mode m s) (drop n rest)) (sym (more_added m r b (take n rest)))
          ∙ run_taken m rest (with_run m r (b ∷ []))
          ∙ ap (λ (s : Reader). run s rest) (sym (one_step m r b goes_on))
    ] refl

run_number : (m : Mode) (r : Reader) (bytes : List ℕ) → (with_run m r bytes).number ≤ r.number + length bytes
run_number mode.Between r bytes = omega arith
run_number mode.Comment r bytes = omega arith
run_number mode.Word r bytes = omega arith
run_number mode.Quoted r bytes = omega (arith, count_by-le-length is_line_feed bytes)
run_number mode.Backslash r bytes = omega arith
run_number mode.BackslashReturn r bytes = omega arith
run_number mode.Folded r bytes = omega arith

keeps_mode : (m : Mode) (r : Reader) (bytes : List ℕ) → in_mode r.mode (with_run m r bytes) ≡ with_run m r bytes
keeps_mode mode.Between r bytes = refl
keeps_mode mode.Comment r bytes = refl
keeps_mode mode.Word r bytes = refl
keeps_mode mode.Quoted r bytes = refl
keeps_mode mode.Backslash r bytes = refl
keeps_mode mode.BackslashReturn r bytes = refl
keeps_mode mode.Folded r bytes = refl

-- a reader after a run, and what stands behind it
pub record RunTaken (r after : Reader) (bytes behind : List ℕ) : Type 0 where
  pub same : run after behind ≡ run r bytes
  pub number : after.number + length behind ≤ r.number + length bytes
  pub fewer : length behind ≤ length bytes

pub after_run : (r after : Reader) (bytes front behind : List ℕ) (n : ℕ) → n ≡ position_or_len (ends_run r.mode) bytes
    → front ≡ take n bytes → behind ≡ drop n bytes → length front + length behind ≡ length bytes → after ≡ with_run r.mode r front
    → RunTaken r after bytes behind
after_run r after bytes front behind n n_is front_is behind_is lengths after_is = record {
  same =
      ap (λ (s : Reader). run s behind) after_is
      ∙ ap (λ (s : Reader). run s behind) (sym (keeps_mode r.mode r front))
      ∙ ap (λ (xs : List ℕ). run (in_mode r.mode (with_run r.mode r xs)) behind) front_is
      ∙ ap (λ (xs : List ℕ). run (in_mode r.mode (with_run r.mode r (take n bytes))) xs) behind_is
      ∙ ap (run_first r.mode r bytes) n_is
      ∙ run_taken r.mode bytes r;
  number = omega (arith, ap (λ (s : Reader). s.number) after_is, run_number r.mode r front, lengths);
  fewer = omega (arith, lengths);
}

-- ---- modes in which no byte begins a run

each_ends : (bytes : List ℕ) → 0 ≡ position_or_len (λ (b : ℕ). true) bytes
each_ends [] = refl
each_ends (b ∷ bytes) = refl

pub no_run : (m : Mode) (bytes : List ℕ) → (m ≡ mode.Backslash) ⊎ ((m ≡ mode.BackslashReturn) ⊎ (m ≡ mode.Folded)) → 0 ≡ position_or_len (ends_run m) bytes
no_run m bytes is =
    let in_that : (other : Mode) → m ≡ other → position_or_len (ends_run other) bytes ≡ position_or_len (ends_run m) bytes =
    λ other same. ap (λ (n : Mode). position_or_len (ends_run n) bytes) (sym same) in
    elim is [
      | inl same ↦ each_ends bytes ∙ in_that mode.Backslash same
      | inr others ↦ elim others [
        | inl same ↦ each_ends bytes ∙ in_that mode.BackslashReturn same
        | inr same ↦ each_ends bytes ∙ in_that mode.Folded same
      ]
    ]

-- ---- a run and the byte behind it

feed_number : (n b : ℕ) → number_after n b ≤ n + 1
feed_number n b = elim (is_line_feed b) as (λ t. n + cond t 1 0 ≤ n + 1) [ true ↦ omega arith | false ↦ omega arith ]

pub then_byte : (r after last : Reader) (bytes behind rest : List ℕ) (b : ℕ) → RunTaken r after bytes behind
    → behind ≡ b ∷ rest → last ≡ step after b → RunTaken r last bytes rest
then_byte r after last bytes behind rest b taken behind_is last_is = record {
  same = ap (λ (s : Reader). run s rest) last_is ∙ ap (run after) (sym behind_is) ∙ taken.same;
  number = omega (arith, ap (λ (s : Reader). s.number) last_is, feed_number after.number b, ap length behind_is, taken.number);
  fewer = omega (arith, ap length behind_is, taken.fewer);
}

-- ---- a token that begins

pub blanks_passed : (r : Reader) (bytes rest : List ℕ) → r.mode ≡ mode.Between
    → rest ≡ drop (position_or_len (λ b. not (is_blank b)) bytes) bytes → run r rest ≡ run r bytes
blanks_passed r bytes rest is rest_is =
    ap (λ (m : Mode). run (in_mode m r) rest) is ∙ ap (run (in_mode mode.Between r)) rest_is ∙ run_taken mode.Between bytes r
    ∙ sym (ap (λ (m : Mode). run (in_mode m r) bytes) is)

between_begins : (r : Reader) (b : ℕ) → begins_token b ≡ true → between r b ≡ in_word (begun_token r) b
between_begins r b begun =
    let none = not-true (is_blank b || is_line_feed b || is_hash b) begun in
    let p = or_parts (is_blank b || is_line_feed b) (is_hash b) none in
    let q = or_parts (is_blank b) (is_line_feed b) p.0 in
    rw (q.0, q.1, p.1) refl

pub token_begun : (r : Reader) (rest : List ℕ) → r.mode ≡ mode.Between → begins begins_token rest ≡ true → run (begun_token r) rest ≡ run r rest
token_begun r [] is begun = cc
token_begun r (b ∷ rest) is begun =
    sym (ap (λ (m : Mode). run (in_mode m r) (b ∷ rest)) is
    ∙ ap (λ (s : Reader). run (record s { number = number_after r.number b }) rest) (between_begins (in_mode mode.Between r) b begun))
