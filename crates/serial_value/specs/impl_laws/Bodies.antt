-- The body of a short cell and of a long one, and how a serial's top byte tells which it is.
use Rattle.std.proofs.Common.{◌≡◌, ◌≢◌, ℕ, suc, ◌+◌, ◌-◌, ◌/◌, ◌<◌, ◌≤◌, List, length, get_or, true, false, eqb, eq-eqb, ne_eqb, sym, ap, ◌∙◌, ⊎_elim, arith}
use mathlib.Core.Logic.{dite}
use native.Mathlib.Decide.{ℕ_discrete, dec_le}
use Rattle.std.specs.Prelude.{if◌then◌else◌}
use Rattle.std.proofs.Math.Dec.{leb}
use Rattle.std.proofs.lemmas.Bool.{cases_Bool, cond-true, cond-false, le-leb, lt-leb}
use Rattle.init_base.specs.Name.{is_read_only}
use Rattle.init_base.specs.Value.{max_value_len}
use Rattle.init_machine.specs.Serial.{top_byte, top_in, is_dirty}
use Rattle.init_machine.specs.Words.{cell_words}
use Rattle.serial_value.specs.Words.{text_word, words_of_len, body_size, body_word, long_word, HasWords}
use Rattle.serial_value.specs.Cell.{backup_place, words_place, copy_size}
use Rattle.serial_value.specs.impl_laws.Serials.{top_byte-short}

module _ (value : List ℕ) where
  pub short_size : length value ≤ 91 → body_size value ≡ 12
  unfolding body_size
  short_size short = cond-true (leb (length value) 91) 12 (1 + words_of_len (length value)) (le-leb (length value) 91 short)

  pub long_size : 91 < length value → body_size value ≡ 1 + words_of_len (length value)
  unfolding body_size
  long_size long = cond-false (leb (length value) 91) 12 (1 + words_of_len (length value)) (lt-leb (length value) 91 long)

  pub short_word : (k : ℕ) → length value ≤ 91 → body_word value k ≡ text_word value k
  unfolding body_word
  short_word k short = cond-true (leb (length value) 91) (text_word value k) (long_word value k) (le-leb (length value) 91 short)

  long_body : (k : ℕ) → 91 < length value → body_word value k ≡ long_word value k
  unfolding body_word
  long_body k long = cond-false (leb (length value) 91) (text_word value k) (long_word value k) (lt-leb (length value) 91 long)

  pub length_word : 91 < length value → body_word value 0 ≡ length value
  length_word long = long_body 0 long

  pub value_word_of : (k : ℕ) → 91 < length value → body_word value (k + 1) ≡ text_word value k
  value_word_of k long = ap (body_word value) (omega arith) ∙ long_body (suc k) long

  pub word_behind : (k : ℕ) → 0 < k → 91 < length value → body_word value k ≡ text_word value (k - 1)
  word_behind k some long = ap (body_word value) (omega arith) ∙ value_word_of (k - 1) long

  -- a cell is its serial and its body
  pub cell_words_body : cell_words (length value) ≡ 1 + body_size value
  cell_words_body = dite (dec_le (length value) 91)
      (λ short. let e = short_size short in cond-true (leb (length value) 91) 13 (2 + (length value + 7) / 8) (le-leb (length value) 91 short) ∙ omega arith)
      (λ not_short.
      let e = long_size (omega arith) in
      cond-false (leb (length value) 91) 13 (2 + (length value + 7) / 8) (lt-leb (length value) 91 (omega arith)) ∙ omega arith)

  -- each body has at least twelve words
  pub twelve : 12 ≤ body_size value
  twelve = dite (dec_le (length value) 91)
      (λ short. let e = short_size short in omega arith)
      (λ not_short. let e = long_size (omega arith) in omega arith)

  pub top_byte-long : 91 < length value → top_byte value ≡ 255
  top_byte-long long = cond-false (leb (length value) 91) (length value) 255 (lt-leb (length value) 91 long)

  pub long_by_top : top_byte value ≡ 255 → 91 < length value
  long_by_top top = dite (dec_le (length value) 91)
      (λ short. let e = top_byte-short value short in absurd (omega arith))
      (λ not_short. omega arith)

  pub short_by_top : top_byte value ≢ 255 → length value ≤ 91
  short_by_top top = dite (dec_le (length value) 91)
      (λ (short : length value ≤ 91). short)
      (λ not_short. absurd (top (top_byte-long (omega arith))))

  pub short_top : length value ≤ 91 → top_byte value ≢ 255
  short_top short top = let l = long_by_top top in omega arith

-- a value's body, for a search
pub ruleset body_words = (short_size, long_size, short_word, length_word, word_behind)

-- where the words of a read lie, and how many they are
pub place-long : (place first : ℕ) → top_in first ≡ 255 → words_place place first ≡ place + 1
place-long place first top = cond-true (eqb (top_in first) 255) (place + 1) (if is_dirty first then backup_place else (place + 1)) (eq-eqb (top_in first) 255 top)

pub place-short : (place first : ℕ) → top_in first ≢ 255 → words_place place first ≡ (if is_dirty first then backup_place else (place + 1))
place-short place first top = cond-false (eqb (top_in first) 255) (place + 1) (if is_dirty first then backup_place else (place + 1)) (ne_eqb (top_in first) 255 top)

pub place-clean : (place first : ℕ) → is_dirty first ≡ false → words_place place first ≡ place + 1
place-clean place first clean = dite (ℕ_discrete (top_in first) 255)
    (λ top. place-long place first top)
    (λ top. place-short place first top ∙ cond-false (is_dirty first) backup_place (place + 1) clean)

pub copy_size-long : (first : ℕ) (words : List ℕ) → top_in first ≡ 255 → copy_size first words ≡ 1 + words_of_len (get_or words 0 0)
copy_size-long first words top = cond-true (eqb (top_in first) 255) (1 + words_of_len (get_or words 0 0)) 12 (eq-eqb (top_in first) 255 top)

pub copy_size-short : (first : ℕ) (words : List ℕ) → top_in first ≢ 255 → copy_size first words ≡ 12
copy_size-short first words top = cond-false (eqb (top_in first) 255) (1 + words_of_len (get_or words 0 0)) 12 (ne_eqb (top_in first) 255 top)

-- the words that a read has copied, where the serial that it loaded is that of the value
module _ (first : ℕ) (words value : List ℕ) (top : top_in first ≡ top_byte value) where
  -- the next one is a word of the value's body
  pub next_in_body : HasWords words (length words) value → length words < copy_size first words → length words < body_size value
  next_in_body has less = dite (ℕ_discrete (top_in first) 255)
      (λ long.
      let l = long_by_top value (sym top ∙ long) in
      let size = long_size value l in
      let count = copy_size-long first words long in
      dite (ℕ_discrete (length words) 0)
      (λ none. let t = twelve value in omega arith)
      (λ some. let word = has 0 (omega arith) ∙ length_word value l in let same = ap words_of_len word in omega arith))
      (λ short.
      let size = short_size value (short_by_top value (λ e. short (top ∙ e))) in
      let count = copy_size-short first words short in
      omega arith)

  -- once there are as many as it copies, they are the whole body
  pub whole_body : HasWords words (length words) value → length words ≡ copy_size first words → length words ≡ body_size value
  whole_body has all = dite (ℕ_discrete (top_in first) 255)
      (λ long.
      let l = long_by_top value (sym top ∙ long) in
      let size = long_size value l in
      let count = copy_size-long first words long in
      let word = has 0 (omega arith) ∙ length_word value l in let same = ap words_of_len word in omega arith)
      (λ short.
      let size = short_size value (short_by_top value (λ e. short (top ∙ e))) in
      let count = copy_size-short first words short in
      omega arith)

-- each name's values may have 91 bytes
pub least_len : (name : List ℕ) → 91 ≤ max_value_len name
least_len name = ⊎_elim
    (λ (t : is_read_only name ≡ true). let e : max_value_len name ≡ 8191 = cond-true (is_read_only name) 8191 91 t in omega arith)
    (λ (t : is_read_only name ≡ false). let e : max_value_len name ≡ 91 = cond-false (is_read_only name) 8191 91 t in omega arith)
    (cases_Bool (is_read_only name))

pub most_len : (name : List ℕ) → max_value_len name ≤ 8191
most_len name = ⊎_elim
    (λ (t : is_read_only name ≡ true). let e : max_value_len name ≡ 8191 = cond-true (is_read_only name) 8191 91 t in omega arith)
    (λ (t : is_read_only name ≡ false). let e : max_value_len name ≡ 91 = cond-false (is_read_only name) 8191 91 t in omega arith)
    (cases_Bool (is_read_only name))
