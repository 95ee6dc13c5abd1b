-- The first word of a line, and what stands behind it.
use Rattle.std.proofs.Common.{◌≡◌, ℕ, suc, ◌+◌, ◌<◌, ◌≤◌, Bool, true, false, not, nat_lt, List, [], ◌∷◌, length, take, drop, get_or, filter, Some, None, unwrap_or, refl, sym, ap, ◌∙◌, arith, inl, inr, All, add-one, length-drop}
use Rattle.std.specs.List.{position, position_or_len, slice_split}
use Rattle.std.proofs.Math.Seq.{drop-cons, take-length}
use Rattle.std.proofs.Math.ListN.{drop_of_length-le}
use Rattle.std.proofs.lemmas.Bool.{cases_lt, not-true}
use Rattle.std.proofs.lemmas.Bool.Decides.{nat_tests}
use Rattle.std.proofs.lemmas.List.Elements.{All-from_get_or}
use Rattle.std.proofs.lemmas.List.Splits.{slice_split-cons_yes, slice_split_none, slice_split_first}
use Rattle.std.proofs.lemmas.List.Sums.{prefix_len-le-length, fails_before_first, passes_at_first}
use Rattle.script_lang.specs.Lines.{is_space, has_any, words_of}

-- a place as `position` has it

pub at_position : {X : Type 0} (p : X → Bool) (xs : List X) (k : ℕ) → position p xs ≡ Some k → (position_or_len p xs ≡ k) × (k < length xs)
at_position p xs k e = elim (cases_lt (position_or_len p xs) (length xs)) [
  | inl low ↦
      let test : nat_lt (position_or_len p xs) (length xs) ≡ true = grind (arith, nat_tests) in
      let is : Some (position_or_len p xs) ≡ Some k = sym (rw test refl) ∙ e in
      let same : position_or_len p xs ≡ k = cc in
      (same, omega arith)
  | inr high ↦
      let test : nat_lt (position_or_len p xs) (length xs) ≡ false = grind (arith, nat_tests) in
      let is : None ≡ Some k = sym (rw test refl) ∙ e in
      cc
]

pub nowhere : {X : Type 0} (p : X → Bool) (xs : List X) → position p xs ≡ None → length xs ≤ position_or_len p xs
nowhere p xs e = elim (cases_lt (position_or_len p xs) (length xs)) [
  | inl low ↦
      let test : nat_lt (position_or_len p xs) (length xs) ≡ true = grind (arith, nat_tests) in
      let is : Some (position_or_len p xs) ≡ None = sym (rw test refl) ∙ e in
      cc
  | inr high ↦ high
]

pub position_or_whole : {X : Type 0} (p : X → Bool) (xs : List X) → unwrap_or (position p xs) (length xs) ≡ position_or_len p xs
position_or_whole p xs = elim (cases_lt (position_or_len p xs) (length xs)) [
  | inl low ↦
      let test : nat_lt (position_or_len p xs) (length xs) ≡ true = grind (arith, nat_tests) in
      rw test refl
  | inr high ↦
      let test : nat_lt (position_or_len p xs) (length xs) ≡ false = grind (arith, nat_tests) in
      rw test (omega (arith, prefix_len-le-length (λ x. not (p x)) xs))
]

pub place_within : {X : Type 0} (p : X → Bool) (xs : List X) → position_or_len p xs ≤ length xs
place_within p xs = prefix_len-le-length (λ x. not (p x)) xs

-- spaces in front

words_behind_space : (b : ℕ) (line : List ℕ) → is_space b ≡ true → words_of (b ∷ line) ≡ words_of line
words_behind_space b line space = ap (filter has_any) (slice_split-cons_yes is_space b line space)

-- the place of the first byte that is no space
abbrev start_of : List ℕ → ℕ
start_of line = position_or_len (λ b. not (is_space b)) line

start_behind_space : (b : ℕ) (line : List ℕ) → is_space b ≡ true → start_of (b ∷ line) ≡ suc (start_of line)
start_behind_space b line space = rw space (omega arith)

start_at_word : (b : ℕ) (line : List ℕ) → is_space b ≡ false → start_of (b ∷ line) ≡ 0
start_at_word b line other = rw other refl

words_behind_spaces : (line : List ℕ) → words_of (drop (start_of line) line) ≡ words_of line
words_behind_spaces [] = refl
words_behind_spaces (b ∷ line) =
    elim (is_space b) as (λ t. is_space b ≡ t → words_of (drop (start_of (b ∷ line)) (b ∷ line)) ≡ words_of (b ∷ line)) [
      | true ↦ λ space.
          ap (λ n. words_of (drop n (b ∷ line))) (start_behind_space b line space) ∙ words_behind_spaces line ∙ sym (words_behind_space b line space)
      | false ↦ λ other. ap (λ n. words_of (drop n (b ∷ line))) (start_at_word b line other)
    ] refl

pub no_word : (line : List ℕ) → position (λ b. not (is_space b)) line ≡ None → words_of line ≡ []
no_word line none =
    sym (words_behind_spaces line) ∙ ap words_of (drop_of_length-le line (nowhere (λ b. not (is_space b)) line none))

-- a word in front

abbrev end_of : List ℕ → ℕ
end_of line = position_or_len is_space line

-- what stands behind it begins with a space
words_behind : (rest : List ℕ) → end_of rest < length rest → words_of (drop (end_of rest) rest) ≡ words_of (drop (end_of rest + 1) rest)
words_behind rest low =
    ap words_of (drop-cons rest (end_of rest) 0 low)
    ∙ words_behind_space (get_or rest (end_of rest) 0) (drop (suc (end_of rest)) rest) (passes_at_first is_space rest 0 low)
    ∙ ap (λ n. words_of (drop n rest)) (sym (add-one (end_of rest)))

end_of_word : (b : ℕ) (r : List ℕ) → is_space b ≡ false → end_of (b ∷ r) ≡ suc (end_of r)
end_of_word b r other = rw other (omega arith)

kept : (b : ℕ) (r : List ℕ) (parts : List (List ℕ)) → is_space b ≡ false
    → filter has_any (take (end_of (b ∷ r)) (b ∷ r) ∷ parts) ≡ take (end_of (b ∷ r)) (b ∷ r) ∷ filter has_any parts
kept b r parts other =
    ap (λ n. filter has_any (take n (b ∷ r) ∷ parts)) (end_of_word b r other)
    ∙ ap (λ n. take n (b ∷ r) ∷ filter has_any parts) (sym (end_of_word b r other))

word_in_front : (b : ℕ) (r : List ℕ) → is_space b ≡ false
    → words_of (b ∷ r) ≡ take (end_of (b ∷ r)) (b ∷ r) ∷ words_of (drop (end_of (b ∷ r)) (b ∷ r))
word_in_front b r other = elim (cases_lt (end_of (b ∷ r)) (length (b ∷ r))) [
  | inl low ↦
      ap (filter has_any) (slice_split_first is_space (b ∷ r) 0 low)
      ∙ kept b r (slice_split is_space (drop (end_of (b ∷ r) + 1) (b ∷ r))) other
      ∙ ap (λ ws. take (end_of (b ∷ r)) (b ∷ r) ∷ ws) (sym (words_behind (b ∷ r) low))
  | inr high ↦
      let none : All (λ x. is_space x ≡ false) (b ∷ r) =
      All-from_get_or (λ x. is_space x ≡ false) (b ∷ r) 0 (λ i low. fails_before_first is_space (b ∷ r) i 0 (omega arith)) in
      let whole : end_of (b ∷ r) ≡ length (b ∷ r) = omega (arith, prefix_len-le-length (λ x. not (is_space x)) (b ∷ r)) in
      ap (filter has_any) (slice_split_none is_space (b ∷ r) none)
      ∙ ap (λ w. w ∷ []) (sym (ap (λ n. take n (b ∷ r)) whole ∙ take-length (b ∷ r)))
      ∙ ap (λ ws. take (end_of (b ∷ r)) (b ∷ r) ∷ words_of ws) (sym (drop_of_length-le (b ∷ r) high))
]

pub first_word_is : (line : List ℕ) (start : ℕ) → position (λ b. not (is_space b)) line ≡ Some start
    → words_of line ≡ take (end_of (drop start line)) (drop start line) ∷ words_of (drop (end_of (drop start line)) (drop start line))
first_word_is line start e =
    let place = at_position (λ b. not (is_space b)) line start e in
    let low : start_of line < length line = omega (arith, place.0, place.1) in
    let other : is_space (get_or line (start_of line) 0) ≡ false = not-true _ (passes_at_first (λ b. not (is_space b)) line 0 low) in
    let cut : drop start line ≡ get_or line (start_of line) 0 ∷ drop (suc (start_of line)) line =
    ap (λ n. drop n line) (sym place.0) ∙ drop-cons line (start_of line) 0 low in
    sym (words_behind_spaces line) ∙ ap (λ n. words_of (drop n line)) place.0 ∙ ap words_of cut
    ∙ word_in_front (get_or line (start_of line) 0) (drop (suc (start_of line)) line) other
    ∙ ap (λ rest. take (end_of rest) rest ∷ words_of (drop (end_of rest) rest)) (sym cut)

pub word_cut : (line rest word behind : List ℕ) (start len : ℕ) → Some start ≡ position (λ b. not (is_space b)) line → rest ≡ drop start line
    → len ≡ position_or_len is_space rest → word ≡ take len rest → behind ≡ drop len rest → words_of line ≡ word ∷ words_of behind
word_cut line rest word behind start len found back stop front left =
    first_word_is line start (sym found)
    ∙ ap (λ r. take (end_of r) r ∷ words_of (drop (end_of r) r)) (sym back)
    ∙ ap (λ n. take n rest ∷ words_of (drop n rest)) (sym stop)
    ∙ ap (λ w. w ∷ words_of (drop len rest)) (sym front)
    ∙ ap (λ b. word ∷ words_of b) (sym left)

-- what stands behind the first word is shorter
pub word_shorter : (line rest behind : List ℕ) (start len : ℕ) → Some start ≡ position (λ b. not (is_space b)) line → rest ≡ drop start line
    → len ≡ position_or_len is_space rest → behind ≡ drop len rest → length behind < length line
word_shorter line rest behind start len found back stop left =
    let place = at_position (λ b. not (is_space b)) line start (sym found) in
    let low : position_or_len (λ b. not (is_space b)) line < length line = omega (arith, place.0, place.1) in
    let here : is_space (get_or line (position_or_len (λ b. not (is_space b)) line) 0) ≡ false = not-true _ (passes_at_first (λ b. not (is_space b)) line 0 low) in
    let other : is_space (get_or line start 0) ≡ false = sym (ap (λ n. is_space (get_or line n 0)) place.0) ∙ here in
    let cut : rest ≡ get_or line start 0 ∷ drop (suc start) line = back ∙ drop-cons line start 0 place.1 in
    let some : len ≡ suc (position_or_len is_space (drop (suc start) line)) =
    stop ∙ ap (position_or_len is_space) cut ∙ end_of_word (get_or line start 0) (drop (suc start) line) other in
    omega (arith, some, place.1, ap length left, length-drop len rest, ap length cut, length-drop (suc start) line)
