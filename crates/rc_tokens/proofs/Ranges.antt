-- Ranges of a list that grows at its end.
use Rattle.std.proofs.Common.{◌≡◌, ℕ, suc, zero, ◌-◌, ◌≤◌, nat_le, Bool, true, List, [], ◌∷◌, ◌++◌, length, take, drop, refl, sym, ap, ◌∙◌, arith, length-append, length-drop, nat_eq}
use Rattle.std.proofs.lemmas.Bool.{and_parts, and_from, eqb-true, eq-eqb, leb-true, le-leb}
use Rattle.std.proofs.lemmas.List.{length-map, map-append, drop-append-le, take-append-le, drop_all, take_rest, take-map, drop-map}
use Rattle.std.proofs.lemmas.List.Folds.{list_all-append}
use Rattle.std.specs.List.{list_all}
use Rattle.rc_tokens.specs.Lines.{Line}
use Rattle.rc_tokens.specs.internal.Ranges.{part, words_at, lines_at, Spelling, spelling_of, is_within, AreWithin}
use Rattle.rc_tokens.specs.declared.range.Mark.{Mark}
use Rattle.rc_tokens.specs.declared.range.Range.{Range}

pub record Within (len : ℕ) (range : Range) : Type 0 where
  pub ordered : range.from ≤ range.to
  pub inside : range.to ≤ len

pub within_is : (len : ℕ) (range : Range) → is_within len range ≡ true → Within len range
within_is len range h =
    let p = and_parts (nat_le range.from range.to) (nat_le range.to len) h in
    record { ordered = leb-true _ _ p.0; inside = leb-true _ _ p.1 }

part_more : {A : Type 0} (xs more : List A) (range : Range) → is_within (length xs) range ≡ true → part (xs ++ more) range ≡ part xs range
part_more xs more range h =
    let w = within_is (length xs) range h in
    ap (take (range.to - range.from)) (drop-append-le range.from xs more (omega (arith, w.ordered, w.inside)))
    ∙ take-append-le (range.to - range.from) (drop range.from xs) more (omega (arith, w.ordered, w.inside, length-drop range.from xs))

words_more : (bytes more : List ℕ) (ranges : List Range) → list_all (is_within (length bytes)) ranges ≡ true → words_at (bytes ++ more) ranges ≡ words_at bytes ranges
words_more bytes more [] h = refl
words_more bytes more (range ∷ ranges) h =
    let p = and_parts (is_within (length bytes) range) (list_all (is_within (length bytes)) ranges) h in
    ap (λ (word : List ℕ). word ∷ words_at (bytes ++ more) ranges) (part_more bytes more range p.0)
    ∙ ap (λ (words : List (List ℕ)). part bytes range ∷ words) (words_more bytes more ranges p.1)

pub words_count : (bytes : List ℕ) (ranges : List Range) → length (words_at bytes ranges) ≡ length ranges
words_count bytes ranges = length-map ranges (λ range. part bytes range)

lines_more : (words more : List (List ℕ)) (marks : List Mark) → list_all (λ mark. is_within (length words) mark.words) marks ≡ true
    → lines_at (words ++ more) marks ≡ lines_at words marks
lines_more words more [] h = refl
lines_more words more (mark ∷ marks) h =
    let p = and_parts (is_within (length words) mark.words) (list_all (λ other. is_within (length words) other.words) marks) h in
    ap (λ (own : List (List ℕ)). record { number = mark.number; words = own } ∷ lines_at (words ++ more) marks) (part_more words more mark.words p.0)
    ∙ ap (λ (lines : List Line). record { number = mark.number; words = part words mark.words } ∷ lines) (lines_more words more marks p.1)

within_more : (len more : ℕ) (range : Range) → len ≤ more → is_within len range ≡ true → is_within more range ≡ true
within_more len more range less h =
    let w = within_is len range h in
    and_from (nat_le range.from range.to) (nat_le range.to more) (le-leb range.from range.to w.ordered) (le-leb range.to more (omega (arith, w.inside)))

all_within_more : (len more : ℕ) (ranges : List Range) → len ≤ more → list_all (is_within len) ranges ≡ true → list_all (is_within more) ranges ≡ true
all_within_more len more [] less h = refl
all_within_more len more (range ∷ ranges) less h =
    let p = and_parts (is_within len range) (list_all (is_within len) ranges) h in
    and_from (is_within more range) (list_all (is_within more) ranges) (within_more len more range less p.0) (all_within_more len more ranges less p.1)

marks_within_more : (len more : ℕ) (marks : List Mark) → len ≤ more
    → list_all (λ mark. is_within len mark.words) marks ≡ true → list_all (λ mark. is_within more mark.words) marks ≡ true
marks_within_more len more [] less h = refl
marks_within_more len more (mark ∷ marks) less h =
    let p = and_parts (is_within len mark.words) (list_all (λ other. is_within len other.words) marks) h in
    and_from (is_within more mark.words) (list_all (λ other. is_within more other.words) marks) (within_more len more mark.words less p.0) (marks_within_more len more marks less p.1)

one_more : {A : Type 0} (test : A → Bool) (xs : List A) (x : A) → list_all test xs ≡ true → test x ≡ true → list_all test (xs ++ x ∷ []) ≡ true
one_more test xs x all one = list_all-append test xs (x ∷ []) ∙ and_from (list_all test xs) (list_all test (x ∷ [])) all (and_from (test x) true one refl)

-- nothing is left exactly where the place is the end
pub none_behind : {A : Type 0} (xs rest : List A) (from len : ℕ) → from ≤ length xs → len ≡ length xs → rest ≡ drop from xs
    → (nat_eq from len ≡ true → rest ≡ []) × (rest ≡ [] → nat_eq from len ≡ true)
none_behind xs rest from len inside is same = (
  λ e. same ∙ drop_all from xs (omega (arith, eqb-true from len e)),
  λ none. eq-eqb from len (omega (arith, length-drop from xs, ap length (sym same ∙ none))),
)

-- ---- bytes more

pub bytes_spelled : (bytes : List ℕ) (token_from : ℕ) (words : List Range) (line_from : ℕ) (lines : List Mark) (more : List ℕ) (old : Spelling)
    → spelling_of bytes token_from words line_from lines ≡ old → AreWithin bytes token_from words line_from lines
    → spelling_of (bytes ++ more) token_from words line_from lines ≡ record old { token = old.token ++ more }
bytes_spelled bytes token_from words line_from lines more old is within =
    let same : words_at (bytes ++ more) words ≡ words_at bytes words = words_more bytes more words within.words_within in
    let token : drop token_from (bytes ++ more) ≡ drop token_from bytes ++ more = drop-append-le token_from bytes more within.token_within in
    let new : spelling_of (bytes ++ more) token_from words line_from lines
    ≡ record (spelling_of bytes token_from words line_from lines) { token = drop token_from bytes ++ more }
    = λ i. record { lines = lines_at (same i) lines; words = drop line_from (same i); token = token i } in
    new ∙ ap (λ (s : Spelling). record s { token = s.token ++ more }) is

pub bytes_within : (bytes : List ℕ) (token_from : ℕ) (words : List Range) (line_from : ℕ) (lines : List Mark) (more : List ℕ)
    → AreWithin bytes token_from words line_from lines → AreWithin (bytes ++ more) token_from words line_from lines
bytes_within bytes token_from words line_from lines more within =
    let longer : length bytes ≤ length (bytes ++ more) = omega (arith, length-append bytes more) in
    record {
      words_within = all_within_more (length bytes) (length (bytes ++ more)) words longer within.words_within;
      token_within = omega (arith, longer, within.token_within);
      lines_within = within.lines_within;
      line_within = within.line_within;
    }

-- ---- a word more

pub word_spelled : (bytes : List ℕ) (token_from : ℕ) (words : List Range) (line_from : ℕ) (lines : List Mark) (to : ℕ) (old : Spelling)
    → spelling_of bytes token_from words line_from lines ≡ old → AreWithin bytes token_from words line_from lines → to ≡ length bytes
    → spelling_of bytes to (words ++ record { from = token_from; to = to } ∷ []) line_from lines ≡ record old { words = old.words ++ old.token ∷ []; token = [] }
word_spelled bytes token_from words line_from lines to old is within end =
    let range : Range = record { from = token_from; to = to } in
    let word : part bytes range ≡ drop token_from bytes =
    ap (λ (n : ℕ). take (n - token_from) (drop token_from bytes)) end ∙ take_rest bytes token_from in
    let all : words_at bytes (words ++ range ∷ []) ≡ words_at bytes words ++ drop token_from bytes ∷ [] =
    map-append (λ r. part bytes r) words (range ∷ []) ∙ ap (λ (w : List ℕ). words_at bytes words ++ w ∷ []) word in
    let count = words_count bytes words in
    let lines_same : lines_at (words_at bytes words ++ drop token_from bytes ∷ []) lines ≡ lines_at (words_at bytes words) lines =
    lines_more (words_at bytes words) (drop token_from bytes ∷ []) lines
    (ap (λ (n : ℕ). list_all (λ mark. is_within n mark.words) lines) count ∙ within.lines_within) in
    let words_same : drop line_from (words_at bytes words ++ drop token_from bytes ∷ []) ≡ drop line_from (words_at bytes words) ++ drop token_from bytes ∷ [] =
    drop-append-le line_from (words_at bytes words) (drop token_from bytes ∷ []) (omega (arith, count, within.line_within)) in
    let none : drop to bytes ≡ [] = drop_all to bytes (omega arith) in
    let new : spelling_of bytes to (words ++ range ∷ []) line_from lines
    ≡ record (spelling_of bytes token_from words line_from lines) { words = drop line_from (words_at bytes words) ++ drop token_from bytes ∷ []; token = [] }
    = λ i. record {
      lines = (ap (λ (all_words : List (List ℕ)). lines_at all_words lines) all ∙ lines_same) i;
      words = (ap (drop line_from) all ∙ words_same) i;
      token = none i;
    } in
    new ∙ ap (λ (s : Spelling). record s { words = s.words ++ s.token ∷ []; token = [] }) is

pub word_within : (bytes : List ℕ) (token_from : ℕ) (words : List Range) (line_from : ℕ) (lines : List Mark) (to : ℕ)
    → AreWithin bytes token_from words line_from lines → to ≡ length bytes → AreWithin bytes to (words ++ record { from = token_from; to = to } ∷ []) line_from lines
word_within bytes token_from words line_from lines to within end =
    let range : Range = record { from = token_from; to = to } in
    let longer : length words ≤ length (words ++ range ∷ []) = omega (arith, length-append words (range ∷ [])) in
    record {
      words_within = one_more (is_within (length bytes)) words range within.words_within
          (and_from (nat_le token_from to) (nat_le to (length bytes)) (le-leb token_from to (omega (arith, within.token_within))) (le-leb to (length bytes) (omega arith)));
      token_within = omega arith;
      lines_within = marks_within_more (length words) (length (words ++ range ∷ [])) lines longer within.lines_within;
      line_within = omega (arith, longer, within.line_within);
    }

-- ---- the words of a range

all_take : {A : Type 0} (test : A → Bool) (n : ℕ) (xs : List A) → list_all test xs ≡ true → list_all test (take n xs) ≡ true
all_take test zero xs h = refl
all_take test (suc n) [] h = refl
all_take test (suc n) (x ∷ xs) h =
    let p = and_parts (test x) (list_all test xs) h in
    and_from (test x) (list_all test (take n xs)) p.0 (all_take test n xs p.1)

all_drop : {A : Type 0} (test : A → Bool) (n : ℕ) (xs : List A) → list_all test xs ≡ true → list_all test (drop n xs) ≡ true
all_drop test zero xs h = h
all_drop test (suc n) [] h = refl
all_drop test (suc n) (x ∷ xs) h = all_drop test n xs (and_parts (test x) (list_all test xs) h).1

pub part_all : {A : Type 0} (test : A → Bool) (xs : List A) (range : Range) → list_all test xs ≡ true → list_all test (part xs range) ≡ true
part_all test xs range h = all_take test (range.to - range.from) (drop range.from xs) (all_drop test range.from xs h)

pub words_of_part : (bytes : List ℕ) (ranges : List Range) (range : Range) → words_at bytes (part ranges range) ≡ part (words_at bytes ranges) range
words_of_part bytes ranges range =
    sym (take-map (λ r. part bytes r) (range.to - range.from) (drop range.from ranges))
    ∙ ap (take (range.to - range.from)) (sym (drop-map (λ r. part bytes r) range.from ranges))

-- the first line, by the ranges of its words
pub first_line : (bytes : List ℕ) (words : List Range) (marks behind : List Mark) (mark : Mark) (whole : List Line)
    → lines_at (words_at bytes words) marks ≡ whole → marks ≡ mark ∷ behind
    → whole ≡ record { number = mark.number; words = words_at bytes (part words mark.words) } ∷ lines_at (words_at bytes words) behind
first_line bytes words marks behind mark whole is front =
    sym is ∙ ap (lines_at (words_at bytes words)) front
    ∙ ap (λ (own : List (List ℕ)). record { number = mark.number; words = own } ∷ lines_at (words_at bytes words) behind) (sym (words_of_part bytes words mark.words))
