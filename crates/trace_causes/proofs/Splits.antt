-- The lines of a text are the parts of their text.
use Rattle.std.proofs.Common.{◌≡◌, ℕ, zero, suc, Bool, true, false, not, ◌==◌, cond, List, [], ◌∷◌, ◌++◌, take, refl, ap, ◌∙◌, append_assoc}
use Rattle.std.specs.List.{AllByRecursion, flat_map, list_all, onto_first, slice_split}
use Rattle.init_base.specs.Lines.{is_line_feed, lines_of}
use Rattle.trace_reader.proofs.Choices.{both}
use Rattle.trace_causes.specs.Lines.{front, with_end}

-- no LF stands in it
abbrev pub IsPlain : List ℕ → Type 0
IsPlain line = list_all (λ b. not (is_line_feed b)) line ≡ true

onto_plain : (b : ℕ) (lines : List (List ℕ)) → is_line_feed b ≡ false → AllByRecursion IsPlain lines → AllByRecursion IsPlain (onto_first b lines)
onto_plain b [] other h = (rw other refl, tt)
onto_plain b (line ∷ lines) other h = (rw other h.0, h.1)

byte_plain : (b : ℕ) (v : Bool) (lines : List (List ℕ)) → is_line_feed b ≡ v → AllByRecursion IsPlain lines
    → AllByRecursion IsPlain (cond v ([] ∷ lines) (onto_first b lines))
byte_plain b true lines is h = (refl, h)
byte_plain b false lines is h = onto_plain b lines is h

pub lines_plain : (text : List ℕ) → AllByRecursion IsPlain (lines_of text)
lines_plain [] = tt
lines_plain (b ∷ text) = byte_plain b (is_line_feed b) (lines_of text) refl (lines_plain text)

take_plain : (lines : List (List ℕ)) (k : ℕ) → AllByRecursion IsPlain lines → AllByRecursion IsPlain (take k lines)
take_plain [] zero h = tt
take_plain [] (suc k) h = tt
take_plain (line ∷ lines) zero h = tt
take_plain (line ∷ lines) (suc k) h = (h.0, take_plain lines k h.1)

is_false : (a : Bool) → not a ≡ true → a ≡ false
is_false true h = cc
is_false false h = refl

line_split : (line rest : List ℕ) → IsPlain line → slice_split is_line_feed (line ++ 10 ∷ rest) ≡ line ∷ slice_split is_line_feed rest
line_split [] rest h = refl
line_split (b ∷ line) rest h =
    let p = both (not (b == 10)) (list_all (λ b. not (is_line_feed b)) line) h in
    let inner : not (b == 10) ≡ true = p.0 in
    let other : (b == 10) ≡ false = is_false (b == 10) inner in
    rw other (ap (onto_first b) (line_split line rest p.1))

all_split : (lines : List (List ℕ)) (rest : List ℕ) → AllByRecursion IsPlain lines
    → slice_split is_line_feed (flat_map with_end lines ++ rest) ≡ lines ++ slice_split is_line_feed rest
all_split [] rest h = refl
all_split (line ∷ lines) rest h =
    ap (slice_split is_line_feed)
    (append_assoc (with_end line) (flat_map with_end lines) rest ∙ append_assoc line (10 ∷ []) (flat_map with_end lines ++ rest))
    ∙ line_split line (flat_map with_end lines ++ rest) h.0
    ∙ ap (λ parts. line ∷ parts) (all_split lines rest h.1)

pub front_split : (lines : List (List ℕ)) (k : ℕ) (rest : List ℕ) → AllByRecursion IsPlain lines
    → slice_split is_line_feed (front lines k ++ rest) ≡ take k lines ++ slice_split is_line_feed rest
front_split lines k rest h = all_split (take k lines) rest (take_plain lines k h)
