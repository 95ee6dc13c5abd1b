-- The numbers of the lines ascend.
use Rattle.std.proofs.Common.{◌≡◌, ℕ, ◌<◌, ◌≤◌, Bool, true, false, cond, if◌then◌else◌, Option, List, [], ◌∷◌, ◌++◌, map, refl, sym, ap, subst, ◌∙◌, append_assoc, arith}
use Rattle.std.proofs.lemmas.List.{append-nil}
use Rattle.std.proofs.lemmas.List.Sums.{sum_by-append}
use Rattle.std.specs.List.{AllByRecursion}
use Rattle.rc_tokens.specs.Grammar.{is_line_feed, Item, blank, line_end, comment, token, item_bytes, Ending, whole, open_quote, lone_backslash}
use Rattle.rc_tokens.specs.Lines.{Line, has_any, word_of, counts, line_number, all_but_last, Lines, Ascend, numbers}
use Rattle.rc_tokens.proofs.Stretches.{no_tokens, put_before, onto_first_line, ending_line, line_parts, with_words, last_number, kept_lines, dropped_line, lines_same, dropped_same}

abbrev kept_numbers : List Line → List ℕ
kept_numbers lines = map (λ line. line.number) (with_words lines)

abbrev Above : ℕ → List ℕ → Type 0
Above least more = AllByRecursion (λ other. least < other) more

above_less : (least number : ℕ) (more : List ℕ) → least ≤ number → Above number more → Above least more
above_less least number [] less above = tt
above_less least number (other ∷ more) less above = (omega (arith, above.0), above_less least number more less above.1)

-- the first line begins on this physical line or behind it, and the others behind it, each behind those before it
record Rising (least : ℕ) (lines : List Line) : Type 0 where
  pub first : Line
  pub rest : List Line
  pub is : lines ≡ first ∷ rest
  pub ascend : Ascend (kept_numbers rest)
  pub above : Above least (kept_numbers rest)
  pub front : has_any first.words ≡ true → (least ≤ first.number) × Above first.number (kept_numbers rest)

rising_less : (least number : ℕ) (lines : List Line) → least ≤ number → Rising number lines → Rising least lines
rising_less least number lines less r = record {
  first = r.first;
  rest = r.rest;
  is = r.is;
  ascend = r.ascend;
  above = above_less least number (kept_numbers r.rest) less r.above;
  front = λ any. (let f = r.front any in (omega (arith, f.0), f.1));
}

-- all of them
all_ascend : (b : Bool) (first : Line) (rest : List Line) (least : ℕ) → has_any first.words ≡ b → Ascend (kept_numbers rest) → Above least (kept_numbers rest)
    → (has_any first.words ≡ true → (least ≤ first.number) × Above first.number (kept_numbers rest))
    → Ascend (kept_numbers (first ∷ rest)) × ((less : ℕ) → less < least → Above less (kept_numbers (first ∷ rest)))
all_ascend true first rest least any ascend above front =
    let f = front any in
    rw any ((f.1, ascend), λ less h. (omega (arith, f.0), above_less less least (kept_numbers rest) (omega arith) above))
all_ascend false first rest least any ascend above front =
    rw any (ascend, λ less h. above_less less least (kept_numbers rest) (omega arith) above)

rising_all : (least : ℕ) (lines : List Line) → Rising least lines → Ascend (kept_numbers lines) × ((less : ℕ) → less < least → Above less (kept_numbers lines))
rising_all least lines r =
    subst (λ (u : List Line). Ascend (kept_numbers u) × ((less : ℕ) → less < least → Above less (kept_numbers u))) (sym r.is)
    (all_ascend (has_any r.first.words) r.first r.rest least refl r.ascend r.above r.front)

number_more : (before bytes : List ℕ) → line_number before ≤ line_number (before ++ bytes)
number_more before bytes = omega (arith, sum_by-append (λ b. cond (is_line_feed b) 1 0) before bytes)

number_next : (before : List ℕ) → line_number before < line_number (before ++ 10 ∷ [])
number_next before = omega (arith, sum_by-append (λ b. cond (is_line_feed b) 1 0) before (10 ∷ []))

rising_end : (before : List ℕ) (ending : Ending) → Rising (line_number before) (ending_line before ending ∷ [])
rising_end before whole = record { first = no_tokens; rest = []; is = refl; ascend = tt; above = tt; front = λ any. cc }
rising_end before (open_quote pieces run) =
    record { first = put_before (line_number before) [] no_tokens; rest = []; is = refl; ascend = tt; above = tt; front = λ any. (omega arith, tt) }
rising_end before (lone_backslash pieces) =
    record { first = put_before (line_number before) [] no_tokens; rest = []; is = refl; ascend = tt; above = tt; front = λ any. (omega arith, tt) }

rising_token : (v : Bool) (least number : ℕ) (word : List ℕ) (lines : List Line) → least ≤ number → Rising number lines
    → Rising least (if v then onto_first_line least word lines else lines)
rising_token false least number word lines less r = rising_less least number lines less r
rising_token true least number word lines less r = record {
  first = put_before least word r.first;
  rest = r.rest;
  is = ap (onto_first_line least word) r.is;
  ascend = r.ascend;
  above = above_less least number (kept_numbers r.rest) less r.above;
  front = λ any. (omega arith, above_less least number (kept_numbers r.rest) less r.above);
}

rising : (before : List ℕ) (items : List Item) (ending : Ending) → Rising (line_number before) (line_parts before items ending)
rising before [] ending = rising_end before ending
rising before (blank b ∷ items) ending =
    rising_less (line_number before) _ _ (number_more before (item_bytes (blank b))) (rising (before ++ item_bytes (blank b)) items ending)
rising before (line_end ∷ items) ending =
    let behind = before ++ item_bytes line_end in
    let all = rising_all (line_number behind) (line_parts behind items ending) (rising behind items ending) in
    record {
      first = no_tokens;
      rest = line_parts behind items ending;
      is = refl;
      ascend = all.0;
      above = all.1 (line_number before) (number_next before);
      front = λ any. cc;
    }
rising before (comment run ∷ items) ending =
    rising_less (line_number before) _ _ (number_more before (item_bytes (comment run))) (rising (before ++ item_bytes (comment run)) items ending)
rising before (token piece pieces ∷ items) ending =
    let behind = before ++ item_bytes (token piece pieces) in
    rising_token (counts (piece ∷ pieces)) (line_number before) (line_number behind) (word_of (piece ∷ pieces)) (line_parts behind items ending)
    (number_more before (item_bytes (token piece pieces))) (rising behind items ending)

-- ---- the line that is left out

abbrev last_has : List Line → Bool
last_has [] = false
last_has (line ∷ []) = has_any line.words
last_has (line ∷ next ∷ lines) = last_has (next ∷ lines)

abbrev is_cut : Ending → Bool
is_cut whole = false
is_cut (open_quote pieces run) = true
is_cut (lone_backslash pieces) = true

end_has : (before : List ℕ) (ending : Ending) → is_cut ending ≡ true → last_has (ending_line before ending ∷ []) ≡ true
end_has before whole cut = cc
end_has before (open_quote pieces run) cut = refl
end_has before (lone_backslash pieces) cut = refl

first_has : (number : ℕ) (word : List ℕ) (lines : List Line) → last_has lines ≡ true → last_has (onto_first_line number word lines) ≡ true
first_has number word [] has = refl
first_has number word (line ∷ []) has = refl
first_has number word (line ∷ next ∷ lines) has = has

token_has : (v : Bool) (number : ℕ) (word : List ℕ) (lines : List Line) → last_has lines ≡ true → last_has (if v then onto_first_line number word lines else lines) ≡ true
token_has true number word lines has = first_has number word lines has
token_has false number word lines has = has

behind_has : (line : Line) (lines : List Line) → last_has lines ≡ true → last_has (line ∷ lines) ≡ true
behind_has line [] has = cc
behind_has line (next ∷ lines) has = has

parts_have : (before : List ℕ) (items : List Item) (ending : Ending) → is_cut ending ≡ true → last_has (line_parts before items ending) ≡ true
parts_have before [] ending cut = end_has before ending cut
parts_have before (blank b ∷ items) ending cut = parts_have (before ++ item_bytes (blank b)) items ending cut
parts_have before (line_end ∷ items) ending cut =
    behind_has no_tokens (line_parts (before ++ item_bytes line_end) items ending) (parts_have (before ++ item_bytes line_end) items ending cut)
parts_have before (comment run ∷ items) ending cut = parts_have (before ++ item_bytes (comment run)) items ending cut
parts_have before (token piece pieces ∷ items) ending cut =
    token_has (counts (piece ∷ pieces)) (line_number before) (word_of (piece ∷ pieces)) (line_parts (before ++ item_bytes (token piece pieces)) items ending)
    (parts_have (before ++ item_bytes (token piece pieces)) items ending cut)

kept_front : (b : Bool) (line : Line) (lines : List Line) → has_any line.words ≡ b
    → kept_numbers (line ∷ lines) ≡ map (λ l. l.number) (cond b (line ∷ []) []) ++ kept_numbers lines
kept_front true line lines any = rw any refl
kept_front false line lines any = rw any refl

with_cut : (lines : List Line) → last_has lines ≡ true → kept_numbers (all_but_last lines) ++ last_number lines ∷ [] ≡ kept_numbers lines
with_cut [] has = cc
with_cut (line ∷ []) has = rw has refl
with_cut (line ∷ next ∷ lines) has =
    let front : List ℕ = map (λ l. l.number) (cond (has_any line.words) (line ∷ []) []) in
    ap (λ (u : List ℕ). u ++ last_number (next ∷ lines) ∷ []) (kept_front (has_any line.words) line (all_but_last (next ∷ lines)) refl)
    ∙ append_assoc front (kept_numbers (all_but_last (next ∷ lines))) (last_number (next ∷ lines) ∷ [])
    ∙ ap (λ (u : List ℕ). front ++ u) (with_cut (next ∷ lines) has)
    ∙ sym (kept_front (has_any line.words) line (next ∷ lines) refl)

parts_ascend : (items : List Item) (ending : Ending) → Ascend (kept_numbers (line_parts [] items ending))
parts_ascend items ending = (rising_all 1 (line_parts [] items ending) (rising [] items ending)).0

cut_ascend : (parts : List Line) → last_has parts ≡ true → Ascend (kept_numbers parts) → Ascend (kept_numbers (all_but_last parts) ++ last_number parts ∷ [])
cut_ascend parts has ascend = subst Ascend (sym (with_cut parts has)) ascend

ascend_of : (items : List Item) (ending : Ending) → Ascend (numbers (kept_lines (line_parts [] items ending) ending) (dropped_line (line_parts [] items ending) ending))
ascend_of items whole = subst Ascend (sym (append-nil (kept_numbers (line_parts [] items whole)))) (parts_ascend items whole)
ascend_of items (open_quote pieces run) =
    let ending : Ending = open_quote pieces run in
    cut_ascend (line_parts [] items ending) (parts_have [] items ending refl) (parts_ascend items ending)
ascend_of items (lone_backslash pieces) =
    let ending : Ending = lone_backslash pieces in
    cut_ascend (line_parts [] items ending) (parts_have [] items ending refl) (parts_ascend items ending)

-- the numbers of the lines of a text ascend, and that of the line that is left out is the greatest
pub lines_ascend : (bytes : List ℕ) (lines : List Line) (dropped : Option ℕ) → Lines bytes lines dropped → Ascend (numbers lines dropped)
lines_ascend bytes lines dropped spelled =
    subst (λ (u : List Line). Ascend (numbers u dropped)) (lines_same spelled.items spelled.ending ∙ sym spelled.lines_are)
    (subst (λ (d : Option ℕ). Ascend (numbers (kept_lines (line_parts [] spelled.items spelled.ending) spelled.ending) d))
    (dropped_same spelled.items spelled.ending ∙ sym spelled.dropped_is) (ascend_of spelled.items spelled.ending))
