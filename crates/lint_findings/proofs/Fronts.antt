-- Fronts of bytes that are a baseline's text.
use Rattle.std.proofs.Common.{◌≡◌, ℕ, ◌+◌, ◌≤◌, Bool, true, false, ◌&&◌, inr, List, [], ◌∷◌, ◌++◌, length, length-append, append_assoc, append-nil, refl, ap, sym, ◌∙◌, IsTrue, codes, take, drop, arith}
use Rattle.std.specs.List.{flat_map, list_all}
use Rattle.std.proofs.lemmas.Bool.{false≢true, and_parts}
use Rattle.std.specs.Str.{bytes_eq}
use Rattle.std.specs.Cmp.Lexicographic.{same_text}
use Rattle.std.proofs.lemmas.List.{take-append-drop}
use Rattle.std.proofs.lemmas.Grind.{flat_map-append}
use Rattle.std.proofs.lemmas.List.Folds.{list_all-append}
use Rattle.lint_findings.specs.Baseline.{BeginsWithNext, IsUnfitAt, are_rows, ascend, baseline_text, ended, is_row, lacks}
use Rattle.lint_findings.specs.internal.Rows.{TakesRow}
use Rattle.lint_findings.proofs.Cuts.{same_cut, has_it}

pub join : (a b : Bool) → a ≡ true → b ≡ true → (a && b) ≡ true
join true b h i = i
join false b h i = h

-- the text of these lines was read, and these bytes are left
pub record HasRead (bytes : List ℕ) (rows : List (List ℕ)) (rest : List ℕ) : Type 0 where
  pub rows_are : IsTrue (are_rows rows)
  pub text : bytes ≡ baseline_text rows ++ rest

pub head_read : (bytes rest : List ℕ) → bytes_eq (take 19 bytes) (ended (codes "rc-lint baseline 1")) ≡ true → rest ≡ drop 19 bytes → bytes ≡ baseline_text [] ++ rest
head_read bytes rest same is =
    sym (take-append-drop 19 bytes)
    ∙ ap (λ t. t ++ drop 19 bytes) (same_text (take 19 bytes) (ended (codes "rc-lint baseline 1")) (sym same))
    ∙ ap (λ r. ended (codes "rc-lint baseline 1") ++ r) (sym is)

-- ---- one line more

pub last_row : (rows : List (List ℕ)) (row : List ℕ) → IsTrue (are_rows (rows ++ row ∷ [])) → IsTrue (is_row row)
last_row rows row h =
    let all = (and_parts (list_all is_row (rows ++ row ∷ [])) (ascend (rows ++ row ∷ [])) h).0 in
    (and_parts (is_row row) true (and_parts (list_all is_row rows) (is_row row && true) (sym (list_all-append is_row rows (row ∷ [])) ∙ all)).1).0

pub ascends : (rows : List (List ℕ)) → IsTrue (are_rows rows) → IsTrue (ascend rows)
ascends rows h = (and_parts (list_all is_row rows) (ascend rows) h).1

rows_more : (rows : List (List ℕ)) (row : List ℕ) → IsTrue (are_rows rows) → IsTrue (is_row row) → IsTrue (ascend (rows ++ row ∷ [])) → IsTrue (are_rows (rows ++ row ∷ []))
rows_more rows row h i up =
    join (list_all is_row (rows ++ row ∷ [])) (ascend (rows ++ row ∷ []))
    (list_all-append is_row rows (row ∷ []) ∙ join (list_all is_row rows) (is_row row && true) (and_parts (list_all is_row rows) (ascend rows) h).0 (join (is_row row) true i refl))
    up

text_more : (rows : List (List ℕ)) (row : List ℕ) → baseline_text (rows ++ row ∷ []) ≡ baseline_text rows ++ ended row
text_more rows row =
    ap (λ t. ended (codes "rc-lint baseline 1") ++ t) (flat_map-append ended rows (row ∷ []) ∙ ap (λ t. flat_map ended rows ++ t) (append-nil (ended row)))
    ∙ sym (append_assoc (ended (codes "rc-lint baseline 1")) (flat_map ended rows) (ended row))

pub row_taken : (old new : List (List ℕ)) (line bytes behind : List ℕ) → IsTrue (are_rows old) → new ≡ old ++ line ∷ [] → bytes ≡ line ++ 10 ∷ behind → IsTrue (is_row line)
    → IsTrue (ascend (old ++ line ∷ [])) → TakesRow old new bytes behind
row_taken old new line bytes behind rows more is one up = record {
  row = line;
  more = more;
  rows_are = ap are_rows more ∙ rows_more old line rows one up;
  line = is ∙ sym (append_assoc line (10 ∷ []) behind);
}

pub read_more : (bytes : List ℕ) (old new : List (List ℕ)) (rest behind : List ℕ) → HasRead bytes old rest → TakesRow old new rest behind → HasRead bytes new behind
read_more bytes old new rest behind read taken = record {
  rows_are = taken.rows_are;
  text =
      read.text
      ∙ ap (λ t. baseline_text old ++ t) taken.line
      ∙ sym (append_assoc (baseline_text old) (ended taken.row) behind)
      ∙ ap (λ t. t ++ behind) (sym (ap baseline_text taken.more ∙ text_more old taken.row));
}

-- ---- lines that can't follow

pub bad_line : (bytes : List ℕ) (rows : List (List ℕ)) (rest : List ℕ) (line : ℕ) → HasRead bytes rows rest → (rest ≡ [] → ⊥) → (BeginsWithNext rows rest → ⊥) → line ≡ length rows + 2
    → IsUnfitAt bytes line
bad_line bytes rows rest line read some longest is =
    inr (record { rows = rows; rest = rest; rows_are = read.rows_are; text = read.text; some = some; longest = longest; number_is = is })

pub row_lacks : (row : List ℕ) → IsTrue (is_row row) → lacks 10 row ≡ true
row_lacks row h = (and_parts (lacks 10 row) _ h).0

pub no_end : (rows : List (List ℕ)) (rest : List ℕ) → lacks 10 rest ≡ true → BeginsWithNext rows rest → ⊥
no_end rows rest none (row, are, (behind, is)) =
    has_it 10 row behind (sym (ap (lacks 10) (is ∙ append_assoc row (10 ∷ []) behind)) ∙ none)

-- the line that the bytes begin with is the first line
first_is : (rows : List (List ℕ)) (rest line behind : List ℕ) → rest ≡ line ++ 10 ∷ behind → lacks 10 line ≡ true → (next : BeginsWithNext rows rest)
    → line ≡ next.0
first_is rows rest line behind is none (row, are, (more, text)) =
    (same_cut 10 line row behind more none (row_lacks row (last_row rows row are)) (sym is ∙ text ∙ append_assoc row (10 ∷ []) more)).0

pub no_row : (rows : List (List ℕ)) (rest line behind : List ℕ) → rest ≡ line ++ 10 ∷ behind → lacks 10 line ≡ true → is_row line ≡ false
    → BeginsWithNext rows rest → ⊥
no_row rows rest line behind is none other (row, are, begins) =
    false≢true (sym other ∙ ap is_row (first_is rows rest line behind is none (row, are, begins)) ∙ last_row rows row are)

pub no_place : (rows : List (List ℕ)) (rest line behind : List ℕ) → rest ≡ line ++ 10 ∷ behind → lacks 10 line ≡ true
    → ascend (rows ++ line ∷ []) ≡ false → BeginsWithNext rows rest → ⊥
no_place rows rest line behind is none falls (row, are, begins) =
    false≢true (sym falls ∙ ap (λ (r : List ℕ). ascend (rows ++ r ∷ [])) (first_is rows rest line behind is none (row, are, begins)) ∙ ascends (rows ++ row ∷ []) are)

-- ---- how many lines

lines_long : (rows : List (List ℕ)) → length rows ≤ length (flat_map ended rows)
lines_long [] = omega arith
lines_long (row ∷ rows) =
    let more = lines_long rows in
    omega (arith, length-append (ended row) (flat_map ended rows), length-append row (10 ∷ []), more)

pub few_rows : (bytes : List ℕ) (rows : List (List ℕ)) (rest : List ℕ) → HasRead bytes rows rest → length rows ≤ length bytes
few_rows bytes rows rest read =
    omega (arith, ap length read.text, length-append (baseline_text rows) rest, length-append (ended (codes "rc-lint baseline 1")) (flat_map ended rows), lines_long rows)
