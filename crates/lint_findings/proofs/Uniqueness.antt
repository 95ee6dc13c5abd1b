-- What the bytes of a baseline determine.
use Rattle.std.proofs.Common.{◌≡◌, ℕ, ◌+◌, not, inl, inr, List, [], ◌∷◌, ◌++◌, length, length-append, append_assoc, append-nil, refl, ap, sym, ◌∙◌, subst, IsTrue, codes, arith}
use Rattle.std.specs.List.{flat_map, list_all}
use Rattle.std.proofs.lemmas.Bool.{and_parts}
use Rattle.std.proofs.lemmas.List.Folds.{list_all-append}
use Rattle.init_machine.specs.Pairs.{is_before}
use Rattle.lint_findings.specs.Baseline.{BeginsWith, BeginsWithNext, HasBadLine, IsBaseline, IsUnfitAt, are_rows, ascend, baseline_text, ended, is_row}
use Rattle.lint_findings.proofs.Cuts.{same_cut}
use Rattle.lint_findings.proofs.Fronts.{join, last_row, row_lacks}

-- ---- a front of lines

ascend_front : (xs ys : List (List ℕ)) → IsTrue (ascend (xs ++ ys)) → IsTrue (ascend xs)
ascend_front [] ys h = refl
ascend_front (x ∷ []) ys h = refl
ascend_front (x ∷ y ∷ xs) ys h =
    let parts = and_parts (not (is_before y x)) (ascend (y ∷ (xs ++ ys))) h in
    join (not (is_before y x)) (ascend (y ∷ xs)) parts.0 (ascend_front (y ∷ xs) ys parts.1)

rows_front : (xs ys : List (List ℕ)) → IsTrue (are_rows (xs ++ ys)) → IsTrue (are_rows xs)
rows_front xs ys h =
    let parts = and_parts (list_all is_row (xs ++ ys)) (ascend (xs ++ ys)) h in
    join (list_all is_row xs) (ascend xs) (and_parts (list_all is_row xs) (list_all is_row ys) (sym (list_all-append is_row xs ys) ∙ parts.0)).0 (ascend_front xs ys parts.1)

-- ---- two longest fronts are one

abbrev lines_text : List (List ℕ) → List ℕ
lines_text rows = flat_map ended rows

-- lines behind a front, and what stands behind them
record Longest (front rows : List (List ℕ)) (rest : List ℕ) : Type 0 where
  rows_are : IsTrue (are_rows (front ++ rows))
  longest : BeginsWithNext (front ++ rows) rest → ⊥

moved : (front : List (List ℕ)) (row : List ℕ) (rows : List (List ℕ)) (rest : List ℕ) → Longest front (row ∷ rows) rest → Longest (front ++ row ∷ []) rows rest
moved front row rows rest h =
    let same : (front ++ row ∷ []) ++ rows ≡ front ++ row ∷ rows = append_assoc front (row ∷ []) rows in
    record {
      rows_are = ap are_rows same ∙ h.rows_are;
      longest = (λ next. h.longest (subst (λ rs. BeginsWithNext rs rest) same next));
    }

next_rows : (front : List (List ℕ)) (row : List ℕ) (rows : List (List ℕ)) (rest : List ℕ) → Longest front (row ∷ rows) rest → IsTrue (are_rows (front ++ row ∷ []))
next_rows front row rows rest h = rows_front (front ++ row ∷ []) rows (moved front row rows rest h).rows_are

-- the front alone isn't the longest where a line follows
not_longest : (front : List (List ℕ)) (row : List ℕ) (rows : List (List ℕ)) (rest more : List ℕ) → Longest front [] rest → Longest front (row ∷ rows) more
    → rest ≡ lines_text (row ∷ rows) ++ more → ⊥
not_longest front row rows rest more h i text =
    let alone : front ++ [] ≡ front = append-nil front in
    h.longest (subst (λ rs. BeginsWithNext rs rest) (sym alone) (row, next_rows front row rows more i, (lines_text rows ++ more, text ∙ append_assoc (ended row) (lines_text rows) more)))

same_rows : (front rows others : List (List ℕ)) (rest more : List ℕ) → Longest front rows rest → Longest front others more
    → lines_text rows ++ rest ≡ lines_text others ++ more → (rows ≡ others) × (rest ≡ more)
same_rows front [] [] rest more h i text = (refl, text)
same_rows front [] (q ∷ others) rest more h i text = absurd (not_longest front q others rest more h i text)
same_rows front (p ∷ rows) [] rest more h i text = absurd (not_longest front p rows more rest i h (sym text))
same_rows front (p ∷ rows) (q ∷ others) rest more h i text =
    let one = last_row front p (next_rows front p rows rest h) in
    let other = last_row front q (next_rows front q others more i) in
    let left : (p ++ 10 ∷ []) ++ lines_text rows ++ rest ≡ p ++ 10 ∷ (lines_text rows ++ rest) =
    append_assoc (ended p) (lines_text rows) rest ∙ append_assoc p (10 ∷ []) (lines_text rows ++ rest) in
    let right : (q ++ 10 ∷ []) ++ lines_text others ++ more ≡ q ++ 10 ∷ (lines_text others ++ more) =
    append_assoc (ended q) (lines_text others) more ∙ append_assoc q (10 ∷ []) (lines_text others ++ more) in
    let cut = same_cut 10 p q (lines_text rows ++ rest) (lines_text others ++ more) (row_lacks p one) (row_lacks q other) (sym left ∙ text ∙ right) in
    let same : p ≡ q = cut.0 in
    let tail = same_rows (front ++ p ∷ []) rows others rest more (moved front p rows rest h)
    (subst (λ x. Longest (front ++ x ∷ []) others more) (sym same) (moved front q others more i)) cut.1 in
    ((λ k. same k ∷ tail.0 k), tail.1)

-- ---- texts

abbrev Front : List ℕ → List (List ℕ) → List ℕ → Type 0
Front bytes rows rest = Longest [] rows rest × (bytes ≡ baseline_text rows ++ rest)

one_front : (bytes : List ℕ) (rows others : List (List ℕ)) (rest more : List ℕ) → Front bytes rows rest → Front bytes others more → (rows ≡ others) × (rest ≡ more)
one_front bytes rows others rest more (h, text) (i, text') =
    let lines : lines_text rows ++ rest ≡ lines_text others ++ more =
    let e : codes "rc-lint baseline 1\n" ++ (lines_text rows ++ rest) ≡ codes "rc-lint baseline 1\n" ++ (lines_text others ++ more) =
    sym (append_assoc (ended (codes "rc-lint baseline 1")) (lines_text rows) rest) ∙ sym text ∙ text' ∙ append_assoc (ended (codes "rc-lint baseline 1")) (lines_text others) more in
    cc e in
    same_rows [] rows others rest more h i lines

none_next : (rows : List (List ℕ)) → BeginsWithNext rows [] → ⊥
none_next rows (row, are, (behind, text)) = omega (arith, ap length text, length-append (ended row) behind, length-append row (10 ∷ []))

whole : (bytes : List ℕ) (rows : List (List ℕ)) → IsBaseline bytes rows → Front bytes rows []
whole bytes rows is = (record { rows_are = is.rows_are; longest = none_next rows }, is.text ∙ sym (append-nil (baseline_text rows)))

part : (bytes : List ℕ) (line : ℕ) (bad : HasBadLine bytes line) → Front bytes bad.rows bad.rest
part bytes line bad = (record { rows_are = bad.rows_are; longest = bad.longest }, bad.text)

pub same_baseline : (bytes : List ℕ) (rows others : List (List ℕ)) → IsBaseline bytes rows → IsBaseline bytes others → rows ≡ others
same_baseline bytes rows others is other = (one_front bytes rows others [] [] (whole bytes rows is) (whole bytes others other)).0

has_head : (bytes : List ℕ) (rows : List (List ℕ)) (rest : List ℕ) → bytes ≡ baseline_text rows ++ rest → BeginsWith bytes (codes "rc-lint baseline 1")
has_head bytes rows rest text = (lines_text rows ++ rest, text ∙ append_assoc (ended (codes "rc-lint baseline 1")) (lines_text rows) rest)

pub same_number : (bytes : List ℕ) (line other : ℕ) → IsUnfitAt bytes line → IsUnfitAt bytes other → line ≡ other
same_number bytes line other (inl bad) (inl bad') = bad.number_is ∙ sym bad'.number_is
same_number bytes line other (inl bad) (inr bad') = absurd (bad.head (has_head bytes bad'.rows bad'.rest bad'.text))
same_number bytes line other (inr bad) (inl bad') = absurd (bad'.head (has_head bytes bad.rows bad.rest bad.text))
same_number bytes line other (inr bad) (inr bad') =
    bad.number_is ∙ ap (λ (rows : List (List ℕ)). length rows + 2) (one_front bytes bad.rows bad'.rows bad.rest bad'.rest (part bytes line bad) (part bytes other bad')).0 ∙ sym bad'.number_is

pub not_both : (bytes : List ℕ) (rows : List (List ℕ)) (line : ℕ) → IsBaseline bytes rows → IsUnfitAt bytes line → ⊥
not_both bytes rows line is (inl bad) = bad.head (has_head bytes rows [] (is.text ∙ sym (append-nil (baseline_text rows))))
not_both bytes rows line is (inr bad) =
    bad.some (sym (one_front bytes rows bad.rows [] bad.rest (whole bytes rows is) (part bytes line bad)).1)
