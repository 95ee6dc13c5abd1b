-- The end of a text.
use Rattle.std.proofs.Common.{◌≡◌, ℕ, zero, suc, ◌-◌, ◌<◌, ◌≤◌, Bool, true, false, cond, List, [], ◌∷◌, ◌++◌, length, refl, sym, ap, subst, ◌∙◌, arith}
use Rattle.std.specs.Prelude.{codes}
use Rattle.std.specs.List.{slice_get}
use Rattle.init_base.specs.Lines.{lines_of}
use Rattle.init_machine.proofs.DistinctSums.{same_bytes}
use Rattle.trace_reader.specs.Drafts.{end_line}
use Rattle.trace_causes.specs.Faults.{completed, ended_front, has_end, has_line_end, has_title, inner_count, IsNoReports, IsReports}
use Rattle.trace_causes.specs.Lines.{front}
use Rattle.trace_causes.proofs.Fronts.{front_more, open_front, whole_front}
use Rattle.trace_causes.proofs.Numbered.{line_found}
use Rattle.trace_causes.proofs.Readings.{not_both}

-- the lines before a line `end`, and the last line of each trace, are the lines up to it
pub end_front : (lines : List (List ℕ)) (number : ℕ) → 0 < number → has_end lines number ≡ true → ended_front lines (number - 1) ≡ front lines number
end_front lines zero some h = absurd (omega arith)
end_front lines (suc k) some h =
    let less : suc k - 1 ≡ k = omega arith in
    ap (ended_front lines) less
    ∙ sym (front_more lines k (codes "end") (ap (slice_get lines) (sym less) ∙ line_found lines (suc k) (codes "end") h))

-- ---- how many lines

pub text_some : (text : List ℕ) → has_title (lines_of text) ≡ true → 0 < length text
text_some [] h = cc
text_some (b ∷ text) h = omega arith

pub lines_some : (lines : List (List ℕ)) → has_title lines ≡ true → 0 < length lines
lines_some [] h = cc
lines_some (first ∷ lines) h = omega arith

pub inner_few : (lines : List (List ℕ)) → inner_count lines ≤ length lines
inner_few lines = elim (has_end lines (length lines)) as (λ v. cond v (length lines - 1) (length lines) ≤ length lines) [
  | true ↦ omega arith
  | false ↦ omega arith
]

lone_title : 0 < inner_count (codes "initsim 1" ∷ [])
lone_title = omega arith

pub inner_some : (lines : List (List ℕ)) → has_title lines ≡ true → 0 < inner_count lines
inner_some [] h = cc
inner_some (first ∷ []) h =
    let P : List ℕ → Type 0 = λ line. 0 < inner_count (line ∷ []) in
    subst P (sym (same_bytes first (codes "initsim 1") h)) lone_title
inner_some (first ∷ second ∷ lines) h =
    let all = first ∷ second ∷ lines in
    elim (has_end all (length all)) as (λ v. 0 < cond v (length all - 1) (length all)) [
      | true ↦ omega arith
      | false ↦ omega arith
    ]

-- ---- all lines are good

whole_at : (lines : List (List ℕ)) (v : Bool) → has_end lines (length lines) ≡ v → 0 < length lines
    → IsReports (ended_front lines (cond v (length lines - 1) (length lines)))
    → IsReports (cond v (front lines (length lines)) (front lines (length lines) ++ end_line))
whole_at lines true e some good = subst IsReports (end_front lines (length lines) some e) good
whole_at lines false e some good = good

inner_at : (lines : List (List ℕ)) (v : Bool) → has_end lines (length lines) ≡ v → 0 < length lines
    → IsReports (cond v (front lines (length lines)) (front lines (length lines) ++ end_line))
    → IsReports (ended_front lines (cond v (length lines - 1) (length lines)))
inner_at lines true e some good = subst IsReports (sym (end_front lines (length lines) some e)) good
inner_at lines false e some good = good

-- of a text that doesn't end with LF
pub is_completed : (text : List ℕ) → has_title (lines_of text) ≡ true → has_line_end text ≡ false
    → IsReports (ended_front (lines_of text) (inner_count (lines_of text))) → IsReports (completed text)
is_completed text title e good =
    let lines = lines_of text in
    let v = has_end lines (length lines) in
    let P : List ℕ → Type 0 = λ t. IsReports (cond v t (t ++ end_line)) in
    subst P (open_front text (text_some text title) e) (whole_at lines v refl (lines_some lines title) good)

pub inner_good : (text : List ℕ) → has_title (lines_of text) ≡ true → has_line_end text ≡ false → IsReports (completed text)
    → IsReports (ended_front (lines_of text) (inner_count (lines_of text)))
inner_good text title e good =
    let lines = lines_of text in
    let v = has_end lines (length lines) in
    let P : List ℕ → Type 0 = λ t. IsReports (cond v t (t ++ end_line)) in
    inner_at lines v refl (lines_some lines title) (subst P (sym (open_front text (text_some text title) e)) good)

-- of another one, which is no report's
pub lacks_end : (text : List ℕ) → has_title (lines_of text) ≡ true → has_line_end text ≡ true → IsNoReports text
    → IsReports (ended_front (lines_of text) (inner_count (lines_of text))) → IsReports (text ++ end_line)
lacks_end text title e none good =
    let lines = lines_of text in
    let v = has_end lines (length lines) in
    let P : List ℕ → Type 0 = λ t. IsReports (cond v t (t ++ end_line)) in
    at v (subst P (whole_front text e) (whole_at lines v refl (lines_some lines title) good))
  where
    at : (v : Bool) → IsReports (cond v text (text ++ end_line)) → IsReports (text ++ end_line)
    at true whole = absurd (not_both text whole none)
    at false whole = whole
