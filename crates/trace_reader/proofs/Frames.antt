-- The first line and the last one around the others.
use Rattle.std.proofs.Common.{◌≡◌, ℕ, ◌-◌, cond, List, [], ◌∷◌, ◌++◌, length, map, take, drop, Option, Some, None, append_assoc, refl, sym, ap, subst, ◌∙◌, arith, inl, inr}
use Rattle.std.specs.List.{AllByRecursion, flat_map, slice_split}
use Rattle.std.specs.Str.{bytes_eq}
use Rattle.std.proofs.Math.Seq.{drop-append_seam, take-append_seam}
use Rattle.std.proofs.lemmas.List.{length-append, take-append-drop}
use Rattle.init_machine.specs.declared.report.Report.{Report}
use Rattle.init_machine.proofs.DistinctSums.{bytes_eq-refl, same_bytes}
use Rattle.init_trace.specs.Fields.{diagnostic_fields}
use Rattle.init_trace.specs.Line.{lines_text}
use Rattle.init_trace.specs.Report.{clients_lines, end_fields, entry_lines, report_lines, title_fields, TextOf}
use Rattle.init_trace.proofs.LinesPlain.{lines_plain}
use Rattle.init_trace.proofs.Splitting.{IsLine}
use Rattle.init_trace.proofs.Texts.{lines_text-append}
use Rattle.trace_reader.specs.Drafts.{before_end, body_of, body_report, empty_draft, end_line, framed, title}
use Rattle.trace_reader.specs.Reading.{bind}
use Rattle.trace_reader.specs.Reports.{IsReportOf, IsTextOf}
use Rattle.trace_reader.specs.Split.{is_line_feed}
use Rattle.trace_reader.proofs.Choices.{bind_some, if_some}
use Rattle.trace_reader.proofs.Cuts.{joined_split, lines_back}
use Rattle.trace_reader.proofs.Drafts.{body_lines, run_sound}
use Rattle.trace_reader.proofs.Runs.{run_complete}

-- ---- the frame

before_end_sound : (rest body : List ℕ) → before_end rest ≡ Some body → rest ≡ body ++ end_line
before_end_sound rest body e = elim (if_some (bytes_eq (drop (length rest - 4) rest) end_line) (Some (take (length rest - 4) rest)) None body e) [
  | inl is ↦
      let same : take (length rest - 4) rest ≡ body = let found = is.1 in cc in
      sym (take-append-drop (length rest - 4) rest)
      ∙ ap (λ t. take (length rest - 4) rest ++ t) (same_bytes (drop (length rest - 4) rest) end_line is.0)
      ∙ ap (λ t. t ++ end_line) same
  | inr isnt ↦ let none = isnt.1 in cc
]

body_sound : (text body : List ℕ) → body_of text ≡ Some body → text ≡ title ++ (body ++ end_line)
body_sound text body e = elim (if_some (bytes_eq (take 10 text) title) (before_end (drop 10 text)) None body e) [
  | inl is ↦
      sym (take-append-drop 10 text)
      ∙ ap (λ t. t ++ drop 10 text) (same_bytes (take 10 text) title is.0)
      ∙ ap (λ t. title ++ t) (before_end_sound (drop 10 text) body is.1)
  | inr isnt ↦ let none = isnt.1 in cc
]

before_end_complete : (body : List ℕ) → before_end (body ++ end_line) ≡ Some body
before_end_complete body =
    let place : length (body ++ end_line) - 4 ≡ length body = omega (arith, length-append body end_line) in
    ap (λ n. cond (bytes_eq (drop n (body ++ end_line)) end_line) (Some (take n (body ++ end_line))) None) place
    ∙ ap (λ t. cond (bytes_eq t end_line) (Some (take (length body) (body ++ end_line))) None) (drop-append_seam body end_line)
    ∙ ap (λ b. cond b (Some (take (length body) (body ++ end_line))) None) (bytes_eq-refl end_line)
    ∙ ap (λ t. Some t) (take-append_seam body end_line)

body_complete : (body : List ℕ) → body_of (title ++ (body ++ end_line)) ≡ Some body
body_complete body = before_end_complete body

-- ---- a report's text

text_frame : (report : Report) → TextOf report ≡ title ++ (lines_text (body_lines report) ++ end_line)
unfolding TextOf
text_frame report =
    let a = map diagnostic_fields report.diagnostics in
    let b = flat_map entry_lines report.history in
    let c = clients_lines 1 report.clients in
    let d = end_fields ∷ [] in
    ap (λ ls. title ++ lines_text ls) (ap (λ t. t ++ d) (append_assoc a b c))
    ∙ ap (λ t. title ++ t) (lines_text-append (a ++ (b ++ c)) d)

plain_body : (report : Report) → AllByRecursion IsLine (body_lines report)
plain_body report =
    let a = map diagnostic_fields report.diagnostics in
    let b = flat_map entry_lines report.history in
    let c = clients_lines 1 report.clients in
    let d = end_fields ∷ [] in
    let lines : report_lines report ≡ (title_fields ∷ (a ++ (b ++ c))) ++ d = ap (λ t. title_fields ∷ (t ++ d)) (append_assoc a b c) in
    (front (title_fields ∷ (a ++ (b ++ c))) d (subst (AllByRecursion IsLine) lines (lines_plain report))).1
  where
    front : (a b : List (List (List ℕ))) → AllByRecursion IsLine (a ++ b) → AllByRecursion IsLine a
    front [] b h = tt
    front (line ∷ a) b h = (h.0, front a b h.1)

framed_sound : (text : List ℕ) (report : Report) → framed text ≡ Some report → IsTextOf text report
framed_sound text report e =
    let got = bind_some (body_of text) (λ body. body_report (slice_split is_line_feed body)) report e in
    let body = run_sound empty_draft (slice_split is_line_feed got.0) report
    (record { fits = (refl, refl); diagnostics = tt; history = tt; clients = tt; latest = tt }) got.2 in
    record {
      held = body.held;
      has_text = body.has_text;
      spelled =
          text_frame report
          ∙ ap (λ t. title ++ (t ++ end_line)) (body.spelled ∙ joined_split 10 got.0)
          ∙ sym (body_sound text got.0 got.1);
    }

framed_complete : (text : List ℕ) (report : Report) → IsTextOf text report → framed text ≡ Some report
framed_complete text report h =
    ap framed (sym h.spelled ∙ text_frame report)
    ∙ ap (λ (o : Option (List ℕ)). bind o (λ body. body_report (slice_split is_line_feed body))) (body_complete (lines_text (body_lines report)))
    ∙ ap body_report (lines_back (body_lines report) (plain_body report))
    ∙ run_complete report h.held h.has_text (plain_body report)

-- what the reader answers
pub answer : (text : List ℕ) (found : Option Report) → framed text ≡ found → IsReportOf text found
answer text found e report = (λ is. framed_sound text report (e ∙ is), λ h. sym e ∙ framed_complete text report h)
