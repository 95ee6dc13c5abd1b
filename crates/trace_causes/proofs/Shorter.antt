-- Where a trace may begin with some lines, it may begin with fewer.
use Rattle.std.proofs.Common.{◌≡◌, ◌≢◌, ℕ, zero, suc, ◌+◌, ◌-◌, ◌<◌, ◌≤◌, true, cond, List, [], ◌∷◌, ◌++◌, length, take, drop, Option, Some, None, refl, sym, ap, subst, ◌∙◌, append_assoc, arith}
use Rattle.std.specs.Prelude.{codes, is_some}
use Rattle.std.specs.List.{AllByRecursion, slice_split}
use Rattle.std.specs.Str.{bytes_eq}
use Rattle.std.proofs.Math.Seq.{drop-append_seam, take-append_seam}
use Rattle.std.proofs.lemmas.List.{length-append}
use Rattle.init_base.specs.Lines.{is_line_feed, lines_of}
use Rattle.init_machine.proofs.DistinctSums.{bytes_eq-refl, same_bytes}
use Rattle.trace_reader.proofs.Cuts.{no_parts}
use Rattle.trace_reader.proofs.Runs.{report_more}
use Rattle.trace_reader.specs.Drafts.{before_end, empty_draft, end_line, framed, line_added, report_from}
use Rattle.trace_reader.specs.Reading.{bind}
use Rattle.trace_reader.specs.declared.draft.Draft.{Draft}
use Rattle.trace_causes.specs.Faults.{ended_front, going_on, has_title, IsFirstBad, IsNoReports, IsReports}
use Rattle.trace_causes.specs.Lines.{front}
use Rattle.trace_causes.proofs.Readings.{is_read, not_both, reads}
use Rattle.trace_causes.proofs.Splits.{front_split, IsPlain, lines_plain}

-- ---- a text by the lines between the first one and the last one

before_last : (body : List ℕ) → before_end (body ++ end_line) ≡ Some body
before_last body =
    let place : length (body ++ end_line) - 4 ≡ length body = omega (arith, length-append body end_line) in
    ap (λ n. cond (bytes_eq (drop n (body ++ end_line)) end_line) (Some (take n (body ++ end_line))) None) place
    ∙ ap (λ t. cond (bytes_eq t end_line) (Some (take (length body) (body ++ end_line))) None) (drop-append_seam body end_line)
    ∙ ap (λ b. cond b (Some (take (length body) (body ++ end_line))) None) (bytes_eq-refl end_line)
    ∙ ap (λ t. Some t) (take-append_seam body end_line)

framed_lines : (lines : List (List ℕ)) (k : ℕ) (more : List ℕ) → AllByRecursion IsPlain lines
    → framed (going_on (codes "initsim 1" ∷ lines) (suc k) more) ≡ report_from empty_draft (take k lines ++ slice_split is_line_feed more)
framed_lines lines k more plain =
    ap (λ t. bind (before_end t) (λ body. report_from empty_draft (slice_split is_line_feed body))) (sym (append_assoc (front lines k) more end_line))
    ∙ ap (λ body. bind body (λ t. report_from empty_draft (slice_split is_line_feed t))) (before_last (front lines k ++ more))
    ∙ ap (report_from empty_draft) (front_split lines k more plain)

-- ---- fewer lines

not_none : (parts behind : List (List ℕ)) → behind ≢ [] → parts ++ behind ≢ []
not_none [] behind h e = h e
not_none (part ∷ parts) behind h e = cc

fewer_behind : (few many : List (List ℕ)) (o : Option Draft)
    → ((next : Draft) → is_some (report_from next many) ≡ true → is_some (report_from next few) ≡ true)
    → is_some (bind o (λ next. report_from next many)) ≡ true → is_some (bind o (λ next. report_from next few)) ≡ true
fewer_behind few many None step h = cc
fewer_behind few many (Some next) step h = step next h

fewer : (lines : List (List ℕ)) (d : Draft) (few many : ℕ) (behind : List (List ℕ)) → behind ≢ [] → few ≤ many
    → is_some (report_from d (take many lines ++ behind)) ≡ true → is_some (report_from d (take few lines ++ [] ∷ [])) ≡ true
fewer [] d zero many behind some le h = refl
fewer [] d (suc few) many behind some le h = refl
fewer (line ∷ lines) d zero many behind some le h = refl
fewer (line ∷ lines) d (suc few) zero behind some le h = absurd (omega arith)
fewer (line ∷ lines) d (suc few) (suc many) behind some le h =
    let first = take few lines ++ [] ∷ [] in
    let all = take many lines ++ behind in
    let less : few ≤ many = omega arith in
    ap is_some (report_more d line first (not_none (take few lines) ([] ∷ []) (λ e. cc)))
    ∙ fewer_behind first all (line_added d line) (λ next. fewer lines next few many behind some less)
    (sym (ap is_some (report_more d line all (not_none (take many lines) behind some))) ∙ h)

at_title : (lines : List (List ℕ)) (few many : ℕ) (more : List ℕ) → AllByRecursion IsPlain lines → 0 < few → few ≤ many
    → IsReports (going_on (codes "initsim 1" ∷ lines) many more) → IsReports (ended_front (codes "initsim 1" ∷ lines) few)
at_title lines zero many more plain some le h = absurd (omega arith)
at_title lines (suc few) zero more plain some le h = absurd (omega arith)
at_title lines (suc few) (suc many) more plain some le h =
    is_read (ended_front (codes "initsim 1" ∷ lines) (suc few))
    (ap is_some (framed_lines lines few [] plain)
    ∙ fewer lines empty_draft few many (slice_split is_line_feed more) (no_parts is_line_feed more) (omega arith)
    (sym (ap is_some (framed_lines lines many more plain)) ∙ reads (going_on (codes "initsim 1" ∷ lines) (suc many) more) h))

of_lines : (lines : List (List ℕ)) (few many : ℕ) (more : List ℕ) → AllByRecursion IsPlain lines → has_title lines ≡ true → 0 < few → few ≤ many
    → IsReports (going_on lines many more) → IsReports (ended_front lines few)
of_lines [] few many more plain title some le h = cc
of_lines (first ∷ lines) few many more plain title some le h =
    let same : first ≡ codes "initsim 1" = same_bytes first (codes "initsim 1") title in
    subst (λ (line : List ℕ). IsReports (ended_front (line ∷ lines) few)) (sym same)
    (at_title lines few many more plain.1 some le (subst (λ (line : List ℕ). IsReports (going_on (line ∷ lines) many more)) same h))

pub shorter : (text : List ℕ) (few many : ℕ) (more : List ℕ) → has_title (lines_of text) ≡ true → 0 < few → few ≤ many
    → IsReports (going_on (lines_of text) many more) → IsReports (ended_front (lines_of text) few)
shorter text few many more title some le h = of_lines (lines_of text) few many more (lines_plain text) title some le h

-- ---- the first line alone

title_good : IsReports (ended_front (codes "initsim 1" ∷ []) 1)
title_good = is_read (ended_front (codes "initsim 1" ∷ []) 1) refl

pub first_good : (lines : List (List ℕ)) → has_title lines ≡ true → IsReports (ended_front lines 1)
first_good [] h = cc
first_good (first ∷ lines) h =
    let same : first ≡ codes "initsim 1" = same_bytes first (codes "initsim 1") h in
    subst (λ (line : List ℕ). IsReports (ended_front (line ∷ lines) 1)) (sym same) title_good

pub behind_first : (lines : List (List ℕ)) (count : ℕ) → 0 < count → has_title lines ≡ true → IsNoReports (ended_front lines count) → 1 < count
behind_first lines zero some title bad = absurd (omega arith)
behind_first lines (suc zero) some title bad = absurd (not_both (ended_front lines 1) (first_good lines title) bad)
behind_first lines (suc (suc count)) some title bad = omega arith

-- the first bad line stands behind a good front
pub first_bad : (text : List ℕ) (count good bad : ℕ) → has_title (lines_of text) ≡ true → good < bad → bad ≤ good + 1 → bad ≤ count
    → IsReports (ended_front (lines_of text) good) → IsNoReports (ended_front (lines_of text) bad) → IsFirstBad (lines_of text) count bad
first_bad text count good bad title more next among is isnt =
    let some : 0 < bad = omega arith in
    let same : bad ≤ bad = omega arith in
    record {
      some = some;
      among = among;
      before = λ few some less. shorter text few good [] title some (omega arith) is;
      bad = λ more. record {
        none = λ report h.
            not_both (ended_front (lines_of text) bad) (shorter text bad bad more title some same (record { report = report; is = h })) isnt;
      };
    }
