-- An entry that was read stands before all that is read behind it, so it can be taken away.
use Rattle.std.proofs.Common.{◌≡◌, ℕ, ◌+◌, ◌==◌, Bool, true, false, cond, List, [], ◌∷◌, ◌++◌, length, Option, Some, None, refl, ap, ◌∙◌}
use Rattle.std.specs.Prelude.{slice_get, remove}
use Rattle.std.specs.List.{slice_split}
use Rattle.init_machine.specs.declared.diagnostic.Diagnostic.{Diagnostic}
use Rattle.init_machine.specs.declared.report.ClientPart.{ClientPart}
use Rattle.init_machine.specs.declared.report.Entry.{Entry}
use Rattle.trace_reader.specs.Drafts.{begun, draft, ended, finished, line_added, report_from, step}
use Rattle.trace_reader.specs.Lines.{line_of}
use Rattle.trace_reader.specs.Pieces.{in_front, with_front}
use Rattle.trace_reader.specs.Reading.{bind}
use Rattle.trace_reader.specs.Split.{is_line_feed, is_space}
use Rattle.trace_reader.specs.declared.draft.Draft.{Draft}
use Rattle.trace_reader.specs.declared.draft.Part.{Part}
use Rattle.trace_reader.specs.declared.draft.Part.TheVariants as part
use Rattle.trace_reader.specs.declared.line.Line.{Line}
use Rattle.trace_reader.specs.declared.line.Line.TheVariants as line

pub first_taken : (hs left : List Entry) (e : Entry) → slice_get hs 0 ≡ Some e → left ≡ remove hs 0 → hs ≡ e ∷ left
first_taken [] left e first rest = cc
first_taken (x ∷ xs) left e first rest = let rest_is : left ≡ xs = rest in cc

front_option : Entry → Option Draft → Option Draft
front_option e None = None
front_option e (Some d) = Some (in_front e d)

front_cond : (b : Bool) (e : Entry) (d : Draft) → cond b (Some (in_front e d)) None ≡ front_option e (cond b (Some d) None)
unfolding front_option
front_cond true e d = refl
front_cond false e d = refl

step_at : (l : Line) (latest : Part) (e : Entry) (ds : List Diagnostic) (hs : List Entry) (cs : List ClientPart)
    → step (draft ds (e ∷ hs) cs latest) l ≡ front_option e (step (draft ds hs cs latest) l)
unfolding front_option
step_at (line.Diagnostic added) part.Diagnostics e ds hs cs = refl
step_at (line.Diagnostic added) (part.Entry o) e ds hs cs = refl
step_at (line.Diagnostic added) (part.Client c) e ds hs cs = refl
step_at (line.Head input) part.Diagnostics e ds hs cs = refl
step_at (line.Head input) (part.Entry o) e ds hs cs = refl
step_at (line.Head input) (part.Client c) e ds hs cs = refl
step_at (line.Output output) part.Diagnostics e ds hs cs = refl
step_at (line.Output output) (part.Entry o) e ds hs cs = refl
step_at (line.Output output) (part.Client c) e ds hs cs = refl
step_at (line.Client id name domain) part.Diagnostics e ds hs cs =
    front_cond (id == length cs + 1) e (draft ds hs cs (part.Client (record { name = name; domain = domain; readings = [] })))
step_at (line.Client id name domain) (part.Entry o) e ds hs cs =
    front_cond (id == length cs + 1) e (draft ds (hs ++ o ∷ []) cs (part.Client (record { name = name; domain = domain; readings = [] })))
step_at (line.Client id name domain) (part.Client c) e ds hs cs =
    front_cond (id == length (cs ++ c ∷ []) + 1) e (draft ds hs (cs ++ c ∷ []) (part.Client (record { name = name; domain = domain; readings = [] })))
step_at (line.Reading reading) part.Diagnostics e ds hs cs = refl
step_at (line.Reading reading) (part.Entry o) e ds hs cs = refl
step_at (line.Reading reading) (part.Client c) e ds hs cs = refl

told_front : (told : Option Line) (e : Entry) (d : Draft) → bind told (step (in_front e d)) ≡ front_option e (bind told (step d))
unfolding front_option
told_front None e d = refl
told_front (Some l) e d = step_at l d.latest e d.diagnostics d.history d.clients

finished_at : (latest : Part) (e : Entry) (ds : List Diagnostic) (hs : List Entry) (cs : List ClientPart)
    → Some (finished (draft ds (e ∷ hs) cs latest)) ≡ with_front e (Some (finished (draft ds hs cs latest)))
finished_at part.Diagnostics e ds hs cs = refl
finished_at (part.Entry o) e ds hs cs = refl
finished_at (part.Client c) e ds hs cs = refl

ended_front : (last : List ℕ) (e : Entry) (d : Draft) → ended last (in_front e d) ≡ with_front e (ended last d)
ended_front [] e d = finished_at d.latest e d.diagnostics d.history d.clients
ended_front (byte ∷ rest) e d = refl

bind_front : (parts : List (List ℕ)) (e : Entry) (o : Option Draft) → ((d : Draft) → report_from (in_front e d) parts ≡ with_front e (report_from d parts))
    → bind (front_option e o) (λ next. report_from next parts) ≡ with_front e (bind o (λ next. report_from next parts))
unfolding front_option
bind_front parts e None behind = refl
bind_front parts e (Some d) behind = behind d

-- an entry before those of a draft stands before those of what the draft leads to
pub run_front : (parts : List (List ℕ)) (e : Entry) (d : Draft) → report_from (in_front e d) parts ≡ with_front e (report_from d parts)
run_front [] e d = refl
run_front (last ∷ []) e d = ended_front last e d
run_front (bytes ∷ more ∷ rest) e d =
    ap (λ o. bind o (λ next. report_from next (more ∷ rest))) (told_front (line_of (slice_split is_space bytes)) e d)
    ∙ bind_front (more ∷ rest) e (line_added d bytes) (run_front (more ∷ rest) e)

closed_at : (latest : Part) (ds : List Diagnostic) (hs : List Entry) (cs : List ClientPart)
    → finished (begun (draft ds hs cs latest) part.Diagnostics) ≡ finished (draft ds hs cs latest)
closed_at part.Diagnostics ds hs cs = refl
closed_at (part.Entry o) ds hs cs = refl
closed_at (part.Client c) ds hs cs = refl

-- where no line is left, the latest part can be put behind those of its kind
pub closed_same : (d : Draft) → finished (begun d part.Diagnostics) ≡ finished d
closed_same d = closed_at d.latest d.diagnostics d.history d.clients

-- the entry that was taken from a draft stands before what is left
pub front_left : (old new : Draft) (e : Entry) (text : List ℕ) → old ≡ in_front e new
    → report_from old (slice_split is_line_feed text) ≡ with_front e (report_from new (slice_split is_line_feed text))
front_left old new e text is = ap (λ d. report_from d (slice_split is_line_feed text)) is ∙ run_front (slice_split is_line_feed text) e new

-- what is left where no line is
pub none_left : (d : Draft) (text : List ℕ) → text ≡ [] → report_from d (slice_split is_line_feed text) ≡ Some (finished d)
none_left d text none = ap (λ bytes. report_from d (slice_split is_line_feed bytes)) none
