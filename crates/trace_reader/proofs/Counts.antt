-- How many entries a draft has, as lines are added and entries taken.
use Rattle.std.proofs.Common.{◌≡◌, ◌+◌, ◌≤◌, ◌==◌, ℕ, Bool, true, false, cond, List, [], ◌∷◌, ◌++◌, length, Option, Some, None, sym, ap, ◌∙◌, arith}
use Rattle.std.specs.List.{slice_split}
use Rattle.std.proofs.lemmas.List.{length-append}
use Rattle.init_machine.specs.declared.diagnostic.Diagnostic.{Diagnostic}
use Rattle.init_machine.specs.declared.report.ClientPart.{ClientPart}
use Rattle.init_machine.specs.declared.report.Entry.{Entry}
use Rattle.trace_reader.specs.Drafts.{draft, finished, line_added, step}
use Rattle.trace_reader.specs.Lines.{line_of}
use Rattle.trace_reader.specs.Pieces.{in_front}
use Rattle.trace_reader.specs.Reading.{bind}
use Rattle.trace_reader.specs.Split.{is_space}
use Rattle.trace_reader.specs.declared.draft.Draft.{Draft}
use Rattle.trace_reader.specs.declared.draft.Part.{Part}
use Rattle.trace_reader.specs.declared.draft.Part.TheVariants as part
use Rattle.trace_reader.specs.declared.line.Line.{Line}
use Rattle.trace_reader.specs.declared.line.Line.TheVariants as line

-- how many entries the draft has, with its latest one
abbrev count : Draft → ℕ
count d = length (finished d).history

if_some : (b : Bool) (a d : Draft) → cond b (Some a) None ≡ Some d → a ≡ d
if_some true a d is = cc
if_some false a d is = cc

-- a client's part has no entry
no_more : (ds : List Diagnostic) (hs : List Entry) (cs : List ClientPart) (c : ClientPart) (d : Draft) → draft ds hs cs (part.Client c) ≡ d → count d ≡ length hs
no_more ds hs cs c d is = ap (λ (x : Draft). count x) (sym is)

one_more : (hs : List Entry) (e : Entry) → length (hs ++ e ∷ []) ≡ length hs + 1
one_more hs e = length-append hs (e ∷ [])

step_at : (l : Line) (latest : Part) (ds : List Diagnostic) (hs : List Entry) (cs : List ClientPart) (d : Draft)
    → step (draft ds hs cs latest) l ≡ Some d → count d ≤ count (draft ds hs cs latest) + 1
step_at (line.Diagnostic added) part.Diagnostics ds hs cs d is = let same : draft (ds ++ added ∷ []) hs cs part.Diagnostics ≡ d = cc in
    let n : count d ≡ length hs = ap (λ (x : Draft). count x) (sym same) in omega arith
step_at (line.Diagnostic added) (part.Entry o) ds hs cs d is = cc
step_at (line.Diagnostic added) (part.Client c) ds hs cs d is = cc
step_at (line.Head input) part.Diagnostics ds hs cs d is =
    let e : Entry = record { input = input; outputs = [] } in
    let same : draft ds hs cs (part.Entry e) ≡ d = cc in
    let n : count d ≡ length (hs ++ e ∷ []) = ap (λ (x : Draft). count x) (sym same) in omega (arith, one_more hs e)
step_at (line.Head input) (part.Entry o) ds hs cs d is =
    let e : Entry = record { input = input; outputs = [] } in
    let same : draft ds (hs ++ o ∷ []) cs (part.Entry e) ≡ d = cc in
    let n : count d ≡ length ((hs ++ o ∷ []) ++ e ∷ []) = ap (λ (x : Draft). count x) (sym same) in omega (arith, one_more (hs ++ o ∷ []) e)
step_at (line.Head input) (part.Client c) ds hs cs d is = cc
step_at (line.Output output) part.Diagnostics ds hs cs d is = cc
step_at (line.Output output) (part.Entry o) ds hs cs d is =
    let e : Entry = record { input = o.input; outputs = o.outputs ++ output ∷ [] } in
    let same : draft ds hs cs (part.Entry e) ≡ d = cc in
    let n : count d ≡ length (hs ++ e ∷ []) = ap (λ (x : Draft). count x) (sym same) in omega (arith, one_more hs e, one_more hs o)
step_at (line.Output output) (part.Client c) ds hs cs d is = cc
step_at (line.Client id name domain) part.Diagnostics ds hs cs d is =
    let c : ClientPart = record { name = name; domain = domain; readings = [] } in
    let n = no_more ds hs cs c d (if_some (id == length cs + 1) (draft ds hs cs (part.Client c)) d is) in omega arith
step_at (line.Client id name domain) (part.Entry o) ds hs cs d is =
    let c : ClientPart = record { name = name; domain = domain; readings = [] } in
    let n = no_more ds (hs ++ o ∷ []) cs c d (if_some (id == length cs + 1) (draft ds (hs ++ o ∷ []) cs (part.Client c)) d is) in omega arith
step_at (line.Client id name domain) (part.Client o) ds hs cs d is =
    let c : ClientPart = record { name = name; domain = domain; readings = [] } in
    let n = no_more ds hs (cs ++ o ∷ []) c d (if_some (id == length (cs ++ o ∷ []) + 1) (draft ds hs (cs ++ o ∷ []) (part.Client c)) d is) in omega arith
step_at (line.Reading reading) part.Diagnostics ds hs cs d is = cc
step_at (line.Reading reading) (part.Entry o) ds hs cs d is = cc
step_at (line.Reading reading) (part.Client c) ds hs cs d is =
    let n : count d ≡ length hs = no_more ds hs cs (record { name = c.name; domain = c.domain; readings = c.readings ++ reading ∷ [] }) d cc in omega arith

told_at : (told : Option Line) (old new : Draft) → bind told (step old) ≡ Some new → count new ≤ count old + 1
told_at None old new is = cc
told_at (Some l) old new is = step_at l old.latest old.diagnostics old.history old.clients new is

-- a line adds at most one entry
pub line_more : (old new : Draft) (bytes : List ℕ) → line_added old bytes ≡ Some new → count new ≤ count old + 1
line_more old new bytes is = told_at (line_of (slice_split is_space bytes)) old new is

front_at : (latest : Part) (e : Entry) (ds : List Diagnostic) (hs : List Entry) (cs : List ClientPart)
    → count (draft ds (e ∷ hs) cs latest) ≡ count (draft ds hs cs latest) + 1
front_at part.Diagnostics e ds hs cs = omega arith
front_at (part.Entry o) e ds hs cs = omega arith
front_at (part.Client c) e ds hs cs = omega arith

-- an entry that is taken away was one of them
pub taken_fewer : (old new : Draft) (e : Entry) → old ≡ in_front e new → count old ≡ count new + 1
taken_fewer old new e is = ap (λ (d : Draft). count d) is ∙ front_at new.latest e new.diagnostics new.history new.clients
