-- The lines of a report are read as this report.
use Rattle.std.proofs.Common.{◌≡◌, ◌≢◌, ℕ, ◌+◌, ◌<◌, ◌^◌, true, ◌==◌, cond, List, [], ◌∷◌, ◌++◌, length, map, Option, Some, None, Err, append_assoc, append-nil, refl, sym, ap, subst, ◌∙◌, arith}
use Rattle.std.specs.List.{AllByRecursion, flat_map, slice_split}
use Rattle.std.proofs.lemmas.Bool.Decides.{nat_tests}
use Rattle.std.proofs.lemmas.List.{length-append}
use Rattle.init_machine.specs.HasText.{EntryHasText, HasText, OutputHasText}
use Rattle.init_machine.specs.declared.diagnostic.Diagnostic.{Diagnostic}
use Rattle.init_machine.specs.declared.input.Input.{Input}
use Rattle.init_machine.specs.declared.output.Output.{Output}
use Rattle.init_machine.specs.declared.report.ClientPart.{ClientPart}
use Rattle.init_machine.specs.declared.report.Entry.{Entry}
use Rattle.init_machine.specs.declared.report.Reading.{Reading}
use Rattle.init_machine.specs.declared.report.Report.{Report}
use Rattle.init_trace.specs.Fields.{diagnostic_fields}
use Rattle.init_trace.specs.Report.{client_lines, clients_lines, entry_lines, output_line, reading_line}
use Rattle.init_trace.proofs.Splitting.{IsLine}
use Rattle.trace_reader.specs.Drafts.{IsStep, client_part, closed_with, draft, entry, line_added, report_from, step, with_client, with_head}
use Rattle.trace_reader.specs.Held.{DiagnosticIsHeld, EntryIsHeld, IsHeld, OutputIsHeld, PartIsHeld, ReadingIsHeld}
use Rattle.trace_reader.specs.Lines.{line_of}
use Rattle.trace_reader.specs.Reading.{IsReading, IsUnread, bind}
use Rattle.trace_reader.specs.Split.{is_line_feed}
use Rattle.trace_reader.specs.declared.draft.Draft.{Draft}
use Rattle.trace_reader.specs.declared.draft.Part.TheVariants as part
use Rattle.script_lang.specs.declared.fault.Fault.{Fault}
use Rattle.script_lang.specs.declared.fault.Fault.TheVariants as fault
use Rattle.trace_reader.specs.declared.line.Line.{Line}
use Rattle.trace_reader.specs.declared.line.Line.TheVariants as line
use Rattle.trace_reader.proofs.Cuts.{bytes_of, fields_back, no_parts, parts_of}
use Rattle.trace_reader.proofs.Drafts.{body_lines}
use Rattle.trace_reader.proofs.LinesRead.{LineIsGood, line_complete, line_fields}

-- ---- one line

pub report_more : (d : Draft) (bytes : List ℕ) (parts : List (List ℕ)) → parts ≢ [] → report_from d (bytes ∷ parts) ≡ bind (line_added d bytes) (λ next. report_from next parts)
report_more d bytes [] some = absurd (some refl)
report_more d bytes (part ∷ parts) some = refl

-- a text without LF is no line
pub last_unread : (d : Draft) (text : List ℕ) → 0 < length text → slice_split is_line_feed text ≡ text ∷ [] → report_from d (slice_split is_line_feed text) ≡ None
last_unread d [] some e = absurd (omega arith)
last_unread d (b ∷ rest) some e = ap (report_from d) e

split_run : (d : Draft) (text bytes behind : List ℕ) → slice_split is_line_feed text ≡ bytes ∷ slice_split is_line_feed behind
    → report_from d (slice_split is_line_feed text) ≡ bind (line_added d bytes) (λ next. report_from next (slice_split is_line_feed behind))
split_run d text bytes behind e =
    ap (report_from d) e ∙ report_more d bytes (slice_split is_line_feed behind) (no_parts is_line_feed behind)

-- a line that can't stand there
pub line_unread : (d now : Draft) (text bytes behind : List ℕ) (why : Fault) → slice_split is_line_feed text ≡ bytes ∷ slice_split is_line_feed behind
    → IsStep {T = Unit {0}} (Err why) now (line_added d bytes) → IsUnread (report_from d (slice_split is_line_feed text)) why
line_unread d now text bytes behind fault.Bad e h =
    split_run d text bytes behind e ∙ ap (λ to. bind to (λ next. report_from next (slice_split is_line_feed behind))) h
line_unread d now text bytes behind fault.NoMemory e h = tt

pub line_taken : (d now : Draft) (text bytes behind : List ℕ) → slice_split is_line_feed text ≡ bytes ∷ slice_split is_line_feed behind
    → line_added d bytes ≡ Some now → report_from d (slice_split is_line_feed text) ≡ report_from now (slice_split is_line_feed behind)
line_taken d now text bytes behind e h =
    split_run d text bytes behind e ∙ ap (λ to. bind to (λ next. report_from next (slice_split is_line_feed behind))) h

-- a fault is handed on
pub unread_as : (why : Fault) (o p : Option Report) → o ≡ p → IsUnread o why → IsReading {A = Report} (Err why) p
unread_as fault.Bad o p e h = sym e ∙ h
unread_as fault.NoMemory o p e h = tt

some_parts : (lines : List (List (List ℕ))) → parts_of lines ≢ []
some_parts [] e = cc
some_parts (line ∷ lines) e = cc

line_run : (d next : Draft) (l : Line) (rest : List (List (List ℕ))) → LineIsGood l → IsLine (line_fields l) → step d l ≡ Some next
    → report_from d (parts_of (line_fields l ∷ rest)) ≡ report_from next (parts_of rest)
line_run d next l rest good plain e =
    report_more d (bytes_of (line_fields l)) (parts_of rest) (some_parts rest)
    ∙ ap (λ fields. bind (bind (line_of fields) (step d)) (λ next. report_from next (parts_of rest))) (fields_back (line_fields l) plain)
    ∙ ap (λ told. bind (bind told (step d)) (λ next. report_from next (parts_of rest))) (line_complete l good)
    ∙ ap (λ to. bind to (λ next. report_from next (parts_of rest))) e

-- ---- lines of one kind

plain_front : (a b : List (List (List ℕ))) → AllByRecursion IsLine (a ++ b) → AllByRecursion IsLine a
plain_front [] b h = tt
plain_front (line ∷ a) b h = (h.0, plain_front a b h.1)

plain_back : (a b : List (List (List ℕ))) → AllByRecursion IsLine (a ++ b) → AllByRecursion IsLine b
plain_back [] b h = h
plain_back (line ∷ a) b h = plain_back a b h.1

diagnostics_run : (before ds : List Diagnostic) (rest : List (List (List ℕ))) → AllByRecursion DiagnosticIsHeld ds → AllByRecursion IsLine (map diagnostic_fields ds)
    → report_from (draft before [] [] part.Diagnostics) (parts_of (map diagnostic_fields ds ++ rest)) ≡ report_from (draft (before ++ ds) [] [] part.Diagnostics) (parts_of rest)
diagnostics_run before [] rest h plain = ap (λ xs. report_from (draft xs [] [] part.Diagnostics) (parts_of rest)) (sym (append-nil before))
diagnostics_run before (x ∷ ds) rest h plain =
    line_run (draft before [] [] part.Diagnostics) (draft (before ++ x ∷ []) [] [] part.Diagnostics) (line.Diagnostic x) (map diagnostic_fields ds ++ rest) h.0 plain.0 refl
    ∙ diagnostics_run (before ++ x ∷ []) ds rest h.1 plain.1
    ∙ ap (λ xs. report_from (draft xs [] [] part.Diagnostics) (parts_of rest)) (append_assoc before (x ∷ []) ds)

outputs_run : (ds : List Diagnostic) (hs : List Entry) (i : Input) (before os : List Output) (rest : List (List (List ℕ)))
    → AllByRecursion OutputIsHeld os → AllByRecursion OutputHasText os → AllByRecursion IsLine (map output_line os)
    → report_from (draft ds hs [] (part.Entry (entry i before))) (parts_of (map output_line os ++ rest))
    ≡ report_from (draft ds hs [] (part.Entry (entry i (before ++ os)))) (parts_of rest)
outputs_run ds hs i before [] rest h t plain = ap (λ xs. report_from (draft ds hs [] (part.Entry (entry i xs))) (parts_of rest)) (sym (append-nil before))
outputs_run ds hs i before (x ∷ os) rest h t plain =
    line_run (draft ds hs [] (part.Entry (entry i before))) (draft ds hs [] (part.Entry (entry i (before ++ x ∷ [])))) (line.Output x) (map output_line os ++ rest) (h.0, t.0) plain.0 refl
    ∙ outputs_run ds hs i (before ++ x ∷ []) os rest h.1 t.1 plain.1
    ∙ ap (λ xs. report_from (draft ds hs [] (part.Entry (entry i xs))) (parts_of rest)) (append_assoc before (x ∷ []) os)

readings_run : (ds : List Diagnostic) (hs : List Entry) (cs : List ClientPart) (name domain : List ℕ) (before rs : List Reading) (rest : List (List (List ℕ)))
    → AllByRecursion ReadingIsHeld rs → AllByRecursion IsLine (map reading_line rs)
    → report_from (draft ds hs cs (part.Client (client_part name domain before))) (parts_of (map reading_line rs ++ rest))
    ≡ report_from (draft ds hs cs (part.Client (client_part name domain (before ++ rs)))) (parts_of rest)
readings_run ds hs cs name domain before [] rest h plain =
    ap (λ xs. report_from (draft ds hs cs (part.Client (client_part name domain xs))) (parts_of rest)) (sym (append-nil before))
readings_run ds hs cs name domain before (x ∷ rs) rest h plain =
    line_run (draft ds hs cs (part.Client (client_part name domain before))) (draft ds hs cs (part.Client (client_part name domain (before ++ x ∷ [])))) (line.Reading x)
    (map reading_line rs ++ rest) h.0 plain.0 refl
    ∙ readings_run ds hs cs name domain (before ++ x ∷ []) rs rest h.1 plain.1
    ∙ ap (λ xs. report_from (draft ds hs cs (part.Client (client_part name domain xs))) (parts_of rest)) (append_assoc before (x ∷ []) rs)

-- ---- entries

-- a draft of these diagnostics and entries, behind which the head of an entry may stand
record IsOpen (d : Draft) (ds : List Diagnostic) (hs : List Entry) : Type 0 where
  pub head : (i : Input) → with_head d i ≡ Some (draft ds hs [] (part.Entry (entry i [])))
  pub closed : closed_with d.latest d ≡ draft ds hs [] part.Diagnostics

-- what a draft leads to, with what is left
record LeadsTo (d : Draft) (parts : List (List ℕ)) (ds : List Diagnostic) (hs : List Entry) (rest : List (List ℕ)) : Type 0 where
  pub to : Draft
  pub is_open : IsOpen to ds hs
  pub same : report_from d parts ≡ report_from to rest

entries_run : (es : List Entry) (d : Draft) (ds : List Diagnostic) (hs : List Entry) (rest : List (List (List ℕ))) → IsOpen d ds hs
    → AllByRecursion EntryIsHeld es → AllByRecursion EntryHasText es → AllByRecursion IsLine (flat_map entry_lines es)
    → LeadsTo d (parts_of (flat_map entry_lines es ++ rest)) ds (hs ++ es) (parts_of rest)
entries_run [] d ds hs rest is h t plain = record {
  to = d;
  is_open = subst (IsOpen d ds) (sym (append-nil hs)) is;
  same = refl;
}
entries_run (e ∷ es) d ds hs rest is h t plain =
    let outputs = map output_line e.outputs in
    let later = flat_map entry_lines es ++ rest in
    let front = plain_front (entry_lines e) (flat_map entry_lines es) plain in
    let next = entries_run es (draft ds hs [] (part.Entry e)) ds (hs ++ e ∷ []) rest (record { head = λ i. refl; closed = refl }) h.1 t.1
    (plain_back (entry_lines e) (flat_map entry_lines es) plain) in
    record {
      to = next.to;
      is_open = subst (IsOpen next.to ds) (append_assoc hs (e ∷ []) es) next.is_open;
      same =
          ap (λ ls. report_from d (parts_of ls)) (append_assoc (entry_lines e) (flat_map entry_lines es) rest)
          ∙ line_run d (draft ds hs [] (part.Entry (entry e.input []))) (line.Head e.input) (outputs ++ later) h.0.0 front.0 (is.head e.input)
          ∙ outputs_run ds hs e.input [] e.outputs later h.0.1 t.0 front.1
          ∙ next.same;
    }

-- ---- clients

record ClosesTo (d : Draft) (parts : List (List ℕ)) (ds : List Diagnostic) (hs : List Entry) (cs : List ClientPart) (rest : List (List ℕ)) : Type 0 where
  pub to : Draft
  pub closed : closed_with to.latest to ≡ draft ds hs cs part.Diagnostics
  pub same : report_from d parts ≡ report_from to rest

same_number : (n : ℕ) → (n == n) ≡ true
same_number n = grind (arith, nat_tests)

client_step : (d : Draft) (ds : List Diagnostic) (hs : List Entry) (cs : List ClientPart) (name domain : List ℕ) → closed_with d.latest d ≡ draft ds hs cs part.Diagnostics
    → with_client d (length cs + 1) name domain ≡ Some (draft ds hs cs (part.Client (client_part name domain [])))
client_step d ds hs cs name domain closed =
    let opened : Draft → Draft = λ c. draft c.diagnostics c.history c.clients (part.Client (client_part name domain [])) in
    ap (λ c. cond (length cs + 1 == length c.clients + 1) (Some (draft c.diagnostics c.history c.clients (part.Client (client_part name domain [])))) None) closed
    ∙ ap (λ b. cond b (Some (draft ds hs cs (part.Client (client_part name domain [])))) None) (same_number (length cs + 1))

clients_run : (ps : List ClientPart) (d : Draft) (ds : List Diagnostic) (hs : List Entry) (cs : List ClientPart) (rest : List (List (List ℕ)))
    → closed_with d.latest d ≡ draft ds hs cs part.Diagnostics → length cs + length ps < 2 ^ 64 → AllByRecursion PartIsHeld ps
    → AllByRecursion IsLine (clients_lines (length cs + 1) ps)
    → ClosesTo d (parts_of (clients_lines (length cs + 1) ps ++ rest)) ds hs (cs ++ ps) (parts_of rest)
clients_run [] d ds hs cs rest closed few h plain = record {
  to = d;
  closed = closed ∙ ap (λ xs. draft ds hs xs part.Diagnostics) (sym (append-nil cs));
  same = refl;
}
clients_run (p ∷ ps) d ds hs cs rest closed few h plain =
    let id = length cs + 1 in
    let readings = map reading_line p.readings in
    let later = clients_lines (id + 1) ps ++ rest in
    let front = plain_front (client_lines id p) (clients_lines (id + 1) ps) plain in
    let count : length (cs ++ p ∷ []) + 1 ≡ id + 1 = omega (arith, length-append cs (p ∷ [])) in
    let small : length (cs ++ p ∷ []) + length ps < 2 ^ 64 = omega (arith, length-append cs (p ∷ [])) in
    let next = clients_run ps (draft ds hs cs (part.Client p)) ds hs (cs ++ p ∷ []) rest refl small h.1
    (subst (λ n. AllByRecursion IsLine (clients_lines n ps)) (sym count) (plain_back (client_lines id p) (clients_lines (id + 1) ps) plain)) in
    record {
      to = next.to;
      closed = next.closed ∙ ap (λ xs. draft ds hs xs part.Diagnostics) (append_assoc cs (p ∷ []) ps);
      same =
          ap (λ ls. report_from d (parts_of ls)) (append_assoc (client_lines id p) (clients_lines (id + 1) ps) rest)
          ∙ line_run d (draft ds hs cs (part.Client (client_part p.name p.domain []))) (line.Client id p.name p.domain) (readings ++ later)
          (let number : id < 2 ^ 64 = omega arith in number, h.0.0, h.0.1) front.0 (client_step d ds hs cs p.name p.domain closed)
          ∙ readings_run ds hs cs p.name p.domain [] p.readings later h.0.2 front.1
          ∙ ap (λ n. report_from (draft ds hs cs (part.Client p)) (parts_of (clients_lines n ps ++ rest))) (sym count)
          ∙ next.same;
    }

-- ---- a report

pub run_complete : (report : Report) → IsHeld report → HasText report → AllByRecursion IsLine (body_lines report)
    → report_from (draft [] [] [] part.Diagnostics) (parts_of (body_lines report)) ≡ Some report
run_complete report h t plain =
    let ds = report.diagnostics in
    let hs = report.history in
    let cs = report.clients in
    let clients = clients_lines 1 cs in
    let inner = flat_map entry_lines hs ++ clients in
    let back = plain_back (map diagnostic_fields ds) inner plain in
    let entries = entries_run hs (draft ds [] [] part.Diagnostics) ds [] clients (record { head = λ i. refl; closed = refl }) h.history t
    (plain_front (flat_map entry_lines hs) clients back) in
    let few : 0 + length cs < 2 ^ 64 = omega (arith, h.count) in
    let parts = clients_run cs entries.to ds hs [] [] entries.is_open.closed few h.clients (plain_back (flat_map entry_lines hs) clients back) in
    diagnostics_run [] ds inner h.diagnostics (plain_front (map diagnostic_fields ds) inner plain)
    ∙ entries.same
    ∙ ap (λ ls. report_from entries.to (parts_of ls)) (sym (append-nil clients))
    ∙ parts.same
    ∙ ap (λ c. Some (record { diagnostics = c.diagnostics; history = c.history; clients = c.clients })) parts.closed
