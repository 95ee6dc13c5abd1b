-- The lines of a report, read as the report.
use Rattle.std.proofs.Common.{◌≡◌, ℕ, ◌+◌, List, [], ◌∷◌, ◌++◌, map, append_assoc, sym, ap, ◌∙◌}
use Rattle.std.specs.List.{flat_map, AllByRecursion}
use Rattle.init_machine.specs.declared.diagnostic.Diagnostic.{Diagnostic}
use Rattle.init_machine.specs.declared.output.Output.{Output}
use Rattle.init_machine.specs.declared.report.ClientPart.{ClientPart}
use Rattle.init_machine.specs.declared.report.Entry.{Entry}
use Rattle.init_machine.specs.declared.report.Reading.{Reading}
use Rattle.init_machine.specs.declared.report.Report.{Report}
use Rattle.init_trace.specs.Fields.{diagnostic_fields, head_fields}
use Rattle.init_trace.specs.InRange.{InRange, DiagnosticInRange, EntryInRange, OutputInRange, PartInRange, ReadingInRange}
use Rattle.init_trace.specs.Report.{client_fields, client_lines, clients_lines, entry_lines, end_fields, output_line, reading_line, report_lines, title_fields, TextOf}
use Rattle.init_trace.proofs.FieldsRead.{Piece, is_frame, is_diagnostic, is_head, is_output, is_client, is_reading, piece_of, piece_of-output, piece_of-reading, piece_of-head, piece_of-diagnostic, piece_of-client, piece_of-title, piece_of-end}
use Rattle.init_trace.proofs.LinesPlain.{lines_plain}
use Rattle.init_trace.proofs.Splitting.{split, split-lines_text}

-- what lines tell, read from the last one on: outputs and readings wait for the head that stands before them
record Told : Type 0 where
  outputs : List Output
  readings : List Reading
  diagnostics : List Diagnostic
  history : List Entry
  clients : List ClientPart

abbrev told : List Output → List Reading → List Diagnostic → List Entry → List ClientPart → Told
told outputs readings diagnostics history clients =
    record { outputs = outputs; readings = readings; diagnostics = diagnostics; history = history; clients = clients }

abbrev with_piece : Piece → Told → Told
with_piece is_frame t = t
with_piece (is_diagnostic d) t = told t.outputs t.readings (d ∷ t.diagnostics) t.history t.clients
with_piece (is_head i) t = told [] t.readings t.diagnostics (record { input = i; outputs = t.outputs } ∷ t.history) t.clients
with_piece (is_output o) t = told (o ∷ t.outputs) t.readings t.diagnostics t.history t.clients
with_piece (is_client name domain) t = told t.outputs [] t.diagnostics t.history (record { name = name; domain = domain; readings = t.readings } ∷ t.clients)
with_piece (is_reading r) t = told t.outputs (r ∷ t.readings) t.diagnostics t.history t.clients

told_by : List (List (List ℕ)) → Told
told_by [] = told [] [] [] [] []
told_by (line ∷ lines) = with_piece (piece_of line) (told_by lines)

told_by-line : (line : List (List ℕ)) (lines : List (List (List ℕ))) (p : Piece) (t : Told) → piece_of line ≡ p → told_by lines ≡ t → told_by (line ∷ lines) ≡ with_piece p t
unfolding told_by
told_by-line line lines p t e f = ap (λ q. with_piece q (told_by lines)) e ∙ ap (with_piece p) f

told_by-outputs : (outputs : List Output) (rest : List (List (List ℕ))) (history : List Entry) (clients : List ClientPart) → AllByRecursion OutputInRange outputs
    → told_by rest ≡ told [] [] [] history clients → told_by (map output_line outputs ++ rest) ≡ told outputs [] [] history clients
told_by-outputs [] rest history clients h e = e
told_by-outputs (o ∷ outputs) rest history clients h e =
    told_by-line (output_line o) (map output_line outputs ++ rest) (is_output o) (told outputs [] [] history clients) (piece_of-output o h.0) (told_by-outputs outputs rest history clients h.1 e)

told_by-readings : (readings : List Reading) (rest : List (List (List ℕ))) (clients : List ClientPart) → AllByRecursion ReadingInRange readings
    → told_by rest ≡ told [] [] [] [] clients → told_by (map reading_line readings ++ rest) ≡ told [] readings [] [] clients
told_by-readings [] rest clients h e = e
told_by-readings (r ∷ readings) rest clients h e =
    told_by-line (reading_line r) (map reading_line readings ++ rest) (is_reading r) (told [] readings [] [] clients) (piece_of-reading r h.0) (told_by-readings readings rest clients h.1 e)

told_by-entries : (history : List Entry) (rest : List (List (List ℕ))) (clients : List ClientPart) → AllByRecursion EntryInRange history
    → told_by rest ≡ told [] [] [] [] clients → told_by (flat_map entry_lines history ++ rest) ≡ told [] [] [] history clients
told_by-entries [] rest clients h e = e
told_by-entries (entry ∷ history) rest clients h e =
    let outputs = map output_line entry.outputs in
    let later = flat_map entry_lines history ++ rest in
    ap told_by (append_assoc (entry_lines entry) (flat_map entry_lines history) rest)
    ∙ told_by-line (head_fields entry.input) (outputs ++ later) (is_head entry.input) (told entry.outputs [] [] history clients) (piece_of-head entry.input h.0.0)
    (told_by-outputs entry.outputs later history clients h.0.1 (told_by-entries history rest clients h.1 e))

told_by-clients : (id : ℕ) (clients : List ClientPart) (rest : List (List (List ℕ))) → AllByRecursion PartInRange clients
    → told_by rest ≡ told [] [] [] [] [] → told_by (clients_lines id clients ++ rest) ≡ told [] [] [] [] clients
told_by-clients id [] rest h e = e
told_by-clients id (part ∷ clients) rest h e =
    let readings = map reading_line part.readings in
    let later = clients_lines (id + 1) clients ++ rest in
    ap told_by (append_assoc (client_lines id part) (clients_lines (id + 1) clients) rest)
    ∙ told_by-line (client_fields id part) (readings ++ later) (is_client part.name part.domain) (told [] part.readings [] [] clients) (piece_of-client id part)
    (told_by-readings part.readings later clients h.0 (told_by-clients (id + 1) clients rest h.1 e))

told_by-diagnostics : (diagnostics : List Diagnostic) (rest : List (List (List ℕ))) (history : List Entry) (clients : List ClientPart) → AllByRecursion DiagnosticInRange diagnostics
    → told_by rest ≡ told [] [] [] history clients → told_by (map diagnostic_fields diagnostics ++ rest) ≡ told [] [] diagnostics history clients
told_by-diagnostics [] rest history clients h e = e
told_by-diagnostics (d ∷ diagnostics) rest history clients h e =
    told_by-line (diagnostic_fields d) (map diagnostic_fields diagnostics ++ rest) (is_diagnostic d) (told [] [] diagnostics history clients) (piece_of-diagnostic d h.0) (told_by-diagnostics diagnostics rest history clients h.1 e)

told_by-end : told_by (end_fields ∷ []) ≡ told [] [] [] [] []
unfolding told_by
told_by-end = ap (λ p. with_piece p (told [] [] [] [] [])) piece_of-end

told_by-report : (report : Report) → InRange report → told_by (report_lines report) ≡ told [] [] report.diagnostics report.history report.clients
told_by-report report h =
    let diagnostics = map diagnostic_fields report.diagnostics in
    let entries = flat_map entry_lines report.history in
    let clients = clients_lines 1 report.clients in
    let end = end_fields ∷ [] in
    ap told_by (append_assoc (title_fields ∷ diagnostics ++ entries) clients end ∙ append_assoc (title_fields ∷ diagnostics) entries (clients ++ end))
    ∙ told_by-line title_fields (diagnostics ++ (entries ++ (clients ++ end))) is_frame (told [] [] report.diagnostics report.history report.clients) piece_of-title
    (told_by-diagnostics report.diagnostics (entries ++ (clients ++ end)) report.history report.clients h.diagnostics
    (told_by-entries report.history (clients ++ end) report.clients h.history (told_by-clients 1 report.clients end h.clients told_by-end)))

-- the report with this text
pub report_of : List ℕ → Report
report_of text =
    let t = told_by (split text) in
    record { diagnostics = t.diagnostics; history = t.history; clients = t.clients }

pub report_of-TextOf : (report : Report) → InRange report → report_of (TextOf report) ≡ report
unfolding report_of TextOf
report_of-TextOf report h =
    ap (λ t. record { diagnostics = t.diagnostics; history = t.history; clients = t.clients })
    (ap told_by (split-lines_text (report_lines report) (lines_plain report)) ∙ told_by-report report h)

pub same_report : (a b : Report) → InRange a → InRange b → TextOf a ≡ TextOf b → a ≡ b
same_report a b h k e = sym (report_of-TextOf a h) ∙ ap report_of e ∙ report_of-TextOf b k
