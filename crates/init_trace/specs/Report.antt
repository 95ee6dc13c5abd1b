-- The text of a report in this project's trace format: `initsim 1`, a line for each diagnostic, each entry with its
-- outputs, each client with its readings, and `end`.
use Rattle.std.specs.Prelude.{ℕ, ◌+◌, List, [], ◌∷◌, ◌++◌, codes, map}
use Rattle.std.specs.Fmt.{decimal}
use Rattle.std.specs.List.{flat_map}
use Rattle.init_machine.specs.declared.diagnostic.Diagnostic.{Diagnostic}
use Rattle.init_machine.specs.declared.output.Output.{Output}
use Rattle.init_machine.specs.declared.report.ClientPart.{ClientPart}
use Rattle.init_machine.specs.declared.report.Entry.{Entry}
use Rattle.init_machine.specs.declared.report.Reading.{Reading}
use Rattle.init_machine.specs.declared.report.Report.{Report}
use Rattle.init_trace.specs.Fields.{diagnostic_fields, head_fields, output_fields, reading_fields}
use Rattle.init_trace.specs.Line.{lines_text}
use Rattle.init_trace.specs.Quoted.{quoted}

-- the first line of each text
abbrev pub title_fields : List (List ℕ)
title_fields = codes "initsim" ∷ codes "1" ∷ []

-- the last line of each text
abbrev pub end_fields : List (List ℕ)
end_fields = codes "end" ∷ []

-- an output's line is begun by a space
abbrev pub output_line : Output → List (List ℕ)
output_line output = [] ∷ output_fields output

-- a reading's line is begun by a space
abbrev pub reading_line : Reading → List (List ℕ)
reading_line reading = [] ∷ reading_fields reading

-- an entry: its head, and what the machine did
abbrev pub entry_lines : Entry → List (List (List ℕ))
entry_lines entry = head_fields entry.input ∷ map output_line entry.outputs

-- the head of a client's part
abbrev pub client_fields : ℕ → ClientPart → List (List ℕ)
client_fields id part = codes "client" ∷ decimal id ∷ quoted part.name ∷ quoted part.domain ∷ []

-- a client's part: its head, and what it learned
abbrev pub client_lines : ℕ → ClientPart → List (List (List ℕ))
client_lines id part = client_fields id part ∷ map reading_line part.readings

-- the parts of the clients, numbered from id on
abbrev pub clients_lines : ℕ → List ClientPart → List (List (List ℕ))
clients_lines id [] = []
clients_lines id (part ∷ rest) = client_lines id part ++ clients_lines (id + 1) rest

-- the lines of a report; clients are numbered from 1
abbrev pub report_lines : Report → List (List (List ℕ))
report_lines report =
    title_fields ∷ map diagnostic_fields report.diagnostics
    ++ flat_map entry_lines report.history
    ++ clients_lines 1 report.clients
    ++ end_fields ∷ []

-- the head of a text: its first line and the diagnostics
abbrev pub HeadText : List Diagnostic → List ℕ
HeadText diagnostics = lines_text (title_fields ∷ map diagnostic_fields diagnostics)

-- the text of an entry
abbrev pub EntryText : Entry → List ℕ
EntryText entry = lines_text (entry_lines entry)

-- the texts of entries, one after another
abbrev pub EntriesText : List Entry → List ℕ
EntriesText entries = flat_map EntryText entries

-- the tail of a text: the parts of the clients, which are numbered from 1, and its last line
abbrev pub TailText : List ClientPart → List ℕ
TailText clients = lines_text (clients_lines 1 clients ++ end_fields ∷ [])

-- the printed report
unfoldable pub TextOf : Report → List ℕ
TextOf report = lines_text (report_lines report)

-- the diagnostics alone, as they are printed where nothing was run: the text of a report without entries and clients
abbrev pub DiagnosticsText : List Diagnostic → List ℕ
DiagnosticsText diagnostics = TextOf (record { diagnostics = diagnostics; history = []; clients = [] })
