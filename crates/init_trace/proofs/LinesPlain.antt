-- No space and no LF stands in a field of a report's line.
use Rattle.std.proofs.Common.{◌≡◌, ℕ, ◌+◌, true, List, [], ◌∷◌, ◌++◌, map, refl}
use Rattle.std.specs.List.{flat_map, AllByRecursion}
use Rattle.init_machine.specs.declared.diagnostic.Diagnostic.{Diagnostic}
use Rattle.init_machine.specs.declared.input.Input.{Input}
use Rattle.init_machine.specs.declared.input.Input.TheVariants as input
use Rattle.init_machine.specs.declared.output.Cause.{Cause}
use Rattle.init_machine.specs.declared.output.Cause.TheVariants as cause
use Rattle.init_machine.specs.declared.output.How.{How}
use Rattle.init_machine.specs.declared.output.How.TheVariants as how
use Rattle.init_machine.specs.declared.output.Output.{Output}
use Rattle.init_machine.specs.declared.output.Output.TheVariants as output
use Rattle.init_machine.specs.declared.output.SetRefusal.{SetRefusal}
use Rattle.init_machine.specs.declared.output.SetRefusal.TheVariants as refusal
use Rattle.init_machine.specs.declared.report.ClientPart.{ClientPart}
use Rattle.init_machine.specs.declared.report.Entry.{Entry}
use Rattle.init_machine.specs.declared.report.Reading.{Reading}
use Rattle.init_machine.specs.declared.report.Reading.TheVariants as reading
use Rattle.init_machine.specs.declared.report.Report.{Report}
use Rattle.init_trace.specs.Fields.{refusal_fields, cause_fields, how_fields, output_fields, reading_fields, head_fields, diagnostic_fields}
use Rattle.init_trace.specs.Quoted.{quoted}
use Rattle.init_trace.specs.Report.{client_fields, client_lines, clients_lines, entry_lines, end_fields, output_line, reading_line, report_lines, title_fields}
use Rattle.init_trace.proofs.Spelling.{is_field-decimal, is_field-hex16, is_field-quoted}
use Rattle.init_trace.proofs.Splitting.{are_fields, IsLine}
use Rattle.init_trace.proofs.WordsRead.{is_field-word_text, is_field-kind_text, is_field-tree_text}

are_fields-refusal : (r : SetRefusal) → are_fields (refusal_fields r) ≡ true
unfolding refusal_fields
are_fields-refusal refusal.Spent = refl
are_fields-refusal (refusal.Down target) = rw (is_field-quoted target) refl
are_fields-refusal refusal.InvalidName = refl
are_fields-refusal refusal.UnknownControl = refl
are_fields-refusal (refusal.Denied context) = rw (is_field-quoted context) refl
are_fields-refusal refusal.NoSuchService = refl
are_fields-refusal refusal.InvalidType = refl
are_fields-refusal (refusal.ValueTooLong len) = rw (is_field-decimal len) refl
are_fields-refusal refusal.NotUtf8 = refl
are_fields-refusal (refusal.ReadOnly number) = rw (is_field-decimal number) refl
are_fields-refusal (refusal.AreaFull used need) = rw (is_field-decimal used, is_field-decimal need) refl
are_fields-refusal (refusal.NumberSpent last) = rw (is_field-decimal last) refl
are_fields-refusal refusal.NoMemory = refl

are_fields-cause : (c : Cause) → are_fields (cause_fields c) ≡ true
unfolding cause_fields
are_fields-cause (cause.Absent name) = rw (is_field-quoted name) refl
are_fields-cause (cause.BadForm place) = rw (is_field-decimal place) refl
are_fields-cause cause.TooLong = refl
are_fields-cause (cause.NoSuchService name) = rw (is_field-quoted name) refl
are_fields-cause (cause.AlreadyRunning name) = rw (is_field-quoted name) refl
are_fields-cause cause.NoPid = refl
are_fields-cause (cause.BadArgument number) = rw (is_field-decimal number) refl
are_fields-cause (cause.Tree kind) = rw (is_field-tree_text kind) refl
are_fields-cause (cause.Set r) = are_fields-refusal r

are_fields-how : (w : How) → are_fields (how_fields w) ≡ true
unfolding how_fields
are_fields-how (how.Exit status) = rw (is_field-decimal status) refl
are_fields-how how.Killed = refl

are_fields-texts : (texts : List (List ℕ)) → are_fields (map quoted texts) ≡ true
are_fields-texts [] = refl
are_fields-texts (text ∷ rest) = rw (is_field-quoted text) (are_fields-texts rest)

are_fields-output : (o : Output) → are_fields (output_fields o) ≡ true
are_fields-output (output.Event name) = rw (is_field-quoted name) refl
are_fields-output (output.Change name value) = rw (is_field-quoted name, is_field-quoted value) refl
are_fields-output output.AllProperties = refl
are_fields-output (output.Action file line) = rw (is_field-quoted file, is_field-decimal line) refl
are_fields-output (output.Command file line word args) = rw (is_field-quoted file, is_field-decimal line, is_field-word_text word) (are_fields-texts args)
are_fields-output (output.Put number name value) = rw (is_field-decimal number, is_field-quoted name, is_field-quoted value) refl
are_fields-output (output.Stored name) = rw (is_field-quoted name) refl
are_fields-output (output.Unset name r) = rw (is_field-quoted name) (are_fields-refusal r)
are_fields-output (output.Spawn pid name path) = rw (is_field-decimal pid.0, is_field-quoted name, is_field-quoted path) refl
are_fields-output (output.NoPid name) = rw (is_field-quoted name) refl
are_fields-output (output.Kill pid name) = rw (is_field-decimal pid.0, is_field-quoted name) refl
are_fields-output (output.Reap pid name w) = rw (is_field-decimal pid.0, is_field-quoted name) (are_fields-how w)
are_fields-output (output.Env name value) = rw (is_field-quoted name, is_field-quoted value) refl
are_fields-output (output.Tree path) = rw (is_field-quoted path) refl
are_fields-output output.Noted = refl
are_fields-output output.Ok = refl
are_fields-output (output.Failed c) = are_fields-cause c
are_fields-output (output.WaitChild pid) = rw (is_field-decimal pid.0) refl
are_fields-output (output.WaitProp name value) = rw (is_field-quoted name, is_field-quoted value) refl
are_fields-output (output.WaitFile path until) = rw (is_field-quoted path, is_field-decimal until.0) refl
are_fields-output output.Released = refl
are_fields-output output.Timeout = refl
are_fields-output output.Blocked = refl
are_fields-output output.Idle = refl
are_fields-output output.Down = refl
are_fields-output output.TooFar = refl
are_fields-output output.NoProcess = refl
are_fields-output (output.Reboot target) = rw (is_field-quoted target) refl
are_fields-output (output.Accepted number) = rw (is_field-decimal number) refl
are_fields-output (output.Control number) = rw (is_field-decimal number) refl
are_fields-output (output.Refused r) = are_fields-refusal r

are_fields-reading : (r : Reading) → are_fields (reading_fields r) ≡ true
are_fields-reading (reading.Found name number value) = rw (is_field-quoted name, is_field-decimal number, is_field-quoted value) refl
are_fields-reading (reading.Absent name number) = rw (is_field-quoted name, is_field-decimal number) refl
are_fields-reading (reading.Again name number one two) = rw (is_field-quoted name, is_field-decimal number, is_field-hex16 one, is_field-hex16 two) refl
are_fields-reading (reading.Synced number) = rw (is_field-decimal number) refl
are_fields-reading (reading.Caught number) = rw (is_field-decimal number) refl

IsLine-head : (i : Input) → IsLine (head_fields i)
IsLine-head input.Boot = refl
IsLine-head input.Next = refl
IsLine-head (input.Tick ms) = rw (is_field-decimal ms) refl
IsLine-head (input.Exit name status) = rw (is_field-quoted name, is_field-decimal status) refl
IsLine-head (input.File path content) = rw (is_field-quoted path, is_field-quoted content) refl
IsLine-head (input.Set who name value) = rw (is_field-decimal who.0, is_field-quoted name, is_field-quoted value) refl

IsLine-diagnostic : (d : Diagnostic) → IsLine (diagnostic_fields d)
IsLine-diagnostic d = rw (is_field-quoted d.file, is_field-decimal d.line, is_field-kind_text d.kind) refl

IsLine-client : (id : ℕ) (part : ClientPart) → IsLine (client_fields id part)
IsLine-client id part = rw (is_field-decimal id, is_field-quoted part.name, is_field-quoted part.domain) refl

-- lines behind other lines
all_then : (a b : List (List (List ℕ))) → AllByRecursion IsLine a → AllByRecursion IsLine b → AllByRecursion IsLine (a ++ b)
all_then [] b h k = k
all_then (line ∷ a) b h k = (h.0, all_then a b h.1 k)

each_line : {X : Type 0} (line : X → List (List ℕ)) → ((x : X) → IsLine (line x)) → (xs : List X) → AllByRecursion IsLine (map line xs)
each_line line each [] = tt
each_line line each (x ∷ xs) = (each x, each_line line each xs)

entries_plain : (entries : List Entry) → AllByRecursion IsLine (flat_map entry_lines entries)
entries_plain [] = tt
entries_plain (entry ∷ rest) =
    all_then (entry_lines entry) (flat_map entry_lines rest) (IsLine-head entry.input, each_line output_line are_fields-output entry.outputs) (entries_plain rest)

clients_plain : (id : ℕ) (parts : List ClientPart) → AllByRecursion IsLine (clients_lines id parts)
clients_plain id [] = tt
clients_plain id (part ∷ rest) =
    all_then (client_lines id part) (clients_lines (id + 1) rest) (IsLine-client id part, each_line reading_line are_fields-reading part.readings) (clients_plain (id + 1) rest)

pub lines_plain : (report : Report) → AllByRecursion IsLine (report_lines report)
lines_plain report =
    let diagnostics = map diagnostic_fields report.diagnostics in
    let entries = flat_map entry_lines report.history in
    let clients = clients_lines 1 report.clients in
    all_then ((title_fields ∷ diagnostics ++ entries) ++ clients) (end_fields ∷ [])
    (all_then (title_fields ∷ diagnostics ++ entries) clients (all_then (title_fields ∷ diagnostics) entries (refl, each_line diagnostic_fields IsLine-diagnostic report.diagnostics) (entries_plain report.history)) (clients_plain 1 report.clients))
    (refl, tt)
