-- The fields of a line, read as what it tells.
use Rattle.std.proofs.Common.{◌≡◌, ℕ, List, [], ◌∷◌, map, refl, ap}
use Rattle.std.specs.Prelude.{codes}
use Rattle.init_machine.specs.declared.diagnostic.Diagnostic.{Diagnostic}
use Rattle.init_machine.specs.declared.input.Input.{Input}
use Rattle.init_machine.specs.declared.input.Input.TheVariants as input
use Rattle.init_machine.specs.declared.output.Cause.{Cause}
use Rattle.init_machine.specs.declared.output.Cause.TheVariants as cause
use Rattle.init_machine.specs.declared.output.How.{How}
use Rattle.init_machine.specs.declared.output.How.TheVariants as how
use Rattle.init_machine.specs.declared.output.Output.{Output}
use Rattle.init_machine.specs.declared.output.Output.TheVariants as output
use Rattle.init_machine.specs.declared.output.SetRefusal.{SetRefusal}
use Rattle.init_machine.specs.declared.output.SetRefusal.TheVariants as refusal
use Rattle.init_machine.specs.declared.report.ClientPart.{ClientPart}
use Rattle.init_machine.specs.declared.report.Reading.{Reading}
use Rattle.init_machine.specs.declared.report.Reading.TheVariants as reading
use Rattle.init_trace.specs.Fields.{refusal_fields, cause_fields, how_fields, head_fields, diagnostic_fields}
use Rattle.init_trace.specs.InRange.{RefusalInRange, CauseInRange, HowInRange, OutputInRange, InputInRange, ReadingInRange, DiagnosticInRange}
use Rattle.init_trace.specs.Quoted.{quoted}
use Rattle.init_trace.specs.Report.{title_fields, end_fields, output_line, reading_line, client_fields}
use Rattle.init_trace.proofs.Spelling.{unquoted, unquoted-quoted, number_of, number_of-decimal, serial_of, serial_of-hex16}
use Rattle.init_trace.proofs.WordsRead.{choose, word_of, word_of-word_text, kind_of, kind_of-kind_text, tree_of, tree_of-tree_text}

-- the fields behind the first, the first three fields
abbrev behind : List (List ℕ) → List (List ℕ)
behind [] = []
behind (field ∷ rest) = rest

abbrev first : List (List ℕ) → List ℕ
first [] = []
first (field ∷ rest) = field

abbrev second : List (List ℕ) → List ℕ
second fields = first (behind fields)

abbrev third : List (List ℕ) → List ℕ
third fields = first (behind (behind fields))

abbrev fourth : List (List ℕ) → List ℕ
fourth fields = first (behind (behind (behind fields)))

abbrev refusal_table : List (List ℕ × (List (List ℕ) → SetRefusal))
refusal_table =
    (codes "Spent", λ f. refusal.Spent)
    ∷ (codes "Down", λ f. refusal.Down (unquoted (first f)))
    ∷ (codes "InvalidName", λ f. refusal.InvalidName)
    ∷ (codes "UnknownControl", λ f. refusal.UnknownControl)
    ∷ (codes "Denied", λ f. refusal.Denied (unquoted (first f)))
    ∷ (codes "NoSuchService", λ f. refusal.NoSuchService)
    ∷ (codes "InvalidType", λ f. refusal.InvalidType)
    ∷ (codes "ValueTooLong", λ f. refusal.ValueTooLong (number_of (first f)))
    ∷ (codes "NotUtf8", λ f. refusal.NotUtf8)
    ∷ (codes "ReadOnly", λ f. refusal.ReadOnly (number_of (first f)))
    ∷ (codes "AreaFull", λ f. refusal.AreaFull (number_of (first f)) (number_of (second f)))
    ∷ (codes "NumberSpent", λ f. refusal.NumberSpent (number_of (first f)))
    ∷ (codes "NoMemory", λ f. refusal.NoMemory)
    ∷ []

refusal_of : List (List ℕ) → SetRefusal
refusal_of fields = choose refusal_table (λ f. refusal.Spent) (first fields) (behind fields)

refusal_of-fields : (r : SetRefusal) → RefusalInRange r → refusal_of (refusal_fields r) ≡ r
unfolding refusal_of refusal_fields
refusal_of-fields refusal.Spent h = refl
refusal_of-fields (refusal.Down target) h = ap refusal.Down (unquoted-quoted target)
refusal_of-fields refusal.InvalidName h = refl
refusal_of-fields refusal.UnknownControl h = refl
refusal_of-fields (refusal.Denied context) h = ap refusal.Denied (unquoted-quoted context)
refusal_of-fields refusal.NoSuchService h = refl
refusal_of-fields refusal.InvalidType h = refl
refusal_of-fields (refusal.ValueTooLong len) h = ap refusal.ValueTooLong (number_of-decimal len h)
refusal_of-fields refusal.NotUtf8 h = refl
refusal_of-fields (refusal.ReadOnly number) h = ap refusal.ReadOnly (number_of-decimal number h)
refusal_of-fields (refusal.AreaFull used need) h = rw (number_of-decimal used h.0, number_of-decimal need h.1) refl
refusal_of-fields (refusal.NumberSpent last) h = ap refusal.NumberSpent (number_of-decimal last h)
refusal_of-fields refusal.NoMemory h = refl

abbrev cause_table : List (List ℕ × (List (List ℕ) → Cause))
cause_table =
    (codes "Absent", λ f. cause.Absent (unquoted (first f)))
    ∷ (codes "BadForm", λ f. cause.BadForm (number_of (first f)))
    ∷ (codes "TooLong", λ f. cause.TooLong)
    ∷ (codes "NoSuchService", λ f. cause.NoSuchService (unquoted (first f)))
    ∷ (codes "AlreadyRunning", λ f. cause.AlreadyRunning (unquoted (first f)))
    ∷ (codes "NoPid", λ f. cause.NoPid)
    ∷ (codes "BadArgument", λ f. cause.BadArgument (number_of (first f)))
    ∷ (codes "Tree", λ f. cause.Tree (tree_of (first f)))
    ∷ (codes "Set", λ f. cause.Set (refusal_of f))
    ∷ []

cause_of : List (List ℕ) → Cause
cause_of fields = choose cause_table (λ f. cause.TooLong) (first fields) (behind fields)

cause_of-fields : (c : Cause) → CauseInRange c → cause_of (cause_fields c) ≡ c
unfolding cause_of cause_fields
cause_of-fields (cause.Absent name) h = ap cause.Absent (unquoted-quoted name)
cause_of-fields (cause.BadForm place) h = ap cause.BadForm (number_of-decimal place h)
cause_of-fields cause.TooLong h = refl
cause_of-fields (cause.NoSuchService name) h = ap cause.NoSuchService (unquoted-quoted name)
cause_of-fields (cause.AlreadyRunning name) h = ap cause.AlreadyRunning (unquoted-quoted name)
cause_of-fields cause.NoPid h = refl
cause_of-fields (cause.BadArgument number) h = ap cause.BadArgument (number_of-decimal number h)
cause_of-fields (cause.Tree kind) h = ap cause.Tree (tree_of-tree_text kind)
cause_of-fields (cause.Set r) h = ap cause.Set (refusal_of-fields r h)

abbrev how_table : List (List ℕ × (List (List ℕ) → How))
how_table = (codes "exit", λ f. how.Exit (number_of (first f))) ∷ (codes "killed", λ f. how.Killed) ∷ []

how_of : List (List ℕ) → How
how_of fields = choose how_table (λ f. how.Killed) (first fields) (behind fields)

how_of-fields : (w : How) → HowInRange w → how_of (how_fields w) ≡ w
unfolding how_of how_fields
how_of-fields (how.Exit status) h = ap how.Exit (number_of-decimal status h)
how_of-fields how.Killed h = refl

-- what a line tells
pub data Piece : Type 0 where
  is_frame : Piece
  is_diagnostic : Diagnostic → Piece
  is_head : Input → Piece
  is_output : Output → Piece
  is_client : List ℕ → List ℕ → Piece
  is_reading : Reading → Piece

-- a process's number; a time of the clock
abbrev wait_table : List (List ℕ × (List (List ℕ) → Piece))
wait_table =
    (codes "child", λ f. is_output (output.WaitChild (record { 0 = number_of (first f) })))
    ∷ (codes "prop", λ f. is_output (output.WaitProp (unquoted (first f)) (unquoted (second f))))
    ∷ (codes "file", λ f. is_output (output.WaitFile (unquoted (first f)) (record { 0 = number_of (second f) })))
    ∷ []

-- lines that are begun by a space
abbrev inner_table : List (List ℕ × (List (List ℕ) → Piece))
inner_table =
    (codes "event", λ f. is_output (output.Event (unquoted (first f))))
    ∷ (codes "change", λ f. is_output (output.Change (unquoted (first f)) (unquoted (second f))))
    ∷ (codes "all-properties", λ f. is_output output.AllProperties)
    ∷ (codes "action", λ f. is_output (output.Action (unquoted (first f)) (number_of (second f))))
    ∷ (codes "command", λ f. is_output (output.Command (unquoted (first f)) (number_of (second f)) (word_of (third f)) (map unquoted (behind (behind (behind f))))))
    ∷ (codes "put", λ f. is_output (output.Put (number_of (first f)) (unquoted (second f)) (unquoted (third f))))
    ∷ (codes "stored", λ f. is_output (output.Stored (unquoted (first f))))
    ∷ (codes "unset", λ f. is_output (output.Unset (unquoted (first f)) (refusal_of (behind f))))
    ∷ (codes "spawn", λ f. is_output (output.Spawn (record { 0 = number_of (first f) }) (unquoted (second f)) (unquoted (third f))))
    ∷ (codes "no-pid", λ f. is_output (output.NoPid (unquoted (first f))))
    ∷ (codes "kill", λ f. is_output (output.Kill (record { 0 = number_of (first f) }) (unquoted (second f))))
    ∷ (codes "reap", λ f. is_output (output.Reap (record { 0 = number_of (first f) }) (unquoted (second f)) (how_of (behind (behind f)))))
    ∷ (codes "env", λ f. is_output (output.Env (unquoted (first f)) (unquoted (second f))))
    ∷ (codes "tree", λ f. is_output (output.Tree (unquoted (first f))))
    ∷ (codes "noted", λ f. is_output output.Noted)
    ∷ (codes "ok", λ f. is_output output.Ok)
    ∷ (codes "failed", λ f. is_output (output.Failed (cause_of f)))
    ∷ (codes "wait", λ f. choose wait_table (λ g. is_frame) (first f) (behind f))
    ∷ (codes "released", λ f. is_output output.Released)
    ∷ (codes "timeout", λ f. is_output output.Timeout)
    ∷ (codes "blocked", λ f. is_output output.Blocked)
    ∷ (codes "idle", λ f. is_output output.Idle)
    ∷ (codes "down", λ f. is_output output.Down)
    ∷ (codes "too-far", λ f. is_output output.TooFar)
    ∷ (codes "no-process", λ f. is_output output.NoProcess)
    ∷ (codes "reboot", λ f. is_output (output.Reboot (unquoted (first f))))
    ∷ (codes "accepted", λ f. is_output (output.Accepted (number_of (first f))))
    ∷ (codes "control", λ f. is_output (output.Control (number_of (first f))))
    ∷ (codes "refused", λ f. is_output (output.Refused (refusal_of f)))
    ∷ (codes "found", λ f. is_reading (reading.Found (unquoted (first f)) (number_of (second f)) (unquoted (third f))))
    ∷ (codes "absent", λ f. is_reading (reading.Absent (unquoted (first f)) (number_of (second f))))
    ∷ (codes "again", λ f. is_reading (reading.Again (unquoted (first f)) (number_of (second f)) (serial_of (third f)) (serial_of (fourth f))))
    ∷ (codes "synced", λ f. is_reading (reading.Synced (number_of (first f))))
    ∷ (codes "caught", λ f. is_reading (reading.Caught (number_of (first f))))
    ∷ []

-- the other lines
abbrev head_table : List (List ℕ × (List (List ℕ) → Piece))
head_table =
    (codes "diag", λ f. is_diagnostic (record { file = unquoted (first f); line = number_of (second f); kind = kind_of (third f) }))
    ∷ (codes "boot", λ f. is_head input.Boot)
    ∷ (codes "next", λ f. is_head input.Next)
    ∷ (codes "tick", λ f. is_head (input.Tick (number_of (first f))))
    ∷ (codes "exit", λ f. is_head (input.Exit (unquoted (first f)) (number_of (second f))))
    ∷ (codes "file", λ f. is_head (input.File (unquoted (first f)) (unquoted (second f))))
    ∷ (codes "set", λ f. is_head (input.Set (record { 0 = number_of (first f) }) (unquoted (second f)) (unquoted (third f))))
    ∷ (codes "client", λ f. is_client (unquoted (second f)) (unquoted (third f)))
    ∷ []

abbrev inner_piece : List (List ℕ) → Piece
inner_piece fields = choose inner_table (λ f. is_frame) (first fields) (behind fields)

pub piece_of : List (List ℕ) → Piece
piece_of [] = is_frame
piece_of ([] ∷ rest) = inner_piece rest
piece_of ((byte ∷ word) ∷ rest) = choose head_table (λ f. is_frame) (byte ∷ word) rest

map_unquoted : (texts : List (List ℕ)) → map unquoted (map quoted texts) ≡ texts
map_unquoted [] = refl
map_unquoted (text ∷ rest) = rw (unquoted-quoted text, map_unquoted rest) refl

pub piece_of-output : (o : Output) → OutputInRange o → piece_of (output_line o) ≡ is_output o
unfolding piece_of
piece_of-output (output.Event name) h = rw (unquoted-quoted name) refl
piece_of-output (output.Change name value) h = rw (unquoted-quoted name, unquoted-quoted value) refl
piece_of-output output.AllProperties h = refl
piece_of-output (output.Action file line) h = rw (unquoted-quoted file, number_of-decimal line h) refl
piece_of-output (output.Command file line word args) h = rw (unquoted-quoted file, number_of-decimal line h, word_of-word_text word, map_unquoted args) refl
piece_of-output (output.Put number name value) h = rw (number_of-decimal number h, unquoted-quoted name, unquoted-quoted value) refl
piece_of-output (output.Stored name) h = rw (unquoted-quoted name) refl
piece_of-output (output.Unset name r) h = rw (unquoted-quoted name, refusal_of-fields r h) refl
piece_of-output (output.Spawn pid name path) h = rw (number_of-decimal pid.0 h, unquoted-quoted name, unquoted-quoted path) refl
piece_of-output (output.NoPid name) h = rw (unquoted-quoted name) refl
piece_of-output (output.Kill pid name) h = rw (number_of-decimal pid.0 h, unquoted-quoted name) refl
piece_of-output (output.Reap pid name w) h = rw (number_of-decimal pid.0 h.0, unquoted-quoted name, how_of-fields w h.1) refl
piece_of-output (output.Env name value) h = rw (unquoted-quoted name, unquoted-quoted value) refl
piece_of-output (output.Tree path) h = rw (unquoted-quoted path) refl
piece_of-output output.Noted h = refl
piece_of-output output.Ok h = refl
piece_of-output (output.Failed c) h = rw (cause_of-fields c h) refl
piece_of-output (output.WaitChild pid) h = rw (number_of-decimal pid.0 h) refl
piece_of-output (output.WaitProp name value) h = rw (unquoted-quoted name, unquoted-quoted value) refl
piece_of-output (output.WaitFile path until) h = rw (unquoted-quoted path, number_of-decimal until.0 h) refl
piece_of-output output.Released h = refl
piece_of-output output.Timeout h = refl
piece_of-output output.Blocked h = refl
piece_of-output output.Idle h = refl
piece_of-output output.Down h = refl
piece_of-output output.TooFar h = refl
piece_of-output output.NoProcess h = refl
piece_of-output (output.Reboot target) h = rw (unquoted-quoted target) refl
piece_of-output (output.Accepted number) h = rw (number_of-decimal number h) refl
piece_of-output (output.Control number) h = rw (number_of-decimal number h) refl
piece_of-output (output.Refused r) h = rw (refusal_of-fields r h) refl

pub piece_of-reading : (r : Reading) → ReadingInRange r → piece_of (reading_line r) ≡ is_reading r
unfolding piece_of
piece_of-reading (reading.Found name number value) h = rw (unquoted-quoted name, number_of-decimal number h, unquoted-quoted value) refl
piece_of-reading (reading.Absent name number) h = rw (unquoted-quoted name, number_of-decimal number h) refl
piece_of-reading (reading.Again name number one two) h = rw (unquoted-quoted name, number_of-decimal number h.0, serial_of-hex16 one h.1, serial_of-hex16 two h.2) refl
piece_of-reading (reading.Synced number) h = rw (number_of-decimal number h) refl
piece_of-reading (reading.Caught number) h = rw (number_of-decimal number h) refl

pub piece_of-head : (i : Input) → InputInRange i → piece_of (head_fields i) ≡ is_head i
unfolding piece_of
piece_of-head input.Boot h = refl
piece_of-head input.Next h = refl
piece_of-head (input.Tick ms) h = rw (number_of-decimal ms h) refl
piece_of-head (input.Exit name status) h = rw (unquoted-quoted name, number_of-decimal status h) refl
piece_of-head (input.File path content) h = rw (unquoted-quoted path, unquoted-quoted content) refl
piece_of-head (input.Set who name value) h = rw (number_of-decimal who.0 h, unquoted-quoted name, unquoted-quoted value) refl

pub piece_of-diagnostic : (d : Diagnostic) → DiagnosticInRange d → piece_of (diagnostic_fields d) ≡ is_diagnostic d
unfolding piece_of
piece_of-diagnostic d h = rw (unquoted-quoted d.file, number_of-decimal d.line h, kind_of-kind_text d.kind) refl

pub piece_of-client : (id : ℕ) (part : ClientPart) → piece_of (client_fields id part) ≡ is_client part.name part.domain
unfolding piece_of
piece_of-client id part = rw (unquoted-quoted part.name, unquoted-quoted part.domain) refl

pub piece_of-title : piece_of title_fields ≡ is_frame
unfolding piece_of
piece_of-title = refl

pub piece_of-end : piece_of end_fields ≡ is_frame
unfolding piece_of
piece_of-end = refl
