-- The lines of a report in this project's trace format, each as its fields. A word, a kind and a refusal stand by their
-- names, each text in q form, each number decimal, a serial as 16 hexadecimal digits. A head has its word first; the
-- line of an output or a reading is begun by a space, so its first field is empty.
use Rattle.std.specs.Prelude.{ℕ, List, [], ◌∷◌, codes, map}
use Rattle.std.specs.Fmt.{decimal}
use Rattle.init_machine.specs.declared.diagnostic.Diagnostic.{Diagnostic}
use Rattle.init_machine.specs.declared.input.Input.{Input}
use Rattle.init_machine.specs.declared.input.Input.TheVariants as input
use Rattle.init_machine.specs.declared.output.Cause.{Cause}
use Rattle.init_machine.specs.declared.output.Cause.TheVariants as cause
use Rattle.init_machine.specs.declared.output.How.{How}
use Rattle.init_machine.specs.declared.output.How.TheVariants as how
use Rattle.init_machine.specs.declared.output.Output.{Output}
use Rattle.init_machine.specs.declared.output.Output.TheVariants as output
use Rattle.init_machine.specs.declared.output.SetRefusal.{SetRefusal}
use Rattle.init_machine.specs.declared.output.SetRefusal.TheVariants as refusal
use Rattle.init_machine.specs.declared.report.Reading.{Reading}
use Rattle.init_machine.specs.declared.report.Reading.TheVariants as reading
use Rattle.init_trace.specs.Quoted.{quoted, hex16}
use Rattle.init_machine.specs.WordTexts.{word_text}
use Rattle.init_trace.specs.Words.{kind_text, tree_text}

-- the name of the refusal, and what it tells
unfoldable pub refusal_fields : SetRefusal → List (List ℕ)
refusal_fields refusal.Spent = codes "Spent" ∷ []
refusal_fields (refusal.Down target) = codes "Down" ∷ quoted target ∷ []
refusal_fields refusal.InvalidName = codes "InvalidName" ∷ []
refusal_fields refusal.UnknownControl = codes "UnknownControl" ∷ []
refusal_fields (refusal.Denied context) = codes "Denied" ∷ quoted context ∷ []
refusal_fields refusal.NoSuchService = codes "NoSuchService" ∷ []
refusal_fields refusal.InvalidType = codes "InvalidType" ∷ []
refusal_fields (refusal.ValueTooLong len) = codes "ValueTooLong" ∷ decimal len ∷ []
refusal_fields refusal.NotUtf8 = codes "NotUtf8" ∷ []
refusal_fields (refusal.ReadOnly number) = codes "ReadOnly" ∷ decimal number ∷ []
refusal_fields (refusal.AreaFull used need) = codes "AreaFull" ∷ decimal used ∷ decimal need ∷ []
refusal_fields (refusal.NumberSpent last) = codes "NumberSpent" ∷ decimal last ∷ []
refusal_fields refusal.NoMemory = codes "NoMemory" ∷ []

-- why a command failed
unfoldable pub cause_fields : Cause → List (List ℕ)
cause_fields (cause.Absent name) = codes "Absent" ∷ quoted name ∷ []
cause_fields (cause.BadForm place) = codes "BadForm" ∷ decimal place ∷ []
cause_fields cause.TooLong = codes "TooLong" ∷ []
cause_fields (cause.NoSuchService name) = codes "NoSuchService" ∷ quoted name ∷ []
cause_fields (cause.AlreadyRunning name) = codes "AlreadyRunning" ∷ quoted name ∷ []
cause_fields cause.NoPid = codes "NoPid" ∷ []
cause_fields (cause.BadArgument number) = codes "BadArgument" ∷ decimal number ∷ []
cause_fields (cause.Tree kind) = codes "Tree" ∷ tree_text kind ∷ []
cause_fields (cause.Set refusal) = codes "Set" ∷ refusal_fields refusal

-- how a process ended
unfoldable pub how_fields : How → List (List ℕ)
how_fields (how.Exit status) = codes "exit" ∷ decimal status ∷ []
how_fields how.Killed = codes "killed" ∷ []

-- what the machine did
abbrev pub output_fields : Output → List (List ℕ)
output_fields (output.Event name) = codes "event" ∷ quoted name ∷ []
output_fields (output.Change name value) = codes "change" ∷ quoted name ∷ quoted value ∷ []
output_fields output.AllProperties = codes "all-properties" ∷ []
output_fields (output.Action file line) = codes "action" ∷ quoted file ∷ decimal line ∷ []
output_fields (output.Command file line word args) =
    codes "command" ∷ quoted file ∷ decimal line ∷ word_text word ∷ map quoted args
output_fields (output.Put number name value) = codes "put" ∷ decimal number ∷ quoted name ∷ quoted value ∷ []
output_fields (output.Stored name) = codes "stored" ∷ quoted name ∷ []
output_fields (output.Unset name refusal) = codes "unset" ∷ quoted name ∷ refusal_fields refusal
output_fields (output.Spawn pid name path) = codes "spawn" ∷ decimal pid.0 ∷ quoted name ∷ quoted path ∷ []
output_fields (output.NoPid name) = codes "no-pid" ∷ quoted name ∷ []
output_fields (output.Kill pid name) = codes "kill" ∷ decimal pid.0 ∷ quoted name ∷ []
output_fields (output.Reap pid name how) = codes "reap" ∷ decimal pid.0 ∷ quoted name ∷ how_fields how
output_fields (output.Env name value) = codes "env" ∷ quoted name ∷ quoted value ∷ []
output_fields (output.Tree path) = codes "tree" ∷ quoted path ∷ []
output_fields output.Noted = codes "noted" ∷ []
output_fields output.Ok = codes "ok" ∷ []
output_fields (output.Failed cause) = codes "failed" ∷ cause_fields cause
output_fields (output.WaitChild pid) = codes "wait" ∷ codes "child" ∷ decimal pid.0 ∷ []
output_fields (output.WaitProp name value) = codes "wait" ∷ codes "prop" ∷ quoted name ∷ quoted value ∷ []
output_fields (output.WaitFile path until) = codes "wait" ∷ codes "file" ∷ quoted path ∷ decimal until.0 ∷ []
output_fields output.Released = codes "released" ∷ []
output_fields output.Timeout = codes "timeout" ∷ []
output_fields output.Blocked = codes "blocked" ∷ []
output_fields output.Idle = codes "idle" ∷ []
output_fields output.Down = codes "down" ∷ []
output_fields output.TooFar = codes "too-far" ∷ []
output_fields output.NoProcess = codes "no-process" ∷ []
output_fields (output.Reboot target) = codes "reboot" ∷ quoted target ∷ []
output_fields (output.Accepted number) = codes "accepted" ∷ decimal number ∷ []
output_fields (output.Control number) = codes "control" ∷ decimal number ∷ []
output_fields (output.Refused refusal) = codes "refused" ∷ refusal_fields refusal

-- what a client learned
abbrev pub reading_fields : Reading → List (List ℕ)
reading_fields (reading.Found name number value) = codes "found" ∷ quoted name ∷ decimal number ∷ quoted value ∷ []
reading_fields (reading.Absent name number) = codes "absent" ∷ quoted name ∷ decimal number ∷ []
reading_fields (reading.Again name number first second) =
    codes "again" ∷ quoted name ∷ decimal number ∷ hex16 first ∷ hex16 second ∷ []
reading_fields (reading.Synced number) = codes "synced" ∷ decimal number ∷ []
reading_fields (reading.Caught number) = codes "caught" ∷ decimal number ∷ []

-- the head of an entry: its input
abbrev pub head_fields : Input → List (List ℕ)
head_fields input.Boot = codes "boot" ∷ []
head_fields input.Next = codes "next" ∷ []
head_fields (input.Tick ms) = codes "tick" ∷ decimal ms ∷ []
head_fields (input.Exit name status) = codes "exit" ∷ quoted name ∷ decimal status ∷ []
head_fields (input.File path content) = codes "file" ∷ quoted path ∷ quoted content ∷ []
head_fields (input.Set who name value) = codes "set" ∷ decimal who.0 ∷ quoted name ∷ quoted value ∷ []

-- a mistake in a file
abbrev pub diagnostic_fields : Diagnostic → List (List ℕ)
diagnostic_fields d = codes "diag" ∷ quoted d.file ∷ decimal d.line ∷ kind_text d.kind ∷ []
