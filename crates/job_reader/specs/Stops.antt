-- Why nothing is run, checked or judged, and what each reader gives: what it reads, or why it gives nothing.
use Rattle.std.specs.Prelude.{◌≡◌, ℕ, ◌+◌, ◌<◌, ◌≤◌, ⊤, Bool, true, false, List, [], length, Option, Some, Result, Ok, Err}
use Rattle.init_base.specs.declared.outside.refusal.ReadRefusal.{ReadRefusal}
use Rattle.init_base.specs.declared.outside.refusal.ReadRefusal.TheVariants as reading
use Rattle.init_machine.specs.Policy.{PolicyLines}
use Rattle.init_machine.specs.declared.config.Config.{Config}
use Rattle.init_machine.specs.declared.config.Pair.{Pair}
use Rattle.init_machine.specs.declared.diagnostic.Diagnostic.{Diagnostic}
use Rattle.init_machine.specs.declared.limit.Limit.{Limit}
use Rattle.init_machine.specs.declared.limit.Limit.TheVariants as limits
use Rattle.persist_file.specs.declared.refusal.StoreRefusal.{StoreRefusal}
use Rattle.persist_file.specs.declared.refusal.StoreRefusal.TheVariants as store
use Rattle.prop_contexts.specs.declared.refusal.PolicyRefusal.{PolicyRefusal}
use Rattle.prop_contexts.specs.declared.refusal.PolicyRefusal.TheVariants as policy
use Rattle.prop_rules.specs.Build.{IsBuildFile}
use Rattle.prop_rules.specs.declared.build.BuildProps.{BuildProps}
use Rattle.rc_import.specs.World.{World}
use Rattle.rc_import.specs.declared.loaded.LoadRefusal.{LoadRefusal}
use Rattle.rc_import.specs.declared.loaded.LoadRefusal.TheVariants as load
use Rattle.rc_import.specs.declared.loaded.Loaded.{Loaded}
use Rattle.script_lang.specs.declared.fault.Fault.{Fault}
use Rattle.script_lang.specs.declared.fault.Fault.TheVariants as fault
use Rattle.script_lang.specs.declared.refusal.ScriptRefusal.{ScriptRefusal}
use Rattle.script_lang.specs.declared.refusal.ScriptRefusal.TheVariants as script
use Rattle.script_lang.specs.declared.script.Script.{Script}
use Rattle.job_reader.specs.Check.{IsTreeLimit}
use Rattle.job_reader.specs.Policy.{IsPolicyOf}
use Rattle.job_reader.specs.Script.{IsScriptIn, ScriptSays}
use Rattle.job_reader.specs.Store.{IsStoreOf, StoreSays}
use Rattle.job_reader.specs.Texts.{Tree, faults_of, pairs_of}
use Rattle.job_reader.specs.Trace.{TraceSays}
use Rattle.job_reader.specs.Tree.{AreBuildFilesShort, AreBuildFilesTooLarge, IsLoadOf, TreeSays, limit_of}
use Rattle.job_reader.specs.Tree.Purpose.{ToRun, ToCheck}
use Rattle.job_reader.specs.declared.grammar.Grammar.{Grammar}
use Rattle.job_reader.specs.declared.status.Status.{Status}
use Rattle.job_reader.specs.declared.status.Status.TheVariants as status
use Rattle.job_reader.specs.declared.stop.Stop.{Stop}
use Rattle.job_reader.specs.declared.stop.Stop.TheVariants as stop

abbrev pub status_of : Stop → Status
status_of stop.ReadFault = status.ReadFault
status_of stop.NoMemory = status.NoMemory
status_of (stop.BadScript line) = status.BadScript line
status_of stop.NoInit = status.NoInit
status_of (stop.TooLarge limit number) = status.TooLarge limit number
status_of (stop.BadPolicy allow line) = status.BadPolicy allow line
status_of (stop.BadStore line why) = status.BadStore line why
status_of stop.BadTrace = status.BadTrace

-- ---- each reader's own refusal

-- a text of the outside wasn't read; a limit of so many bytes is passed by one byte at least
abbrev pub reading_stop : Limit → ℕ → ReadRefusal → Stop
reading_stop limit most reading.Failed = stop.ReadFault
reading_stop limit most reading.TooLarge = stop.TooLarge limit (most + 1)
reading_stop limit most reading.NoMemory = stop.NoMemory

abbrev pub script_stop : ScriptRefusal → Stop
script_stop (script.TooLarge limit number) = stop.TooLarge limit number
script_stop (script.BadLine line) = stop.BadScript line
script_stop script.NoMemory = stop.NoMemory

abbrev pub policy_stop : PolicyRefusal → Stop
policy_stop (policy.BadLine allow line) = stop.BadPolicy allow line
policy_stop (policy.Twice line) = stop.BadPolicy false line
policy_stop (policy.NoDefault line) = stop.BadPolicy false line
policy_stop policy.NoMemory = stop.NoMemory

abbrev pub load_stop : LoadRefusal → Stop
load_stop load.NoInit = stop.NoInit
load_stop load.ReadFault = stop.ReadFault
load_stop (load.TooLarge path limit number) = stop.TooLarge (limit_of limit) number
load_stop (load.TooMany path number) = stop.TooLarge limits.Files number
load_stop load.NoMemory = stop.NoMemory

abbrev pub trace_stop : Fault → Stop
trace_stop fault.Bad = stop.BadTrace
trace_stop fault.NoMemory = stop.NoMemory

abbrev pub store_stop : StoreRefusal → Stop
store_stop (store.BadLine line why) = stop.BadStore line why
store_stop store.NoMemory = stop.NoMemory

-- ---- what the readers give

abbrev pub is_read_fault : Stop → Bool
is_read_fault stop.ReadFault = true
is_read_fault stop.NoMemory = false
is_read_fault (stop.BadScript line) = false
is_read_fault stop.NoInit = false
is_read_fault (stop.TooLarge limit number) = false
is_read_fault (stop.BadPolicy allow line) = false
is_read_fault (stop.BadStore line why) = false
is_read_fault stop.BadTrace = false

abbrev pub has_read_fault : {T : Type 0} → Result T Stop → Bool
has_read_fault (Ok value) = false
has_read_fault (Err why) = is_read_fault why

abbrev pub GivesScript : Grammar → List ℕ → Option (List ℕ) → Result Script Stop → Type 0
GivesScript g bytes left (Ok script) = IsScriptIn g bytes script × (left ≡ Some [])
GivesScript g bytes left (Err why) = ScriptSays g bytes left (status_of why)

-- a text within the limit of 1,048,576 bytes
abbrev pub GivesText : List ℕ → Result (List ℕ) Stop → Type 0
GivesText text (Ok read) = (read ≡ text) × (length text ≤ 1048576)
GivesText text (Err stop.ReadFault) = ⊤
GivesText text (Err stop.NoMemory) = ⊤
GivesText text (Err (stop.BadScript line)) = ⊥
GivesText text (Err stop.NoInit) = ⊥
GivesText text (Err (stop.TooLarge limit number)) = (1048576 < length text) × (limit ≡ limits.FileBytes) × (number ≡ 1048577)
GivesText text (Err (stop.BadPolicy allow line)) = ⊥
GivesText text (Err (stop.BadStore line why)) = ⊥
GivesText text (Err stop.BadTrace) = ⊥

-- what a build file of this path and text says
abbrev pub GivesBuildFile : List ℕ → List ℕ → Result BuildProps Stop → Type 0
GivesBuildFile path text (Ok props) = IsBuildFile path text props × (length text ≤ 1048576)
GivesBuildFile path text (Err why) = GivesText text (Err why)

-- what both build files of a tree say
pub record AreBuildFiles (tree : Tree) (props : BuildProps) : Type 0 where
  pub short : AreBuildFilesShort tree
  pub pairs_are : props.pairs ≡ pairs_of tree
  pub diagnostics_are : props.diagnostics ≡ faults_of tree

abbrev pub GivesBuildFiles : Tree → Result BuildProps Stop → Type 0
GivesBuildFiles tree (Ok props) = AreBuildFiles tree props
GivesBuildFiles tree (Err stop.ReadFault) = ⊤
GivesBuildFiles tree (Err stop.NoMemory) = ⊤
GivesBuildFiles tree (Err (stop.BadScript line)) = ⊥
GivesBuildFiles tree (Err stop.NoInit) = ⊥
GivesBuildFiles tree (Err (stop.TooLarge limit number)) = AreBuildFilesTooLarge tree limit number
GivesBuildFiles tree (Err (stop.BadPolicy allow line)) = ⊥
GivesBuildFiles tree (Err (stop.BadStore line why)) = ⊥
GivesBuildFiles tree (Err stop.BadTrace) = ⊥

abbrev pub GivesPolicy : World → Result PolicyLines Stop → Type 0
GivesPolicy world (Ok policy) = IsPolicyOf world.tree policy
GivesPolicy world (Err why) = TreeSays ToRun world (status_of why)

abbrev pub GivesLoad : World → Result Loaded Stop → Type 0
GivesLoad world (Ok loaded) = IsLoadOf world loaded.config loaded.diagnostics
GivesLoad world (Err why) = TreeSays ToCheck world (status_of why)

-- the diagnostics of what is loaded
abbrev pub GivesDiagnostics : World → Result (List Diagnostic) Stop → Type 0
GivesDiagnostics world (Ok diagnostics) = (config : Config) × IsLoadOf world config diagnostics
GivesDiagnostics world (Err why) = TreeSays ToCheck world (status_of why)

abbrev pub GivesStore : List ℕ → Result (List Pair) Stop → Type 0
GivesStore held (Ok saved) = IsStoreOf held saved
GivesStore held (Err why) = StoreSays held (status_of why)

abbrev pub GivesTrace : List ℕ → Option (List ℕ) → Result (List ℕ) Stop → Type 0
GivesTrace bytes left (Ok text) = (text ≡ bytes) × (length bytes ≤ 67108864) × (left ≡ Some [])
GivesTrace bytes left (Err why) = TraceSays bytes left (status_of why)

-- ---- which reader stops so: each stops by a fault and for want of memory, and else in its own ways

abbrev pub IsScriptLimit : Limit → Type 0
IsScriptLimit limits.ScriptBytes = ⊤
IsScriptLimit limits.ScriptLines = ⊤
IsScriptLimit limits.Steps = ⊤
IsScriptLimit limits.FileBytes = ⊥
IsScriptLimit limits.Files = ⊥
IsScriptLimit limits.Names = ⊥
IsScriptLimit limits.RcBytes = ⊥
IsScriptLimit limits.StoreBytes = ⊥
IsScriptLimit limits.TraceBytes = ⊥

abbrev pub IsOfScript : Stop → Type 0
IsOfScript stop.ReadFault = ⊤
IsOfScript stop.NoMemory = ⊤
IsOfScript (stop.BadScript line) = ⊤
IsOfScript stop.NoInit = ⊥
IsOfScript (stop.TooLarge limit number) = IsScriptLimit limit
IsOfScript (stop.BadPolicy allow line) = ⊥
IsOfScript (stop.BadStore line why) = ⊥
IsOfScript stop.BadTrace = ⊥

abbrev pub IsOfTree : Stop → Type 0
IsOfTree stop.ReadFault = ⊤
IsOfTree stop.NoMemory = ⊤
IsOfTree (stop.BadScript line) = ⊥
IsOfTree stop.NoInit = ⊤
IsOfTree (stop.TooLarge limit number) = IsTreeLimit limit
IsOfTree (stop.BadPolicy allow line) = ⊤
IsOfTree (stop.BadStore line why) = ⊥
IsOfTree stop.BadTrace = ⊥

abbrev pub IsStoreLimit : Limit → Type 0
IsStoreLimit limits.StoreBytes = ⊤
IsStoreLimit limits.ScriptBytes = ⊥
IsStoreLimit limits.ScriptLines = ⊥
IsStoreLimit limits.Steps = ⊥
IsStoreLimit limits.FileBytes = ⊥
IsStoreLimit limits.Files = ⊥
IsStoreLimit limits.Names = ⊥
IsStoreLimit limits.RcBytes = ⊥
IsStoreLimit limits.TraceBytes = ⊥

abbrev pub IsOfStore : Stop → Type 0
IsOfStore stop.ReadFault = ⊤
IsOfStore stop.NoMemory = ⊤
IsOfStore (stop.BadScript line) = ⊥
IsOfStore stop.NoInit = ⊥
IsOfStore (stop.TooLarge limit number) = IsStoreLimit limit
IsOfStore (stop.BadPolicy allow line) = ⊥
IsOfStore (stop.BadStore line why) = ⊤
IsOfStore stop.BadTrace = ⊥

abbrev pub IsTraceLimit : Limit → Type 0
IsTraceLimit limits.TraceBytes = ⊤
IsTraceLimit limits.StoreBytes = ⊥
IsTraceLimit limits.ScriptBytes = ⊥
IsTraceLimit limits.ScriptLines = ⊥
IsTraceLimit limits.Steps = ⊥
IsTraceLimit limits.FileBytes = ⊥
IsTraceLimit limits.Files = ⊥
IsTraceLimit limits.Names = ⊥
IsTraceLimit limits.RcBytes = ⊥

abbrev pub IsOfTrace : Stop → Type 0
IsOfTrace stop.ReadFault = ⊤
IsOfTrace stop.NoMemory = ⊤
IsOfTrace (stop.BadScript line) = ⊥
IsOfTrace stop.NoInit = ⊥
IsOfTrace (stop.TooLarge limit number) = IsTraceLimit limit
IsOfTrace (stop.BadPolicy allow line) = ⊥
IsOfTrace (stop.BadStore line why) = ⊥
IsOfTrace stop.BadTrace = ⊤
