-- What words, script, tree, store and trace come to, where it is told what their form reads, and how a call of the program ends.
use Rattle.std.specs.Prelude.{◌≡◌, ℕ, ◌<◌, ◌≤◌, ◌⊎◌, ⊤, List, [], length, Option, Some, None, Err}
use Rattle.std.specs.Io.KnownBytes.{append_known}
use Rattle.init_base.specs.Tree.{file_at}
use Rattle.init_driver.specs.Keeper.{KeeperView, Risks, Took}
use Rattle.init_driver.specs.Run.{LeavesPart, given_in}
use Rattle.init_driver.specs.declared.refusal.DriveRefusal.{DriveRefusal}
use Rattle.init_driver.specs.declared.refusal.DriveRefusal.TheVariants as refusal
use Rattle.init_machine.specs.declared.config.Config.{Config}
use Rattle.init_machine.specs.declared.diagnostic.Diagnostic.{Diagnostic}
use Rattle.init_machine.specs.declared.limit.Limit.{Limit}
use Rattle.init_machine.specs.declared.limit.Limit.TheVariants as limits
use Rattle.init_machine.specs.State.{Opening}
use Rattle.init_machine.specs.declared.report.Report.{Report}
use Rattle.init_trace.specs.Report.{DiagnosticsText}
use Rattle.init_trace.specs.Written.{TakesFront}
use Rattle.command_line.specs.declared.form.Form.{Form}
use Rattle.command_line.specs.declared.form.Form.TheVariants as form
use Rattle.job_reader.specs.Policy.{HasPolicy, IsBadPolicyAt, IsPolicyTooLarge}
use Rattle.job_reader.specs.Run.{Course, IsCourseOf, IsOpened, due_of_course, run_text}
use Rattle.job_reader.specs.Script.{HasScript, IsBadIn}
use Rattle.job_reader.specs.Store.{HasStore}
use Rattle.job_reader.specs.Texts.{Tree}
use Rattle.job_reader.specs.Trace.{IsNoTrace, IsTraceTooLarge}
use Rattle.job_reader.specs.Tree.{AreBuildFilesShort, AreBuildFilesTooLarge, IsLoadOf, IsLoadable, IsWorldOf, PassesLimit}
use Rattle.job_reader.specs.declared.grammar.Grammar.{Grammar}
use Rattle.job_reader.specs.declared.grammar.Grammar.TheVariants.{Whole, Sets}
use Rattle.job_reader.specs.declared.status.Status.{Status}
use Rattle.job_reader.specs.declared.status.Status.TheVariants as status
use Rattle.persist_file.specs.Causes.{IsUnfitAt}
use Rattle.rc_import.specs.Limits.{loaded as rc_files_of}
use Rattle.rc_import.specs.Order.{root_file}
use Rattle.rc_import.specs.World.{World}
use Rattle.rc_import.specs.declared.loaded.LoadRefusal.{LoadRefusal}
use Rattle.init_wire.specs.Opening.{wire_script}
use Rattle.script_lang.specs.Refusal.{IsTooLarge}
use Rattle.trace_audit.specs.declared.verdict.Verdict.{Verdict}
use Rattle.init_forms.specs.Racing.{CutsRace, IsAudited, IsRelayedReport, WritesRace}
use Rattle.init_forms.specs.Serving.{IsAnsweredStream}
use Rattle.init_forms.specs.Soaking.{generated_script, generated_tree, soak_text}
use Rattle.init_forms.specs.Verdict.{IsVerdictOn, verdict_text}

-- what is told as a call begins: the script's bytes, the tree with the meaning of its rc files, the store's text, and the
-- trace's bytes
pub record Told : Type 0 where
  pub script : List ℕ
  pub world : World
  pub held : List ℕ
  pub trace : List ℕ

-- what the objects of a call tell
pub record Sources : Type 0 where
  pub script : Option (List ℕ)
  pub tree : Option Tree
  pub held : Option (List ℕ)
  pub trace : Option (List ℕ)

abbrev pub sources_of : Option (List ℕ) → Option Tree → Option (List ℕ) → Option (List ℕ) → Sources
sources_of script tree held trace = record { script = script; tree = tree; held = held; trace = trace }

-- they tell what a run reads: script, tree and store
pub record TellRun (sources : Sources) (told : Told) : Type 0 where
  pub script_is : sources.script ≡ Some told.script
  pub world_is : IsWorldOf sources.tree told.world
  pub held_is : sources.held ≡ Some told.held

-- what is read of a generated boot of so many services: its script and its tree, and a store without pairs
abbrev pub generated_sources : ℕ → Sources
generated_sources services = sources_of (Some (generated_script services)) (Some (generated_tree services)) (Some []) None

-- They tell what a form reads: a race and a dispatch what a run does, the serving of messages the stream in the script's place, a check the
-- tree alone, an audit what a run does and the trace, and words of no form nothing. What a soak reads is generated.
abbrev pub Tell : Option Form → Sources → Told → Type 0
Tell None sources told = ⊤
Tell (Some form.Run) sources told = TellRun sources told
Tell (Some form.Race) sources told = TellRun sources told
Tell (Some form.Wire) sources told = TellRun sources told
Tell (Some form.Dispatch) sources told = TellRun sources told
Tell (Some form.Check) sources told = IsWorldOf sources.tree told.world
Tell (Some form.Audit) sources told = TellRun sources told × (sources.trace ≡ Some told.trace)
Tell (Some (form.Soak services)) sources told = TellRun (generated_sources services) told

-- ---- what each reader refuses, and with which status

abbrev pub ScriptRefuses : Grammar → List ℕ → Status → Type 0
ScriptRefuses g bytes (status.BadScript line) = IsBadIn g bytes line
ScriptRefuses g bytes (status.TooLarge limit number) = IsTooLarge bytes limit number
ScriptRefuses g bytes _ = ⊥

abbrev pub PolicyRefuses : Tree → Status → Type 0
PolicyRefuses tree (status.BadPolicy allow line) = IsBadPolicyAt tree allow line
PolicyRefuses tree (status.TooLarge limit number) = IsPolicyTooLarge tree limit number
PolicyRefuses tree _ = ⊥

-- the rc files pass a limit
pub record PassRcLimit (world : World) (limit : Limit) (number : ℕ) : Type 0 where
  pub refusal : LoadRefusal
  pub refused : rc_files_of world ≡ Err refusal
  pub passes : PassesLimit refusal limit number

-- the build files are read before the rc files
abbrev pub FilesRefuse : World → Status → Type 0
FilesRefuse world status.NoInit = AreBuildFilesShort world.tree × (file_at world.tree root_file ≡ None)
FilesRefuse world (status.TooLarge limit number) =
    AreBuildFilesTooLarge world.tree limit number ⊎ (AreBuildFilesShort world.tree × PassRcLimit world limit number)
FilesRefuse world _ = ⊥

abbrev pub StoreRefuses : List ℕ → Status → Type 0
StoreRefuses held (status.BadStore line why) = (length held ≤ 33554432) × IsUnfitAt held line why
StoreRefuses held (status.TooLarge limit number) = (limit ≡ limits.StoreBytes) × (33554432 < length held) × (number ≡ 33554433)
StoreRefuses held _ = ⊥

-- the policy, the files and the store are read, and the first refusal ends it
abbrev pub MachineRefused : Told → Status → Type 0
MachineRefused told why =
    PolicyRefuses told.world.tree why
    ⊎ (HasPolicy told.world.tree × (FilesRefuse told.world why
    ⊎ (IsLoadable told.world × StoreRefuses told.held why)))

-- a run reads the script before them, by a grammar
abbrev pub RunRefused : Grammar → Told → Status → Type 0
RunRefused g told why = ScriptRefuses g told.script why ⊎ (HasScript g told.script × MachineRefused told why)

abbrev pub TraceRefuses : List ℕ → Status → Type 0
TraceRefuses trace status.BadTrace = IsNoTrace trace
TraceRefuses trace (status.TooLarge limit number) = (limit ≡ limits.TraceBytes) × IsTraceTooLarge trace number
TraceRefuses trace _ = ⊥

-- nothing of what a run reads is refused
pub record CanBeRun (g : Grammar) (told : Told) : Type 0 where
  pub script : HasScript g told.script
  pub policy : HasPolicy told.world.tree
  pub files : IsLoadable told.world
  pub store : HasStore told.held

-- an audit reads what a run does, and then the trace
abbrev pub AuditRefused : Told → Status → Type 0
AuditRefused told why = RunRefused Whole told why ⊎ (CanBeRun Whole told × TraceRefuses told.trace why)

-- a verdict on the trace, by the course that is told
pub record IsJudged (told : Told) (verdict : Verdict) : Type 0 where
  pub course : Course
  pub course_is : IsCourseOf Whole told.script told.world told.held course
  pub said : IsVerdictOn course told.trace verdict

-- the course that is told, and a report of it that the audit of traces answers Yes to
pub record IsRaced (told : Told) (course : Course) (report : Report) : Type 0 where
  pub course_is : IsCourseOf Whole told.script told.world told.held course
  pub audited : IsAudited course report

-- the course that is told, of a script whose clients only set, and a report of it that one worker may have left
pub record IsDispatched (told : Told) (course : Course) (report : Report) : Type 0 where
  pub course_is : IsCourseOf Sets told.script told.world told.held course
  pub relayed : IsRelayedReport course report

-- The machine that is told, whose one client sends the stream in the script's place: how serving it ends, and all replies to it.
pub record IsServed (told : Told) (how : Status) (replies : List ℕ) : Type 0 where
  pub opening : Opening
  pub diagnostics : List Diagnostic
  pub opened : IsOpened wire_script told.world told.held diagnostics opening
  pub stream : IsAnsweredStream opening told.script how replies

-- ---- the outcome

-- The words have no form; or nothing is begun, with this status; or these diagnostics are told; or this course is run; or it is
-- raced or dispatched, with this report; or messages are served, with this status and these replies; or this is the verdict on the trace; or
-- this course of a generated boot of so many services is run.
pub data Outcome : Type 0 where
  Unformed : Outcome
  Refused : Status → Outcome
  Checked : List Diagnostic → Outcome
  Ran : Course → Outcome
  Raced : Course → Report → Outcome
  Served : Status → List ℕ → Outcome
  Judged : Verdict → Outcome
  Soaked : ℕ → Course → Outcome

-- What the words of a form come to, or words of none. A race, as a dispatch, comes to one of the reports that the order of its clients
-- allows.
abbrev pub ComesTo : Option Form → Told → Outcome → Type 0
ComesTo None told Unformed = ⊤
ComesTo (Some form.Run) told (Refused why) = RunRefused Whole told why
ComesTo (Some form.Run) told (Ran course) = IsCourseOf Whole told.script told.world told.held course
ComesTo (Some form.Race) told (Refused why) = RunRefused Whole told why
ComesTo (Some form.Race) told (Raced course report) = IsRaced told course report
ComesTo (Some form.Dispatch) told (Refused why) = RunRefused Sets told why
ComesTo (Some form.Dispatch) told (Raced course report) = IsDispatched told course report
ComesTo (Some form.Wire) told (Refused why) = MachineRefused told why
ComesTo (Some form.Wire) told (Served how replies) = IsServed told how replies
ComesTo (Some form.Check) told (Refused why) = FilesRefuse told.world why
ComesTo (Some form.Check) told (Checked diagnostics) = (config : Config) × IsLoadOf told.world config diagnostics
ComesTo (Some form.Audit) told (Refused why) = AuditRefused told why
ComesTo (Some form.Audit) told (Judged verdict) = IsJudged told verdict
ComesTo (Some (form.Soak services)) told (Refused why) = RunRefused Whole told why
ComesTo (Some (form.Soak services)) told (Soaked given course) = (given ≡ services) × IsCourseOf Whole told.script told.world told.held course
ComesTo form told outcome = ⊥

abbrev pub status_of_outcome : Outcome → Status
status_of_outcome Unformed = status.Usage
status_of_outcome (Refused why) = why
status_of_outcome (Checked diagnostics) = status.Done
status_of_outcome (Ran course) = status.Done
status_of_outcome (Raced course report) = status.Done
status_of_outcome (Served how replies) = how
status_of_outcome (Judged verdict) = status.Done
status_of_outcome (Soaked services course) = status.Done

-- ---- how a call ends

-- what a sink and a keeper show of a call
pub record Shown : Type 1 where
  pub old : Option (List ℕ)
  pub new : Option (List ℕ)
  pub keeper : KeeperView
  pub kept : KeeperView

abbrev pub shown_as : Option (List ℕ) → Option (List ℕ) → KeeperView → KeeperView → Shown
shown_as old new keeper kept = record { old = old; new = new; keeper = keeper; kept = kept }

-- nothing is written, and the keeper stands
pub record Untouched (shown : Shown) : Type 0 where
  pub written : shown.new ≡ shown.old
  pub held : shown.kept.held ≡ shown.keeper.held
  pub crash : shown.keeper.TellsCrash → Risks shown.keeper shown.kept [] []

-- the outcome's text is written whole, and the keeper took what a run or a race gives it
abbrev pub Shows : Outcome → Shown → Type 0
Shows Unformed shown = Untouched shown
Shows (Refused why) shown = Untouched shown
Shows (Checked diagnostics) shown = (shown.new ≡ append_known shown.old (DiagnosticsText diagnostics)) × Took shown.keeper shown.kept []
Shows (Ran course) shown = (shown.new ≡ append_known shown.old (run_text course)) × Took shown.keeper shown.kept (given_in course.opening course.script)
Shows (Raced course report) shown = WritesRace course report shown.old shown.new shown.keeper shown.kept
Shows (Served how replies) shown = (shown.new ≡ append_known shown.old replies) × Took shown.keeper shown.kept []
Shows (Judged verdict) shown = (shown.new ≡ append_known shown.old (verdict_text verdict)) × Took shown.keeper shown.kept []
Shows (Soaked services course) shown = (shown.new ≡ append_known shown.old (soak_text services course)) × Took shown.keeper shown.kept []

-- its text is cut short: by a fault of the sink, of the keeper or of the stream of messages, or because memory ran out
abbrev pub CutShort : DriveRefusal → Outcome → Shown → Type 0
CutShort why (Ran course) shown = LeavesPart why shown.old shown.new shown.keeper shown.kept (due_of_course course)
CutShort why (Raced course report) shown = CutsRace why course report shown.old shown.new shown.keeper shown.kept
CutShort refusal.Keeper (Checked diagnostics) shown = ⊥
CutShort why (Checked diagnostics) shown = TakesFront shown.old shown.new (DiagnosticsText diagnostics) × Took shown.keeper shown.kept []
CutShort why (Served how replies) shown = TakesFront shown.old shown.new replies × Took shown.keeper shown.kept []
CutShort refusal.Keeper (Judged verdict) shown = ⊥
CutShort why (Judged verdict) shown = TakesFront shown.old shown.new (verdict_text verdict) × Took shown.keeper shown.kept []
CutShort refusal.Keeper (Soaked services course) shown = ⊥
CutShort why (Soaked services course) shown = TakesFront shown.old shown.new (soak_text services course) × Took shown.keeper shown.kept []
CutShort why outcome shown = ⊥

-- a fault, or want of memory, cut the call
abbrev pub IsCut : Status → Type 0
IsCut status.ReadFault = ⊤
IsCut status.WriteFault = ⊤
IsCut status.NoMemory = ⊤
IsCut how = ⊥

-- How a call ends. A fault of what is read, and want of memory, come before anything is written, or in the run or the race.
abbrev pub Ends : Option Form → Told → Status → Shown → Type 0
Ends form told status.ReadFault shown = Untouched shown ⊎ ((outcome : Outcome) × ComesTo form told outcome × CutShort refusal.Keeper outcome shown)
Ends form told status.WriteFault shown = (outcome : Outcome) × ComesTo form told outcome × CutShort refusal.Write outcome shown
Ends form told status.NoMemory shown = Untouched shown ⊎ ((outcome : Outcome) × ComesTo form told outcome × CutShort refusal.NoMemory outcome shown)
Ends form told how shown = (outcome : Outcome) × ComesTo form told outcome × (how ≡ status_of_outcome outcome) × Shows outcome shown
