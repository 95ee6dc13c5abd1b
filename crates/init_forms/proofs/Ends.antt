-- How a call ends, by what its parts say of the objects.
use Rattle.std.specs.Io.KnownBytes.{append_known}
use Rattle.std.proofs.Common.{◌≡◌, ℕ, inl, inr, List, [], Option, Some, None, refl, ap, ◌∙◌, subst}
use Rattle.init_driver.proofs.Keepers.{risks_nothing, risks_then, took_nothing, took_then}
use Rattle.init_driver.specs.Keeper.{KeeperView, Risks, Took}
use Rattle.init_driver.specs.Run.{Due, KeepsPart, LeavesPart, given_in}
use Rattle.init_driver.specs.declared.refusal.DriveRefusal.{DriveRefusal}
use Rattle.init_driver.specs.declared.refusal.DriveRefusal.TheVariants as refusal
use Rattle.init_machine.specs.declared.limit.Limit.{Limit}
use Rattle.init_machine.specs.declared.limit.Limit.TheVariants as limits
use Rattle.init_trace.specs.Written.{TakesFront}
use Rattle.command_line.specs.declared.form.Form.{Form}
use Rattle.command_line.specs.declared.form.Form.TheVariants.{Run, Check, Audit}
use Rattle.job_reader.specs.Check.{CheckWrites, IsCheckStatus}
use Rattle.job_reader.specs.Endings.{IsRunLimit, IsRunStatus}
use Rattle.job_reader.specs.Prepared.{Performs, WritesText}
use Rattle.job_reader.specs.Run.{Course, IsCourseOf, due_of_course}
use Rattle.job_reader.specs.Script.{HasScript, IsReadWhole, ScriptLimitSays, ScriptSays}
use Rattle.job_reader.specs.Stops.{status_of}
use Rattle.job_reader.specs.Store.{HasStore, StoreLimitSays, StoreSays}
use Rattle.job_reader.specs.Trace.{TraceLimitSays, TraceSays}
use Rattle.job_reader.specs.Tree.{IsFitFor, IsTreeTooLarge, TreeLimitSays, TreeSays}
use Rattle.job_reader.specs.Tree.Purpose.{ToRun, ToCheck}
use Rattle.job_reader.specs.declared.grammar.Grammar.{Grammar}
use Rattle.job_reader.specs.declared.grammar.Grammar.TheVariants.{Whole}
use Rattle.job_reader.specs.declared.status.Status.{Status}
use Rattle.job_reader.specs.declared.status.Status.TheVariants as status
use Rattle.job_reader.specs.declared.stop.Stop.{Stop}
use Rattle.job_reader.specs.declared.stop.Stop.TheVariants as stop
use Rattle.trace_audit.specs.declared.verdict.Verdict.{Verdict}
use Rattle.init_forms.specs.Outcome.{AuditRefused, CanBeRun, ComesTo, Ends, FilesRefuse, IsJudged, MachineRefused, Outcome, RunRefused, Shows, Told, Untouched, shown_as, status_of_outcome}
use Rattle.init_forms.specs.Outcome.Outcome.{Checked, Judged, Ran, Refused, Unformed}
use Rattle.init_forms.specs.Verdict.{verdict_text}

-- what is known of an ending that leaves all as it was
untouched : (old : Option (List ℕ)) (a b : KeeperView) → b.held ≡ a.held → (a.TellsCrash → Risks a b [] []) → Untouched (shown_as old old a b)
untouched old a b held crash = record { written = refl; held = held; crash = crash }

pub nothing_new : (old new : Option (List ℕ)) (a : KeeperView) → new ≡ old → Untouched (shown_as old new a a)
nothing_new old new a same = record { written = same; held = refl; crash = λ tells. risks_nothing a [] }

pub left_alone : (old : Option (List ℕ)) (a : KeeperView) → Untouched (shown_as old old a a)
left_alone old a = untouched old a a refl (λ tells. risks_nothing a [])

-- ---- why a run isn't begun

-- a limit of the tree is passed, which a machine is opened with
pub machine_limit : (told : Told) (limit : Limit) (number : ℕ) → IsTreeTooLarge ToRun told.world limit number → MachineRefused told (status.TooLarge limit number)
machine_limit told limit number (inl policy) = inl policy
machine_limit told limit number (inr (inl build)) = inr (build.0, inl (inl build.1))
machine_limit told limit number (inr (inr rc)) =
    inr (rc.policy, inl (inr (rc.build_files, record { refusal = rc.refusal; refused = rc.refused; passes = rc.passes })))

tree_limit : (g : Grammar) (told : Told) (limit : Limit) (number : ℕ) → HasScript g told.script → IsTreeTooLarge ToRun told.world limit number
    → RunRefused g told (status.TooLarge limit number)
tree_limit g told limit number has large = inr (has, machine_limit told limit number large)

pub limit_refused : (g : Grammar) (told : Told) (left : Option (List ℕ)) (limit : Limit) (number : ℕ) → IsRunLimit limit → ScriptLimitSays g told.script left limit number
    → TreeLimitSays ToRun told.world limit number → StoreLimitSays told.held limit number → RunRefused g told (status.TooLarge limit number)
limit_refused g told left limits.ScriptBytes number is script tree store = inl script
limit_refused g told left limits.ScriptLines number is script tree store = inl script
limit_refused g told left limits.Steps number is script tree store = inl script
limit_refused g told left limits.FileBytes number is script tree store = tree_limit g told limits.FileBytes number script.0 tree
limit_refused g told left limits.Files number is script tree store = tree_limit g told limits.Files number script.0 tree
limit_refused g told left limits.Names number is script tree store = tree_limit g told limits.Names number script.0 tree
limit_refused g told left limits.RcBytes number is script tree store = tree_limit g told limits.RcBytes number script.0 tree
limit_refused g told left limits.StoreBytes number is script tree store = inr (script.0, inr (tree.0, inr (tree.1, (refl, store.0, store.1))))
limit_refused g told left limits.TraceBytes number is script tree store = absurd is

pub refused : (form : Form) (told : Told) (why : Status) (old : Option (List ℕ)) (a b : KeeperView) → ComesTo (Some form) told (Refused why)
    → b.held ≡ a.held → (a.TellsCrash → Risks a b [] [])
    → (outcome : Outcome) × ComesTo (Some form) told outcome × (why ≡ status_of_outcome outcome) × Shows outcome (shown_as old old a b)
refused form told why old a b comes held crash = (Refused why, comes, refl, untouched old a b held crash)

-- a run that isn't begun, or a race, or a dispatch
pub stop_ends : (g : Grammar) (why : Stop) (form : Form) (told : Told) (left old : Option (List ℕ)) (a b : KeeperView)
    → ((how : Status) → RunRefused g told how → ComesTo (Some form) told (Refused how))
    → IsRunStatus (status_of why) → ScriptSays g told.script left (status_of why)
    → TreeSays ToRun told.world (status_of why) → StoreSays told.held (status_of why) → b.held ≡ a.held → (a.TellsCrash → Risks a b [] [])
    → Ends (Some form) told (status_of why) (shown_as old old a b)
stop_ends g stop.ReadFault form told left old a b comes is script tree store held crash = inl (untouched old a b held crash)
stop_ends g stop.NoMemory form told left old a b comes is script tree store held crash = inl (untouched old a b held crash)
stop_ends g (stop.BadScript line) form told left old a b comes is script tree store held crash =
    refused form told (status.BadScript line) old a b (comes (status.BadScript line) (inl script)) held crash
stop_ends g stop.NoInit form told left old a b comes is script tree store held crash =
    refused form told status.NoInit old a b (comes status.NoInit (inr (script.0, inr (tree.policy, inl (tree.build_files, tree.absent))))) held crash
stop_ends g (stop.TooLarge limit number) form told left old a b comes is script tree store held crash =
    refused form told (status.TooLarge limit number) old a b
    (comes (status.TooLarge limit number) (limit_refused g told left limit number is script tree store)) held crash
stop_ends g (stop.BadPolicy allow line) form told left old a b comes is script tree store held crash =
    refused form told (status.BadPolicy allow line) old a b (comes (status.BadPolicy allow line) (inr (script.0, inl tree))) held crash
stop_ends g (stop.BadStore line why) form told left old a b comes is script tree store held crash =
    refused form told (status.BadStore line why) old a b
    (comes (status.BadStore line why) (inr (script.0, inr (tree.0, inr (tree.1, store))))) held crash
stop_ends g stop.BadTrace form told left old a b comes is script tree store held crash = absurd is

-- ---- why nothing is judged

can_be_run : (told : Told) (left : Option (List ℕ)) → IsReadWhole Whole told.script left → IsFitFor ToRun told.world → HasStore told.held → CanBeRun Whole told
can_be_run told left script tree store = record { script = script.0; policy = tree.0; files = tree.1; store = store }

audit_limit : (told : Told) (left behind : Option (List ℕ)) (limit : Limit) (number : ℕ) → ScriptLimitSays Whole told.script left limit number
    → TreeLimitSays ToRun told.world limit number → StoreLimitSays told.held limit number → TraceLimitSays told.trace limit number
    → AuditRefused told (status.TooLarge limit number)
audit_limit told left behind limits.TraceBytes number script tree store trace = inr (can_be_run told left script tree store, (refl, trace))
audit_limit told left behind limits.ScriptBytes number script tree store trace = inl (limit_refused Whole told left limits.ScriptBytes number tt script tree store)
audit_limit told left behind limits.ScriptLines number script tree store trace = inl (limit_refused Whole told left limits.ScriptLines number tt script tree store)
audit_limit told left behind limits.Steps number script tree store trace = inl (limit_refused Whole told left limits.Steps number tt script tree store)
audit_limit told left behind limits.FileBytes number script tree store trace = inl (limit_refused Whole told left limits.FileBytes number tt script tree store)
audit_limit told left behind limits.Files number script tree store trace = inl (limit_refused Whole told left limits.Files number tt script tree store)
audit_limit told left behind limits.Names number script tree store trace = inl (limit_refused Whole told left limits.Names number tt script tree store)
audit_limit told left behind limits.RcBytes number script tree store trace = inl (limit_refused Whole told left limits.RcBytes number tt script tree store)
audit_limit told left behind limits.StoreBytes number script tree store trace = inl (limit_refused Whole told left limits.StoreBytes number tt script tree store)

-- an audit that isn't begun
pub audit_stop_ends : (why : Stop) (told : Told) (left behind old : Option (List ℕ)) (a b : KeeperView) → ScriptSays Whole told.script left (status_of why)
    → TreeSays ToRun told.world (status_of why) → StoreSays told.held (status_of why) → TraceSays told.trace behind (status_of why)
    → b.held ≡ a.held → (a.TellsCrash → Risks a b [] []) → Ends (Some Audit) told (status_of why) (shown_as old old a b)
audit_stop_ends stop.ReadFault told left behind old a b script tree store trace held crash = inl (untouched old a b held crash)
audit_stop_ends stop.NoMemory told left behind old a b script tree store trace held crash = inl (untouched old a b held crash)
audit_stop_ends (stop.BadScript line) told left behind old a b script tree store trace held crash =
    refused Audit told (status.BadScript line) old a b (inl (inl script)) held crash
audit_stop_ends stop.NoInit told left behind old a b script tree store trace held crash =
    refused Audit told status.NoInit old a b (inl (inr (script.0, inr (tree.policy, inl (tree.build_files, tree.absent))))) held crash
audit_stop_ends (stop.TooLarge limit number) told left behind old a b script tree store trace held crash =
    refused Audit told (status.TooLarge limit number) old a b (audit_limit told left behind limit number script tree store trace) held crash
audit_stop_ends (stop.BadPolicy allow line) told left behind old a b script tree store trace held crash =
    refused Audit told (status.BadPolicy allow line) old a b (inl (inr (script.0, inl tree))) held crash
audit_stop_ends (stop.BadStore line why) told left behind old a b script tree store trace held crash =
    refused Audit told (status.BadStore line why) old a b (inl (inr (script.0, inr (tree.0, inr (tree.1, store))))) held crash
audit_stop_ends stop.BadTrace told left behind old a b script tree store trace held crash =
    refused Audit told status.BadTrace old a b (inr (can_be_run told left script tree store, trace)) held crash

-- a trace that was judged
pub judged_ends : (verdict : Verdict) (told : Told) (old new : Option (List ℕ)) (a b : KeeperView) (how : Status) → Took a b []
    → IsJudged told verdict → WritesText (verdict_text verdict) old new how → Ends (Some Audit) told how (shown_as old new a b)
judged_ends verdict told old new a b status.Done asked is h = (Judged verdict, is, refl, (h, asked))
judged_ends verdict told old new a b status.WriteFault asked is h = (Judged verdict, is, (h, asked))
judged_ends verdict told old new a b status.ReadFault asked is h = absurd h
judged_ends verdict told old new a b status.NoMemory asked is h = inr (Judged verdict, is, (h, asked))
judged_ends verdict told old new a b status.Usage asked is h = absurd h
judged_ends verdict told old new a b (status.BadScript line) asked is h = absurd h
judged_ends verdict told old new a b status.NoInit asked is h = absurd h
judged_ends verdict told old new a b (status.TooLarge limit number) asked is h = absurd h
judged_ends verdict told old new a b (status.BadPolicy allow line) asked is h = absurd h
judged_ends verdict told old new a b (status.BadStore line why) asked is h = absurd h
judged_ends verdict told old new a b (status.BadWire at) asked is h = absurd h
judged_ends verdict told old new a b status.BadTrace asked is h = absurd h

-- ---- a run

-- a keeper that was asked for its text before the run
keeps_behind : (e : DriveRefusal) (a b c : KeeperView) (texts others : List (List ℕ)) → Took a b [] → KeepsPart e b c texts others → KeepsPart e a c texts others
keeps_behind refusal.Keeper a b c texts others asked kept = risks_then a b c [] texts others asked kept
keeps_behind refusal.Write a b c texts others asked kept = elim kept [
  | inl one ↦ inl (took_then a b c [] texts asked one)
  | inr other ↦ inr (took_then a b c [] others asked other)
]
keeps_behind refusal.NoMemory a b c texts others asked kept = risks_then a b c [] texts others asked kept

part_behind : (e : DriveRefusal) (old new : Option (List ℕ)) (a b c : KeeperView) (due : Due) → Took a b [] → LeavesPart e old new b c due → LeavesPart e old new a c due
part_behind e old new a b c due asked h = record {
  written = h.written;
  ends = h.ends;
  kept_at = keeps_behind e a b c _ _ asked h.kept_at;
}

-- a course that was run
pub performed_ends : (course : Course) (told : Told) (old new : Option (List ℕ)) (a b c : KeeperView) (how : Status) → Took a b []
    → IsCourseOf Whole told.script told.world told.held course → Performs course old new b c how → Ends (Some Run) told how (shown_as old new a c)
performed_ends course told old new a b c status.Done asked is h =
    (Ran course, is, refl, (h.0, took_then a b c [] (given_in course.opening course.script) asked h.1))
performed_ends course told old new a b c status.WriteFault asked is h = (Ran course, is, part_behind refusal.Write old new a b c (due_of_course course) asked h)
performed_ends course told old new a b c status.ReadFault asked is h = inr (Ran course, is, part_behind refusal.Keeper old new a b c (due_of_course course) asked h)
performed_ends course told old new a b c status.NoMemory asked is h = inr (Ran course, is, part_behind refusal.NoMemory old new a b c (due_of_course course) asked h)
performed_ends course told old new a b c status.Usage asked is h = absurd h
performed_ends course told old new a b c (status.BadScript line) asked is h = absurd h
performed_ends course told old new a b c status.NoInit asked is h = absurd h
performed_ends course told old new a b c (status.TooLarge limit number) asked is h = absurd h
performed_ends course told old new a b c (status.BadPolicy allow line) asked is h = absurd h
performed_ends course told old new a b c (status.BadStore line why) asked is h = absurd h
performed_ends course told old new a b c (status.BadWire at) asked is h = absurd h
performed_ends course told old new a b c status.BadTrace asked is h = absurd h

-- ---- a check

check_limit : (told : Told) (limit : Limit) (number : ℕ) → IsCheckStatus (status.TooLarge limit number) → TreeLimitSays ToCheck told.world limit number
    → FilesRefuse told.world (status.TooLarge limit number)
check_limit told limit number is says = by limit is says
  where
    of_tree : (l : Limit) → IsTreeTooLarge ToCheck told.world l number → FilesRefuse told.world (status.TooLarge l number)
    of_tree l (inl policy) = absurd policy
    of_tree l (inr (inl build)) = inl build.1
    of_tree l (inr (inr rc)) = inr (rc.build_files, record { refusal = rc.refusal; refused = rc.refused; passes = rc.passes })

    by : (l : Limit) → IsCheckStatus (status.TooLarge l number) → TreeLimitSays ToCheck told.world l number → FilesRefuse told.world (status.TooLarge l number)
    by limits.FileBytes is says = of_tree limits.FileBytes says
    by limits.Files is says = of_tree limits.Files says
    by limits.Names is says = of_tree limits.Names says
    by limits.RcBytes is says = of_tree limits.RcBytes says
    by limits.ScriptBytes is says = absurd is
    by limits.ScriptLines is says = absurd is
    by limits.Steps is says = absurd is
    by limits.StoreBytes is says = absurd is
    by limits.TraceBytes is says = absurd is

pub check_ends : (told : Told) (old new : Option (List ℕ)) (a : KeeperView) (how : Status) → IsCheckStatus how → TreeSays ToCheck told.world how
    → CheckWrites told.world old new how → Ends (Some Check) told how (shown_as old new a a)
check_ends told old new a status.Done is tree writes =
    (Checked writes.1.diagnostics, (writes.1.config, writes.1.load), refl, (writes.2 ∙ ap (append_known old) writes.1.printed, took_nothing a))
check_ends told old new a status.WriteFault is tree writes =
    (Checked writes.1.diagnostics, (writes.1.config, writes.1.load), (subst (TakesFront old new) writes.1.printed writes.2, took_nothing a))
check_ends told old new a status.NoMemory is tree writes = elim writes [
  | inl same ↦ inl (nothing_new old new a same)
  | inr some ↦ inr (Checked some.1.diagnostics, (some.1.config, some.1.load), (subst (TakesFront old new) some.1.printed some.2, took_nothing a))
]
check_ends told old new a status.ReadFault is tree writes = inl (nothing_new old new a writes)
check_ends told old new a status.Usage is tree writes = absurd is
check_ends told old new a (status.BadScript line) is tree writes = absurd is
check_ends told old new a status.NoInit is tree writes =
    (Refused status.NoInit, (tree.build_files, tree.absent), refl, nothing_new old new a writes)
check_ends told old new a (status.TooLarge limit number) is tree writes =
    (Refused (status.TooLarge limit number), check_limit told limit number is tree, refl, nothing_new old new a writes)
check_ends told old new a (status.BadPolicy allow line) is tree writes = absurd is
check_ends told old new a (status.BadStore line why) is tree writes = absurd is
check_ends told old new a (status.BadWire at) is tree writes = absurd is
check_ends told old new a status.BadTrace is tree writes = absurd is

-- ---- the words

pub usage_ends : (told : Told) (old : Option (List ℕ)) (a : KeeperView) → Ends None told status.Usage (shown_as old old a a)
usage_ends told old a = (Unformed, tt, refl, left_alone old a)
