-- What the top call promises: how it ends, as its objects show it.
use Rattle.std.specs.Prelude.{◌≡◌, ◌↔◌, ◌⊎◌, ℕ, List, Option, Some, None, IfSome}
use Rattle.init_driver.specs.Keeper.{KeeperView}
use Rattle.command_line.specs.declared.form.Form.{Form}
use Rattle.command_line.specs.declared.form.Form.TheVariants as form
use Rattle.job_reader.specs.Check.{IsCheckStatus}
use Rattle.job_reader.specs.Counts.{AreCounted, Counts, IsDoneUnlessRisen}
use Rattle.job_reader.specs.Endings.{IsRunStatus, IsWireStatus}
use Rattle.job_reader.specs.Script.{ScriptSays}
use Rattle.job_reader.specs.Texts.{Tree}
use Rattle.job_reader.specs.Trace.{TraceSays}
use Rattle.job_reader.specs.Tree.{IsWorldOf}
use Rattle.job_reader.specs.declared.status.Status.{Status}
use Rattle.job_reader.specs.declared.status.Status.TheVariants as status
use Rattle.property_area.specs.Seats.{Seated}
use Rattle.rc_import.specs.World.{World}
use Rattle.init_forms.specs.Outcome.{ComesTo, Ends, IsCut, Outcome, Shown, Sources, Tell, Told, shown_as, sources_of, status_of_outcome}
use Rattle.init_forms.specs.Seats.{GivesSeat, Records}
use Rattle.init_forms.specs.Top.{CanBeDone, CanSoak, IsAsBefore, IsUnwritten, ReadsScript, grammar_of}

-- what the objects of a call show: the tree, what is left of the script and of the trace, the keeper, what the sink took, and the
-- counts of faults of all of them
pub record Objects : Type 1 where
  pub tree : Option Tree
  pub script : Option (List ℕ)
  pub trace : Option (List ℕ)
  pub keeper : KeeperView
  pub taken : Option (List ℕ)
  pub counts : Counts

abbrev pub objects_of : Option Tree → Option (List ℕ) → Option (List ℕ) → KeeperView → Option (List ℕ) → Counts → Objects
objects_of tree script trace keeper taken counts =
    record { tree = tree; script = script; trace = trace; keeper = keeper; taken = taken; counts = counts }

-- what they tell before a call
abbrev pub told_by : Objects → Sources
told_by before = sources_of before.script before.tree before.keeper.held before.trace

-- what the sink and the keeper show of a call
abbrev pub shown_by : Objects → Objects → Shown
shown_by before after = shown_as before.taken after.taken before.keeper after.keeper

-- The promise of a call with words of this form, or of none, that ended with this status and gave this seat or none.
pub record Promise (asked : Option Form) (before after : Objects) (how : Status) (seat : Option Seated) : Type 0 where
  -- Usage is answered exactly where the words have no form
  pub usage : (how ≡ status.Usage) ↔ (asked ≡ None)
  -- where it is told what the form reads, the call ends as the outcome says
  pub ends : (told : Told) → Tell asked (told_by before) told → Ends asked told how (shown_by before after)
  -- and unless it was cut, its status is that of each outcome: a refusal comes exactly where its reader is the first that refuses
  pub only : (told : Told) → Tell asked (told_by before) told → (outcome : Outcome) → ComesTo asked told outcome
      → IsCut how ⊎ (how ≡ status_of_outcome outcome)
  pub read : ReadsScript asked → IfSome before.script (λ bytes. ScriptSays (grammar_of asked) bytes after.script how)
  pub traced : asked ≡ Some form.Audit → IfSome before.trace (λ bytes. TraceSays bytes after.trace how)
  -- a run, a race or a soak that is done gives the seat of the area's writer, and no other call does; what the writer has recorded is
  -- the report that was written, or whose summary was
  pub gives : GivesSeat asked how seat
  pub records : (told : Told) → Tell asked (told_by before) told → Records asked told how (shown_by before after) seat
  -- a fault comes only where a count of its objects rose, and all other counts are as before
  pub faults : AreCounted how before.counts after.counts
  -- a refusal before the run writes nothing and leaves what the keeper holds, also where nothing is told; one of a stream of messages may
  -- come after replies
  pub unwritten : IsUnwritten asked before.taken after.taken how before.counts after.counts
  pub unkept : IsAsBefore before.keeper.held after.keeper.held how before.counts.keeper after.counts.keeper
  -- an audit and the serving of messages leave what the keeper holds, at every ending
  pub audited : asked ≡ Some form.Audit → after.keeper.held ≡ before.keeper.held
  pub served : asked ≡ Some form.Wire → after.keeper.held ≡ before.keeper.held
  -- a check has no refusal of a script or a keeper, and neither a run nor a race nor a soak one of a trace, also where nothing is told
  pub of_check : asked ≡ Some form.Check → IsCheckStatus how
  pub of_run : asked ≡ Some form.Run → IsRunStatus how
  pub of_race : asked ≡ Some form.Race → IsRunStatus how
  pub of_wire : asked ≡ Some form.Wire → IsWireStatus how
  pub of_dispatch : asked ≡ Some form.Dispatch → IsRunStatus how
  pub of_soak : (services : ℕ) → asked ≡ Some (form.Soak services) → IsRunStatus how
  -- what is told and can be done is done, or memory runs out, unless a count rose
  pub complete : (world : World) → IsWorldOf before.tree world → CanBeDone asked (told_by before) world
      → IsDoneUnlessRisen how before.counts after.counts
  -- a soak, which reads nothing, is done where its generated boot can be run, or memory runs out, unless a count rose
  pub soaked : (services : ℕ) → asked ≡ Some (form.Soak services) → CanSoak services → IsDoneUnlessRisen how before.counts after.counts
