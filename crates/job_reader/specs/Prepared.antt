-- What is prepared of a run, before the machine starts.
use Rattle.std.specs.Prelude.{◌≡◌, ℕ, List, [], map, Option, Some, Result, Ok, Err}
use Rattle.std.specs.Io.KnownBytes.{append_known}
use Rattle.init_driver.specs.Keeper.{KeeperView, Risks, Took}
use Rattle.init_driver.specs.Run.{LeavesPart, given_in}
use Rattle.init_driver.specs.declared.refusal.DriveRefusal.TheVariants as refusal
use Rattle.init_driver.specs.declared.running.Setup.{Setup}
use Rattle.init_machine.specs.WellFormed.{IsWellFormed}
use Rattle.init_machine.specs.declared.config.Pair.{Pair}
use Rattle.init_trace.specs.Written.{TakesFront}
use Rattle.rc_import.specs.World.{World}
use Rattle.script_lang.specs.Laws.{MeetsConditions}
use Rattle.script_lang.specs.declared.script.Script.{Script}
use Rattle.job_reader.specs.Counts.{AreCounted, Counts}
use Rattle.job_reader.specs.Policy.{IsPolicyOf}
use Rattle.job_reader.specs.Run.{Course, due_of_course, run_text}
use Rattle.job_reader.specs.Script.{IsScriptIn, ScriptSays}
use Rattle.job_reader.specs.Stops.{status_of}
use Rattle.job_reader.specs.Store.{IsStoreOf, StoreSays}
use Rattle.job_reader.specs.Tree.{IsLoadOf, TreeSays}
use Rattle.job_reader.specs.Tree.Purpose.{ToRun}
use Rattle.job_reader.specs.declared.grammar.Grammar.{Grammar}
use Rattle.job_reader.specs.declared.preparing.Job.{Job}
use Rattle.job_reader.specs.declared.preparing.TreeParts.{TreeParts}
use Rattle.job_reader.specs.declared.status.Status.{Status}
use Rattle.job_reader.specs.declared.status.Status.TheVariants as status
use Rattle.job_reader.specs.declared.stop.Stop.{Stop}

-- a tree's policy, and what its build files and rc files give
pub record IsTree (world : World) (parts : TreeParts) : Type 0 where
  pub policy : IsPolicyOf world.tree parts.policy
  pub load : IsLoadOf world parts.loaded.config parts.loaded.diagnostics

abbrev pub GivesTree : World → Result TreeParts Stop → Type 0
GivesTree world (Ok parts) = IsTree world parts
GivesTree world (Err why) = TreeSays ToRun world (status_of why)

-- a job is put together of a script, the parts of a tree, and the pairs of a store
pub record IsJobFor (script : Script) (parts : TreeParts) (saved : List Pair) (job : Job) : Type 0 where
  pub script_is : job.script ≡ script
  pub policy : job.setup.policy ≡ parts.policy
  pub diagnostics : job.setup.diagnostics ≡ parts.loaded.diagnostics
  pub actions : job.setup.config.actions ≡ parts.loaded.config.actions
  pub services : job.setup.config.services ≡ parts.loaded.config.services
  pub pairs : job.setup.config.pairs ≡ parts.loaded.config.pairs
  pub saved_is : job.setup.config.saved ≡ saved
  pub plans : job.setup.config.plans ≡ script.plans
  pub domains : job.setup.config.domains ≡ map (λ client. client.domain) script.clients

-- what a job's setup has of its script, and what a run asks of both
pub record IsFit (job : Job) : Type 0 where
  pub plans : job.setup.config.plans ≡ job.script.plans
  pub domains : job.setup.config.domains ≡ map (λ client. client.domain) job.script.clients
  pub well_formed : IsWellFormed job.setup.config
  pub conditions : MeetsConditions job.script

-- what a job's setup has of a tree
pub record IsSetupOf (world : World) (setup : Setup) : Type 0 where
  pub policy : IsPolicyOf world.tree setup.policy
  pub load : IsLoadOf world setup.config setup.diagnostics

abbrev pub ScriptOfJob : Grammar → List ℕ → Option (List ℕ) → Result Job Stop → Type 0
ScriptOfJob g bytes left (Ok job) = IsScriptIn g bytes job.script × (left ≡ Some [])
ScriptOfJob g bytes left (Err why) = ScriptSays g bytes left (status_of why)

abbrev pub GivesSetup : World → Result Job Stop → Type 0
GivesSetup world (Ok job) = IsSetupOf world job.setup
GivesSetup world (Err why) = TreeSays ToRun world (status_of why)

abbrev pub GivesSaved : List ℕ → Result Job Stop → Type 0
GivesSaved held (Ok job) = IsStoreOf held job.setup.config.saved
GivesSaved held (Err why) = StoreSays held (status_of why)

-- the counts over all that is read
abbrev pub ArePrepared : {T : Type 0} → Result T Stop → Counts → Counts → Type 0
ArePrepared (Ok value) before now = now ≡ before
ArePrepared (Err why) before now = AreCounted (status_of why) before now

-- the course of a job
abbrev pub course_of : Job → Course
course_of job = record {
  opening = record { config = job.setup.config; policy = job.setup.policy; capacity = job.script.words };
  diagnostics = job.setup.diagnostics;
  script = job.script;
}

-- what a run of a course leaves: in the sink, and with the keeper
abbrev pub Performs : Course → Option (List ℕ) → Option (List ℕ) → KeeperView → KeeperView → Status → Type 0
Performs course old new keeper kept status.Done =
    (new ≡ append_known old (run_text course)) × Took keeper kept (given_in course.opening course.script)
Performs course old new keeper kept status.WriteFault = LeavesPart refusal.Write old new keeper kept (due_of_course course)
Performs course old new keeper kept status.ReadFault = LeavesPart refusal.Keeper old new keeper kept (due_of_course course)
Performs course old new keeper kept status.NoMemory = LeavesPart refusal.NoMemory old new keeper kept (due_of_course course)
Performs course old new keeper kept _ = ⊥

-- a keeper of which only the text was asked
abbrev pub IsAsked : {T : Type 0} → Result T Stop → KeeperView → KeeperView → Type 0
IsAsked (Ok value) keeper kept = Took keeper kept []
IsAsked (Err why) keeper kept = (kept.held ≡ keeper.held) × (keeper.TellsCrash → Risks keeper kept [] [])

-- a text is written whole, or a front of it
abbrev pub WritesText : List ℕ → Option (List ℕ) → Option (List ℕ) → Status → Type 0
WritesText text old new status.Done = new ≡ append_known old text
WritesText text old new status.WriteFault = TakesFront old new text
WritesText text old new status.NoMemory = TakesFront old new text
WritesText text old new status.ReadFault = ⊥
WritesText text old new status.Usage = ⊥
WritesText text old new (status.BadScript line) = ⊥
WritesText text old new status.NoInit = ⊥
WritesText text old new (status.TooLarge limit number) = ⊥
WritesText text old new (status.BadPolicy allow line) = ⊥
WritesText text old new (status.BadStore line why) = ⊥
WritesText text old new (status.BadWire at) = ⊥
WritesText text old new status.BadTrace = ⊥
