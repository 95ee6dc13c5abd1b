-- What the top call leaves alone, and what it can do.
use Rattle.std.specs.Prelude.{◌≡◌, ℕ, ⊤, ◌⊎◌, List, Option, Some, None, IsSomeAnd}
use Rattle.init_base.specs.Faults.{Rose}
use Rattle.command_line.specs.declared.form.Form.{Form}
use Rattle.command_line.specs.declared.form.Form.TheVariants as form
use Rattle.init_machine.specs.declared.limit.Limit.TheVariants as limits
use Rattle.job_reader.specs.Counts.{Counts}
use Rattle.job_reader.specs.Script.{HasScript}
use Rattle.job_reader.specs.Store.{HasStore}
use Rattle.job_reader.specs.Trace.{HasTrace}
use Rattle.job_reader.specs.Tree.{IsFitFor, IsWorldOf}
use Rattle.job_reader.specs.Tree.Purpose.{ToRun, ToCheck}
use Rattle.job_reader.specs.declared.grammar.Grammar.{Grammar}
use Rattle.job_reader.specs.declared.grammar.Grammar.TheVariants.{Whole, Sets}
use Rattle.job_reader.specs.declared.status.Status.{Status}
use Rattle.job_reader.specs.declared.status.Status.TheVariants as status
use Rattle.rc_import.specs.World.{World}
use Rattle.init_forms.specs.Outcome.{Sources, generated_sources}
use Rattle.init_forms.specs.Serving.{AreMessages}
use Rattle.init_forms.specs.Soaking.{generated_tree}

-- Where a refusal before the run is answered, something is as before. Of a fault it is so too, unless the keeper's count rose.
abbrev pub IsAsBefore : {A : Type 0} → A → A → Status → ℕ → ℕ → Type 0
IsAsBefore old new status.Done before now = ⊤
IsAsBefore old new status.WriteFault before now = ⊤
IsAsBefore old new status.NoMemory before now = ⊤
IsAsBefore old new status.ReadFault before now = (new ≡ old) ⊎ Rose before now
IsAsBefore old new status.Usage before now = new ≡ old
IsAsBefore old new (status.BadScript line) before now = new ≡ old
IsAsBefore old new status.NoInit before now = new ≡ old
IsAsBefore old new (status.TooLarge limit number) before now = new ≡ old
IsAsBefore old new (status.BadPolicy allow line) before now = new ≡ old
IsAsBefore old new (status.BadStore line why) before now = new ≡ old
IsAsBefore old new (status.BadWire at) before now = new ≡ old
IsAsBefore old new status.BadTrace before now = new ≡ old

-- What a form may have written as it refuses. Replies to messages are written before more is read, so they may stand before a refusal of the
-- stream. All else is refused before anything is written, but for a fault of the keeper.
abbrev pub IsUnwritten : Option Form → Option (List ℕ) → Option (List ℕ) → Status → Counts → Counts → Type 0
IsUnwritten (Some form.Wire) old new status.ReadFault before now = (new ≡ old) ⊎ Rose before.script now.script
IsUnwritten (Some form.Wire) old new (status.BadWire at) before now = ⊤
IsUnwritten (Some form.Wire) old new (status.TooLarge limits.ScriptBytes number) before now = ⊤
IsUnwritten asked old new how before now = IsAsBefore old new how before.keeper now.keeper

-- What is told can be run: the script's bytes are a script by a grammar, the world can be run, and the text that the keeper holds is a store.
pub record CanRun (g : Grammar) (sources : Sources) (world : World) : Type 0 where
  pub script : IsSomeAnd sources.script (HasScript g)
  pub world_is_fit : IsFitFor ToRun world
  pub store : IsSomeAnd sources.held HasStore

-- the generated boot of so many services can be run
pub record CanSoak (services : ℕ) : Type 0 where
  pub world : World
  pub world_is : IsWorldOf (Some (generated_tree services)) world
  pub can : CanRun Whole (generated_sources services) world

-- a machine over the world can serve the messages of a stream
pub record CanServe (sources : Sources) (world : World) : Type 0 where
  pub world_is_fit : IsFitFor ToRun world
  pub store : IsSomeAnd sources.held HasStore
  pub messages : IsSomeAnd sources.script AreMessages

-- What is told can be done. A check asks for the world alone, a race for what a run does, a dispatch for that by a script whose clients only
-- set, `wire` for messages in its place, and an audit for that and for a trace. A soak reads nothing that is told.
abbrev pub CanBeDone : Option Form → Sources → World → Type 0
CanBeDone None sources world = ⊥
CanBeDone (Some form.Run) sources world = CanRun Whole sources world
CanBeDone (Some form.Race) sources world = CanRun Whole sources world
CanBeDone (Some form.Wire) sources world = CanServe sources world
CanBeDone (Some form.Dispatch) sources world = CanRun Sets sources world
CanBeDone (Some form.Check) sources world = IsFitFor ToCheck world
CanBeDone (Some form.Audit) sources world = CanRun Whole sources world × IsSomeAnd sources.trace HasTrace
CanBeDone (Some (form.Soak services)) sources world = ⊥

-- a form that reads a script
abbrev pub ReadsScript : Option Form → Type 0
ReadsScript None = ⊥
ReadsScript (Some form.Run) = ⊤
ReadsScript (Some form.Race) = ⊤
ReadsScript (Some form.Wire) = ⊥
ReadsScript (Some form.Dispatch) = ⊤
ReadsScript (Some form.Check) = ⊥
ReadsScript (Some form.Audit) = ⊤
ReadsScript (Some (form.Soak services)) = ⊥

-- the grammar of the script that a form reads
abbrev pub grammar_of : Option Form → Grammar
grammar_of (Some form.Dispatch) = Sets
grammar_of asked = Whole
