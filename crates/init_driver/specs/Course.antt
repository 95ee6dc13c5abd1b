-- The course of a run: what stands between two inputs. No promise of the crate cites these definitions.
use Rattle.std.specs.Prelude.{◌≡◌, ℕ, ◌+◌, ◌≤◌, ◌⊎◌, ⊤, Bool, IsTrue, List, [], ◌∷◌, ◌++◌, length, take, drop, Option, Result, Ok, Err, if◌then◌else◌}
use Rattle.std.specs.Io.KnownBytes.{append_known}
use Rattle.init_base.specs.declared.outside.refusal.IoRefusal.{IoRefusal}
use Rattle.init_base.specs.declared.outside.refusal.IoRefusal.TheVariants as io
use Rattle.init_core.specs.Core.{without_saved}
use Rattle.init_machine.specs.History.{after, after_from}
use Rattle.init_machine.specs.Policy.{PolicyLines}
use Rattle.init_machine.specs.State.{Opening, State}
use Rattle.init_machine.specs.Step.{step}
use Rattle.init_machine.specs.WellFormed.{IsWellFormed}
use Rattle.init_machine.specs.declared.config.Config.{Config}
use Rattle.init_machine.specs.declared.input.Input.{Input}
use Rattle.init_machine.specs.declared.report.ClientPart.{ClientPart}
use Rattle.init_machine.specs.declared.report.Entry.{Entry}
use Rattle.init_machine.specs.declared.report.Report.{Report}
use Rattle.init_trace.specs.Report.{EntriesText, EntryText}
use Rattle.init_trace.specs.Waiting.{Waiting}
use Rattle.init_trace.specs.Written.{Added, TakesFront}
use Rattle.machine_laws.specs.Histories.{history_from}
use Rattle.persist_file.specs.Store.{store_text}
use Rattle.script_lang.specs.declared.script.Act.{Act}
use Rattle.init_driver.specs.Readings.{readings_from, told_by}
use Rattle.init_driver.specs.Keeper.{KeeperView, Risks, Took}
use Rattle.init_driver.specs.Stored.{given_from, has_stored}
use Rattle.init_driver.specs.declared.refusal.DriveRefusal.{DriveRefusal}
use Rattle.init_driver.specs.declared.refusal.DriveRefusal.TheVariants as refusal
use Rattle.init_driver.specs.Machine.{MachineView, told_to}
use Rattle.init_driver.specs.Seat.{AreTold}
use Rattle.init_driver.specs.declared.traced.Traced.{Traced}

-- the machine, and what waits to be written
pub record TracedView : Type 0 where
  pub core : MachineView
  pub printer : List ℕ

abbrev pub view_of : {N : Type 0} → Traced N → TracedView
view_of t = record { core = t.core; printer = t.printer.bytes }

-- what waits before the last entry, and what waits of it
abbrev pub before_in : Waiting → List ℕ
before_in w = take w.begun w.bytes

abbrev pub entry_in : Waiting → List ℕ
entry_in w = drop w.begun w.bytes

-- the machine, and what waits before the last entry
abbrev pub before_of : {N : Type 0} → Traced N → TracedView
before_of t = record { core = t.core; printer = before_in t.printer }

-- an entry was told, which waits behind all that waited
pub record Waits (old new : Waiting) (e : Entry) : Type 0 where
  pub begun : new.begun ≤ length new.bytes
  pub before : before_in new ≡ old.bytes
  pub entry : entry_in new ≡ EntryText e
  pub stores : new.stores ≡ has_stored e.outputs

-- what the machine goes by, its state, its opening and its history, what waits to be written, what was taken of the text, and what the
-- keeper tells
pub record Place : Type 1 where
  pub config : Config
  pub policy : PolicyLines
  pub state : State
  pub opening : Opening
  pub history : List Entry
  pub waits : List ℕ
  pub taken : Option (List ℕ)
  pub keeper : KeeperView

abbrev pub place_of : TracedView → Option (List ℕ) → KeeperView → Place
place_of t taken keeper = record {
  config = t.core.config;
  policy = t.core.policy;
  state = t.core.state;
  opening = t.core.desk.opening;
  history = t.core.desk.history;
  waits = t.printer;
  taken = taken;
  keeper = keeper;
}

-- the entries of inputs that are taken at a place
abbrev pub entries_at : Place → List Input → List Entry
entries_at a inputs = history_from a.config a.policy a.state inputs

-- the texts that the keeper is given at inputs that are taken at a place
abbrev pub texts_at : Place → List Input → List (List ℕ)
texts_at a inputs = given_from a.config a.policy a.state inputs

-- Of some bytes that wait and of the text of entries behind them, so many bytes are written: all that comes before an entry
-- that stores a property is among them.
abbrev pub IsAhead : ℕ → List Entry → ℕ → Type 0
IsAhead waiting [] written = ⊤
IsAhead waiting (e ∷ rest) written =
    (IsTrue (has_stored e.outputs) → waiting ≤ written) × IsAhead (waiting + length (EntryText e)) rest written

-- the inputs lead from one place to another
pub record Leads (inputs : List Input) (a b : Place) : Type 0 where
  pub config : b.config ≡ a.config
  pub policy : b.policy ≡ a.policy
  pub state : b.state ≡ after_from a.config a.policy a.state inputs
  pub opening : b.opening ≡ a.opening
  pub history : b.history ≡ a.history ++ entries_at a inputs
  pub added : Added a.taken b.taken a.waits b.waits (EntriesText (entries_at a inputs))
  pub ahead : IsAhead (length a.waits) (entries_at a inputs) (length added.front)
  pub kept : Took a.keeper b.keeper (texts_at a inputs)

-- a refusal came when so many of the inputs were done: a front of their text is written
pub record Breaks (inputs : List Input) (a b : Place) : Type 0 where
  pub done : List Input
  pub left : List Input
  pub all : done ++ left ≡ inputs
  pub written : TakesFront a.taken b.taken (a.waits ++ EntriesText (entries_at a done))
  pub ahead : IsAhead (length a.waits) (entries_at a done) (length written.front)
  pub kept : Took a.keeper b.keeper (texts_at a done)

-- the keeper didn't take the text of an input's entry: all before that entry is written, and nothing else
pub record Stops (inputs : List Input) (a b : Place) : Type 0 where
  pub done : List Input
  pub input : Input
  pub left : List Input
  pub all : done ++ input ∷ left ≡ inputs
  pub stored : IsTrue (has_stored (step a.config a.policy (after_from a.config a.policy a.state done) input).lines)
  pub written : b.taken ≡ append_known a.taken (a.waits ++ EntriesText (entries_at a done))
  pub kept : a.keeper.TellsCrash → Risks a.keeper b.keeper (texts_at a done) (texts_at a (done ++ input ∷ []))

-- inputs are taken, until a refusal
abbrev pub Untaken : DriveRefusal → List Input → Place → Place → Type 0
Untaken refusal.Keeper inputs a b = Stops inputs a b
Untaken refusal.Write inputs a b = Breaks inputs a b
Untaken refusal.NoMemory inputs a b = Breaks inputs a b ⊎ Stops inputs a b

-- inputs are taken
abbrev pub Takes : {T : Type 0} → List Input → Place → Place → Result T DriveRefusal → Type 0
Takes inputs a b (Ok value) = Leads inputs a b
Takes inputs a b (Err e) = Untaken e inputs a b

-- the answer of a run where the sink answered this
abbrev pub at_sink : {T : Type 0} → Result T IoRefusal → Result T DriveRefusal
at_sink (Ok value) = Ok value
at_sink (Err io.Failed) = Err refusal.Write
at_sink (Err io.NoMemory) = Err refusal.NoMemory

-- a text is added to what waits, until a refusal
abbrev pub Unprinted : DriveRefusal → Option (List ℕ) → Option (List ℕ) → List ℕ → List ℕ → Type 0
Unprinted refusal.Keeper old new waited text = ⊥
Unprinted refusal.Write old new waited text = TakesFront old new (waited ++ text)
Unprinted refusal.NoMemory old new waited text = TakesFront old new (waited ++ text)

-- a text is added to what waits
abbrev pub Prints : {T : Type 0} → Option (List ℕ) → Option (List ℕ) → Result T DriveRefusal → List ℕ → List ℕ → List ℕ → Type 0
Prints old new (Ok value) waited waits text = Added old new waited waits text
Prints old new (Err e) waited waits text = Unprinted e old new waited text

-- the text of the saved pairs, if an entry stores a property
abbrev pub text_if : Bool → Place → List (List ℕ)
text_if stores a = if stores then store_text a.policy a.state.saved ∷ [] else []

-- the keeper didn't take a text: all that waited is written
pub record Refuses (stores : Bool) (a b : Place) : Type 0 where
  pub stored : IsTrue stores
  pub written : b.taken ≡ append_known a.taken a.waits
  pub kept : a.keeper.TellsCrash → Risks a.keeper b.keeper [] (text_if stores a)

-- not all that waited is written, and the keeper isn't asked
pub record Unwritten (a b : Place) : Type 0 where
  pub written : TakesFront a.taken b.taken a.waits
  pub kept : Took a.keeper b.keeper []

-- the text isn't kept, or it isn't the keeper's turn yet
abbrev pub Unsaved : DriveRefusal → Bool → Place → Place → Type 0
Unsaved refusal.Keeper stores a b = Refuses stores a b
Unsaved refusal.Write stores a b = Unwritten a b
Unsaved refusal.NoMemory stores a b = Unwritten a b ⊎ Refuses stores a b

-- The keeper is given the text of the saved pairs, if an entry stores a property. Before that all that waits is written.
pub record Saved (stores : Bool) (a b : Place) : Type 0 where
  pub added : Added a.taken b.taken a.waits b.waits []
  pub empty : IsTrue stores → b.waits ≡ []
  pub kept : Took a.keeper b.keeper (text_if stores a)

abbrev pub Saves : {T : Type 0} → Bool → Place → Place → Result T DriveRefusal → Type 0
Saves stores a b (Ok value) = Saved stores a b
Saves stores a b (Err e) = Unsaved e stores a b

-- what a keeper that was given one text answers
abbrev pub Holds : {T : Type 0} → KeeperView → KeeperView → List ℕ → Result T DriveRefusal → Type 0
Holds a b text (Ok value) = Took a b (text ∷ [])
Holds a b text (Err e) = a.TellsCrash → Risks a b [] (text ∷ [])

-- a state that a well-formed machine reaches
pub record IsReached (config : Config) (policy : PolicyLines) (s : State) : Type 0 where
  pub opening : Opening
  pub inputs : List Input
  pub well_formed : IsWellFormed opening.config
  pub config_is : config ≡ without_saved opening.config
  pub policy_is : policy ≡ opening.policy
  pub state_is : s ≡ after opening inputs

-- the parts of clients, of which the first has this number, after an act
abbrev pub told_at : State → Act → ℕ → List ClientPart → List ClientPart
told_at s act id [] = []
told_at s act id (part ∷ rest) =
    record part { readings = part.readings ++ told_by id s act } ∷ told_at s act (id + 1) rest

-- the parts of clients, of which the first has this number, after acts that are taken from a state on
abbrev pub told_from : Config → PolicyLines → State → List Act → ℕ → List ClientPart → List ClientPart
told_from config policy s acts id [] = []
told_from config policy s acts id (part ∷ rest) =
    record part { readings = part.readings ++ readings_from config policy id s acts } ∷ told_from config policy s acts (id + 1) rest

-- a machine has made this report, whose history comes behind its own: the clients were told what their parts have
pub record HasDone (a b : MachineView) (report : Report) : Type 0 where
  pub config : b.config ≡ a.config
  pub opening : b.desk.opening ≡ a.desk.opening
  pub history : b.desk.history ≡ a.desk.history ++ report.history
  pub told : AreTold (told_to b.readers) 1 report.clients
