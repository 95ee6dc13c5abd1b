-- A run of a script on one thread: the report that it writes, and what stands where it ends early.
use Rattle.std.specs.Prelude.{◌≡◌, ℕ, suc, ◌-◌, ◌⊎◌, ⊤, Bool, true, false, nat_le, IsTrue, All, List, [], ◌∷◌, ◌++◌, length, take, Option, Result, Ok, Err, if◌then◌else◌}
use Rattle.std.specs.Io.KnownBytes.{append_known}
use Rattle.init_machine.specs.History.{after_from}
use Rattle.init_machine.specs.Policy.{PolicyLines}
use Rattle.init_machine.specs.State.{Opening, State, first_state}
use Rattle.init_machine.specs.declared.config.Config.{Config}
use Rattle.init_machine.specs.declared.diagnostic.Diagnostic.{Diagnostic}
use Rattle.init_machine.specs.declared.input.Input.TheVariants as input
use Rattle.init_machine.specs.declared.report.Entry.{Entry}
use Rattle.init_machine.specs.declared.report.Report.{Report}
use Rattle.init_trace.specs.Report.{EntriesText, EntryText, HeadText, TextOf}
use Rattle.init_trace.specs.Written.{TakesFront}
use Rattle.machine_laws.specs.Histories.{history_from}
use Rattle.script_lang.specs.Inputs.{InOrder}
use Rattle.script_lang.specs.Laws.{IsAskAmong}
use Rattle.script_lang.specs.declared.script.Script.{Script}
use Rattle.init_driver.specs.Readings.{parts_from}
use Rattle.init_driver.specs.Keeper.{KeeperView, Risks, Took}
use Rattle.init_driver.specs.Stored.{given_from, has_stored}
use Rattle.init_driver.specs.declared.refusal.DriveRefusal.{DriveRefusal}
use Rattle.init_driver.specs.declared.refusal.DriveRefusal.TheVariants as refusal

-- Each request is that of a client of the script, and each name that is read is legal. It is so for each script that was read.
abbrev pub AsksAreMet : Script → Type 0
AsksAreMet script = All (IsAskAmong (length script.clients)) script.acts

-- The report of a run from a state: the given diagnostics, the legal history of the script's inputs in their order, and the
-- parts of the clients, whose requests come behind the boot.
abbrev pub report_from : Config → PolicyLines → State → List Diagnostic → Script → Report
report_from config policy s diagnostics script = record {
  diagnostics = diagnostics;
  history = history_from config policy s (InOrder script);
  clients = parts_from config policy (after_from config policy s (input.Boot ∷ [])) script.acts 1 script.clients;
}

-- the report of a run: that from the first state of the machine
abbrev pub report_of : Opening → List Diagnostic → Script → Report
report_of o diagnostics script = report_from o.config o.policy (first_state o) diagnostics script

-- the texts that the keeper is given in a run
abbrev pub given_in : Opening → Script → List (List ℕ)
given_in o script = given_from o.config o.policy (first_state o) (InOrder script)

-- how many of these entries stand whole in the first n bytes of their text
abbrev pub whole_in : ℕ → List Entry → ℕ
whole_in n [] = 0
whole_in n (e ∷ rest) = if nat_le (length (EntryText e)) n then suc (whole_in (n - length (EntryText e)) rest) else 0

-- how many entries of a report are written whole, where this front of its text is written
abbrev pub entries_in : List ℕ → Report → ℕ
entries_in front report = whole_in (length front - length (HeadText report.diagnostics)) report.history

-- the head and all entries before one that stores a property, and nothing else
pub record EndsBeforeStored (front : List ℕ) (report : Report) : Type 0 where
  pub before : List Entry
  pub entry : Entry
  pub behind : List Entry
  pub history : report.history ≡ before ++ entry ∷ behind
  pub stored : IsTrue (has_stored entry.outputs)
  pub front_is : front ≡ HeadText report.diagnostics ++ EntriesText before

-- where the front that is written ends: after a fault of the keeper right before the entry whose text it was to take
abbrev pub EndsAt : DriveRefusal → List ℕ → Report → Type 0
EndsAt refusal.Keeper front report = EndsBeforeStored front report
EndsAt refusal.Write front report = ⊤
EndsAt refusal.NoMemory front report = ⊤

-- The keeper, where the entries that were given these texts are written whole, or one more, that was given the others. After a
-- fault of the sink the keeper took each; after one of its own, or want of memory, the last one may stand or not.
abbrev pub KeepsPart : DriveRefusal → KeeperView → KeeperView → List (List ℕ) → List (List ℕ) → Type 0
KeepsPart refusal.Write old new texts others = Took old new texts ⊎ Took old new others
KeepsPart refusal.Keeper old new texts others = old.TellsCrash → Risks old new texts others
KeepsPart refusal.NoMemory old new texts others = old.TellsCrash → Risks old new texts others

-- what a run is to write and to give: its report, the texts that the keeper is given up to each entry, and all of them
pub record Due : Type 0 where
  pub report : Report
  pub upto : ℕ → List (List ℕ)
  pub all : List (List ℕ)

-- that of a run from a state
abbrev pub due_from : Config → PolicyLines → State → List Diagnostic → Script → Due
due_from config policy s diagnostics script = record {
  report = report_from config policy s diagnostics script;
  upto = λ n. given_from config policy s (take n (InOrder script));
  all = given_from config policy s (InOrder script);
}

-- that of a run from the first state of the machine
abbrev pub due_of : Opening → List Diagnostic → Script → Due
due_of o diagnostics script = due_from o.config o.policy (first_state o) diagnostics script

-- What a run leaves where it is refused: a front of its text, and so many entries stand whole in it; the keeper stands as at
-- the last of them, or at the next entry.
pub record LeavesPart (e : DriveRefusal) (old new : Option (List ℕ)) (keeper kept : KeeperView) (due : Due) : Type 0 where
  pub written : TakesFront old new (TextOf due.report)
  pub ends : EndsAt e written.front due.report
  pub kept_at : KeepsPart e keeper kept (due.upto (entries_in written.front due.report)) (due.upto (suc (entries_in written.front due.report)))

-- what a run leaves in the sink and with the keeper
abbrev pub Leaves : {T : Type 0} → Result T DriveRefusal → Option (List ℕ) → Option (List ℕ) → KeeperView → KeeperView → Due → Type 0
Leaves (Ok value) old new keeper kept due = (new ≡ append_known old (TextOf due.report)) × Took keeper kept due.all
Leaves (Err e) old new keeper kept due = LeavesPart e old new keeper kept due

-- whether a run ended by a fault of the keeper
abbrev pub keeper_failed : {T : Type 0} → Result T DriveRefusal → Bool
keeper_failed (Ok value) = false
keeper_failed (Err refusal.Keeper) = true
keeper_failed (Err refusal.Write) = false
keeper_failed (Err refusal.NoMemory) = false

-- whether a run ended by a fault of the sink
abbrev pub sink_failed : {T : Type 0} → Result T DriveRefusal → Bool
sink_failed (Ok value) = false
sink_failed (Err refusal.Keeper) = false
sink_failed (Err refusal.Write) = true
sink_failed (Err refusal.NoMemory) = false
