-- What a script leaves whose main actor went first and whose clients' sets were dispatched.
use Rattle.std.specs.Prelude.{◌≡◌, ℕ, Bool, true, false, IsTrue, List, [], ◌∷◌, ◌++◌, filter, All, Result}
use Rattle.std.specs.List.{filter_map}
use Rattle.init_driver.specs.Run.{report_of}
use Rattle.init_machine.specs.History.{inputs_of}
use Rattle.init_machine.specs.State.{Opening}
use Rattle.init_machine.specs.declared.diagnostic.Diagnostic.{Diagnostic}
use Rattle.init_machine.specs.declared.input.Input.TheVariants as input
use Rattle.init_machine.specs.declared.report.ClientPart.{ClientPart}
use Rattle.init_machine.specs.declared.report.Entry.{Entry}
use Rattle.init_machine.specs.declared.report.Report.{Report}
use Rattle.init_driver.specs.Keeper.{KeeperView}
use Rattle.init_race.specs.Race.{KeepsReport}
use Rattle.init_race.specs.declared.racing.Raced.{Raced}
use Rattle.init_race.specs.declared.refusal.RaceRefusal.{RaceRefusal}
use Rattle.script_lang.specs.Inputs.{Parts, ask_by, part_of}
use Rattle.script_lang.specs.Laws.{is_set}
use Rattle.script_lang.specs.declared.script.Act.{Act}
use Rattle.script_lang.specs.declared.script.Act.TheVariants as act
use Rattle.script_lang.specs.declared.script.Script.{Script}
use Rattle.trace_audit.specs.Audited.{Audited}

-- the history begins with the boot and the main actor's part, in order, and the entries after them are sets alone
pub record HasMainFirst (script : Script) (history : List Entry) : Type 0 where
  pub main : List Entry
  pub sets : List Entry
  pub history_is : history ≡ main ++ sets
  pub main_is : inputs_of main ≡ input.Boot ∷ (Parts script).main
  pub are_sets : All (λ (e : Entry). IsTrue (is_set e.input)) sets

-- the report of a dispatched script: it is audited, the main actor's entries come first, and no client has readings
pub record IsDispatched (o : Opening) (found : List Diagnostic) (script : Script) (report : Report) : Type 0 where
  pub audited : Audited o found script report
  pub main_first : HasMainFirst script report.history
  pub no_readings : All (λ (part : ClientPart). part.readings ≡ []) report.clients

-- what stands with the keeper after a dispatch: what a race leaves, of such a report
abbrev pub KeepsDispatch : Opening → List Diagnostic → Script → Result Raced RaceRefusal → KeeperView → KeeperView → Type 0
KeepsDispatch o found script result old new = KeepsReport o (λ report. IsDispatched o found script report) result old new

-- ---- the same by a run

-- whether an act is the main actor's
abbrev pub is_main_act : Act → Bool
is_main_act (act.Step count) = true
is_main_act (act.Tick ms) = true
is_main_act (act.Exit name status) = true
is_main_act (act.File path content) = true
is_main_act (act.Ask who ask) = false

-- The other script has the same clients and the same acts in another order: first the main actor's, in their order, and then the
-- clients' requests, each client's in their order.
pub record HasMainActsFirst (script other : Script) : Type 0 where
  pub clients : other.clients ≡ script.clients
  pub asks : List Act
  pub acts : other.acts ≡ filter is_main_act script.acts ++ asks
  pub requests : All (λ (a : Act). is_main_act a ≡ false) asks
  pub parts : (who : ℕ) → filter_map (ask_by who) asks ≡ part_of who script

-- the report is that of a run of the script in such an order
pub record IsRunOfOrder (o : Opening) (found : List Diagnostic) (script : Script) (report : Report) : Type 0 where
  pub other : Script
  pub order : HasMainActsFirst script other
  pub report_is : report ≡ report_of o found other
