-- What is known of entries that were taken one after another. No promise of a public call cites these definitions.
use Rattle.std.specs.Prelude.{◌≡◌, ℕ, ◌<◌, ◌≤◌, ⊤, List, [], ◌∷◌, length, filter, Option, Some, None, MatchOption, Result, Ok, Err}
use Rattle.std.specs.List.{filter_map}
use Rattle.init_core.specs.Core.{CoreView, without_saved}
use Rattle.init_machine.specs.History.{Legal, after, inputs_of, sets_of}
use Rattle.init_machine.specs.State.{Opening}
use Rattle.init_machine.specs.declared.input.Input.{Input}
use Rattle.init_machine.specs.declared.input.Input.TheVariants as input
use Rattle.init_machine.specs.declared.report.Entry.{Entry}
use Rattle.init_machine.specs.declared.report.Report.{Report}
use Rattle.script_lang.specs.Inputs.{Parts}
use Rattle.script_lang.specs.Laws.{set_by}
use Rattle.script_lang.specs.Merges.{is_main}
use Rattle.script_lang.specs.declared.script.Script.{Script}
use Rattle.trace_audit.specs.Audited.{IllegalAt, StraysAt}
use Rattle.trace_audit.specs.Lists.{all_requests}
use Rattle.trace_audit.specs.Progress.{Left, Takes, first_left, left_of}
use Rattle.trace_audit.specs.declared.taking.Audit.{Audit}
use Rattle.trace_audit.specs.declared.merge.Merge.{Merge}
use Rattle.trace_audit.specs.declared.told.Gathered.{Gathered}
use Rattle.script_lang.specs.declared.fault.Fault.{Fault}
use Rattle.script_lang.specs.declared.fault.Fault.TheVariants as fault

-- ---- the order of the inputs

-- the inputs are all that is left
pub record Fills (inputs : List Input) (left : Left) : Type 0 where
  pub main : filter is_main inputs ≡ left.main
  pub sets : (who : ℕ) → filter_map (set_by who) inputs ≡ left.sets who

-- inputs of the actors lead to what is left, and others from there to the end
pub record IsAmid (script : Script) (done : List Input) (left : Left) : Type 0 where
  pub takes : Takes done (first_left (Parts script)) left
  pub more : List Input
  pub fills : Fills more left

-- a merging begins with the entries, behind which this is left
abbrev pub Goes : Script → List Entry → Left → Type 0
Goes script [] left = IsAmid script [] left
Goes script (e ∷ entries) left = (e.input ≡ input.Boot) × IsAmid script (inputs_of entries) left

-- so many entries were taken, and a merging begins with them, or one of them is the first that strays
pub record HasMerged (script : Script) (history : List Entry) (merge : Merge) : Type 0 where
  pub taken : merge.taken ≡ length history
  pub order : MatchOption merge.strays (Goes script history (left_of script.acts merge.progress)) (StraysAt script history)

-- ---- what the machine did

-- the entries are legal, and the machine stands behind them
pub record IsBehind {S : Type 0} (o : Opening) (history : List Entry) (core : CoreView S) : Type 0 where
  pub legal : Legal o history
  pub config : core.config ≡ without_saved o.config
  pub policy : core.policy ≡ o.policy
  pub state : core.state ≡ after o (inputs_of history)

-- so it is, or the outputs of one of them are the first that aren't the machine's
abbrev pub HasChecked : {S : Type 0} → Opening → List Entry → Option ℕ → CoreView S → Type 0
HasChecked o history illegal core = MatchOption illegal (IsBehind o history core) (IllegalAt o history)

-- ---- what the entries tell

pub record HasGathered (history : List Entry) (told : Gathered) : Type 0 where
  pub sets : told.sets.items ≡ sets_of history
  pub requests : told.requests.items ≡ all_requests 0 history

-- ---- all of it

-- What the machine did is looked at as long as the entries begin a merging, and what they tell where there are clients.
pub record HasTaken (o : Opening) (script : Script) (history : List Entry) (audit : Audit) : Type 0 where
  pub declared : length script.clients ≤ length o.config.domains
  pub merged : HasMerged script history audit.merge
  pub checked : audit.merge.strays ≡ None → HasChecked o history audit.illegal audit.core
  pub told : 0 < length script.clients → HasGathered history audit.told

-- it has taken some entries, from some opening
abbrev pub HasTakenSome : Script → Audit → Type 0
HasTakenSome script audit = (o : Opening) × (history : List Entry) × HasTaken o script history audit

-- a report with another history
abbrev pub with_history : List Entry → Report → Report
with_history history report = record { diagnostics = report.diagnostics; history = history; clients = report.clients }

-- it has taken no entry, from some opening
abbrev pub HasTakenNone : Script → Audit → Type 0
HasTakenNone script audit = (o : Opening) × HasTaken o script [] audit

-- a report that was to come is one whose entries the audit has taken, with this rest
pub record TakesAll (o : Opening) (script : Script) (left : Option Report) (audit : Audit) (rest : Report) : Type 0 where
  pub history : List Entry
  pub taken : HasTaken o script history audit
  pub left_is : left ≡ Some (with_history history rest)

-- all entries of what was left are taken, or nothing was left that is a report's
abbrev pub EndsWith : Opening → Script → Option Report → Audit → Result Report Fault → Type 0
EndsWith o script left audit (Ok rest) = TakesAll o script left audit rest
EndsWith o script left audit (Err fault.Bad) = left ≡ None
EndsWith o script left audit (Err fault.NoMemory) = ⊤
