-- The course of a run that is counted: what stands between two inputs. No promise of the crate cites these definitions.
use Rattle.std.specs.Prelude.{◌≡◌, List, [], ◌∷◌, ◌++◌, Bool, true, false, Option, Some, None}
use Rattle.init_machine.specs.History.{after_from}
use Rattle.init_machine.specs.declared.input.Input.{Input}
use Rattle.machine_laws.specs.Histories.{history_from}
use Rattle.script_lang.specs.declared.script.Act.{Act}
use Rattle.script_lang.specs.declared.script.Act.TheVariants as act
use Rattle.soak_summary.specs.Counts.{Counts, with_entries}
use Rattle.init_driver.specs.Machine.{MachineView}

-- a machine took inputs, and their entries were counted
pub record CountsOn (inputs : List Input) (a b : MachineView) (c d : Counts) : Type 0 where
  pub config : b.config ≡ a.config
  pub policy : b.policy ≡ a.policy
  pub state : b.state ≡ after_from a.config a.policy a.state inputs
  pub opening : b.desk.opening ≡ a.desk.opening
  pub history : b.desk.history ≡ a.desk.history ++ history_from a.config a.policy a.state inputs
  pub counted : d ≡ with_entries c (history_from a.config a.policy a.state inputs)

-- the inputs that one is or none
abbrev pub inputs_in : Option Input → List Input
inputs_in None = []
inputs_in (Some input) = input ∷ []

abbrev pub is_step : Act → Bool
is_step (act.Step count) = true
is_step _ = false
