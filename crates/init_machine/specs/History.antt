-- Runs of the machine and their histories (this project's profile).
use Rattle.std.specs.Prelude.{◌≡◌, ℕ, List, [], ◌∷◌, length, take, map}
use Rattle.std.specs.List.{flat_map}
use Rattle.init_machine.specs.Policy.{PolicyLines}
pub use Rattle.init_machine.specs.Sets.{last_value, value_at}
use Rattle.init_machine.specs.State.{Opening, State, first_state}
use Rattle.init_machine.specs.Step.{step}
use Rattle.init_machine.specs.declared.config.Config.{Config}
use Rattle.init_machine.specs.declared.input.Input.{Input}
use Rattle.init_machine.specs.declared.output.Output.{Output}
use Rattle.init_machine.specs.declared.output.Output.TheVariants as output
use Rattle.init_machine.specs.declared.report.Entry.{Entry}

-- the state after inputs, from a state
abbrev pub after_from : Config → PolicyLines → State → List Input → State
after_from config policy s [] = s
after_from config policy s (i ∷ inputs) = after_from config policy (step config policy s i).state inputs

-- the state after inputs, from the first state
abbrev pub after : Opening → List Input → State
after o inputs = after_from o.config o.policy (first_state o) inputs

abbrev pub inputs_of : List Entry → List Input
inputs_of history = map (λ e. e.input) history

-- from a state on, each entry has the outputs of the step at its input, in the state that the inputs before it leave
abbrev pub LegalFrom : Config → PolicyLines → State → List Entry → Type 0
LegalFrom config policy s [] = Unit {0}
LegalFrom config policy s (e ∷ entries) =
    (e.outputs ≡ (step config policy s e.input).lines) × LegalFrom config policy (step config policy s e.input).state entries

-- a legal history: that of the machine, from its first state
abbrev pub Legal : Opening → List Entry → Type 0
Legal o history = LegalFrom o.config o.policy (first_state o) history

-- the name and value of a `put`
abbrev pub set_in : Output → List (List ℕ × List ℕ)
set_in (output.Event name) = []
set_in (output.Change name value) = []
set_in output.AllProperties = []
set_in (output.Action file line) = []
set_in (output.Command file line word args) = []
set_in (output.Put number name value) = (name, value) ∷ []
set_in (output.Stored name) = []
set_in (output.Unset name refusal) = []
set_in (output.Spawn pid name path) = []
set_in (output.NoPid name) = []
set_in (output.Kill pid name) = []
set_in (output.Reap pid name how) = []
set_in (output.Env name value) = []
set_in (output.Tree path) = []
set_in output.Noted = []
set_in output.Ok = []
set_in (output.Failed cause) = []
set_in (output.WaitChild pid) = []
set_in (output.WaitProp name value) = []
set_in (output.WaitFile path until) = []
set_in output.Released = []
set_in output.Timeout = []
set_in output.Blocked = []
set_in output.Idle = []
set_in output.Down = []
set_in output.TooFar = []
set_in output.NoProcess = []
set_in (output.Reboot target) = []
set_in (output.Accepted number) = []
set_in (output.Control number) = []
set_in (output.Refused refusal) = []

abbrev pub sets_in : List Output → List (List ℕ × List ℕ)
sets_in outputs = flat_map set_in outputs

-- the sets of a history, in order
abbrev pub sets_of : List Entry → List (List ℕ × List ℕ)
sets_of history = flat_map (λ e. sets_in e.outputs) history

-- the number of a `put`
abbrev pub number_in : Output → List ℕ
number_in (output.Event name) = []
number_in (output.Change name value) = []
number_in output.AllProperties = []
number_in (output.Action file line) = []
number_in (output.Command file line word args) = []
number_in (output.Put number name value) = number ∷ []
number_in (output.Stored name) = []
number_in (output.Unset name refusal) = []
number_in (output.Spawn pid name path) = []
number_in (output.NoPid name) = []
number_in (output.Kill pid name) = []
number_in (output.Reap pid name how) = []
number_in (output.Env name value) = []
number_in (output.Tree path) = []
number_in output.Noted = []
number_in output.Ok = []
number_in (output.Failed cause) = []
number_in (output.WaitChild pid) = []
number_in (output.WaitProp name value) = []
number_in (output.WaitFile path until) = []
number_in output.Released = []
number_in output.Timeout = []
number_in output.Blocked = []
number_in output.Idle = []
number_in output.Down = []
number_in output.TooFar = []
number_in output.NoProcess = []
number_in (output.Reboot target) = []
number_in (output.Accepted number) = []
number_in (output.Control number) = []
number_in (output.Refused refusal) = []

-- the numbers of the sets of a history, in order
abbrev pub numbers_of : List Entry → List ℕ
numbers_of history = flat_map (λ e. flat_map number_in e.outputs) history

-- how many sets the first n entries have
abbrev pub count_at : List Entry → ℕ → ℕ
count_at history n = length (sets_of (take n history))
