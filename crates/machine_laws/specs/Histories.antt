-- The history of inputs, and what makes an entry legal at its place.
use Rattle.std.specs.Prelude.{◌≡◌, List, [], ◌∷◌}
use Rattle.init_machine.specs.History.{after, inputs_of}
use Rattle.init_machine.specs.Policy.{PolicyLines}
use Rattle.init_machine.specs.State.{Opening, State, first_state}
use Rattle.init_machine.specs.Step.{step}
use Rattle.init_machine.specs.declared.config.Config.{Config}
use Rattle.init_machine.specs.declared.input.Input.{Input}
use Rattle.init_machine.specs.declared.report.Entry.{Entry}

-- the entry has the outputs of the step at its input, in the state after the inputs of these earlier entries
abbrev pub HasStepOutputs : Opening → List Entry → Entry → Type 0
HasStepOutputs o earlier e = e.outputs ≡ (step o.config o.policy (after o (inputs_of earlier)) e.input).lines

-- the entries that the machine writes at inputs, from a state
abbrev pub history_from : Config → PolicyLines → State → List Input → List Entry
history_from config policy s [] = []
history_from config policy s (i ∷ inputs) =
    record { input = i; outputs = (step config policy s i).lines } ∷ history_from config policy (step config policy s i).state inputs

-- the history of inputs, from the first state
abbrev pub history_of : Opening → List Input → List Entry
history_of o inputs = history_from o.config o.policy (first_state o) inputs
