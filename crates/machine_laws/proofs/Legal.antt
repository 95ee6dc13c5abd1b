-- Legal histories: their entries, their beginnings, and the one history of each list of inputs.
use Rattle.std.proofs.Common.{◌≡◌, ◌↔◌, ℕ, zero, suc, List, [], ◌∷◌, ◌++◌, take, slice_get, Some, refl, sym, ap, ◌∙◌, subst}
use Rattle.init_machine.specs.History.{after_from, LegalFrom, Legal, inputs_of}
use Rattle.init_machine.specs.Policy.{PolicyLines}
use Rattle.init_machine.specs.State.{Opening, State, first_state}
use Rattle.init_machine.specs.Step.{step, respond}
use Rattle.init_machine.specs.declared.config.Config.{Config}
use Rattle.init_machine.specs.declared.config.Pair.{Pair}
use Rattle.init_machine.specs.declared.input.Input.{Input}
use Rattle.init_machine.specs.declared.input.Input.TheVariants as input
use Rattle.init_machine.specs.declared.output.Output.{Output}
use Rattle.init_machine.specs.declared.report.Entry.{Entry}
use Rattle.machine_laws.specs.Histories.{HasStepOutputs, history_from, history_of}

same_entry : (e f : Entry) → e.input ≡ f.input → e.outputs ≡ f.outputs → e ≡ f
same_entry e f inputs outputs =
    ap (λ (i : Input). let x : Entry = record { input = i; outputs = e.outputs } in x) inputs
    ∙ ap (λ (os : List Output). let x : Entry = record { input = f.input; outputs = os } in x) outputs

same_from : (config : Config) (policy : PolicyLines) (s : State) (first second : List Entry) → LegalFrom config policy s first → LegalFrom config policy s second
    → inputs_of first ≡ inputs_of second → first ≡ second
same_from config policy s [] [] legal also same = refl
same_from config policy s [] (f ∷ second) legal also same = cc
same_from config policy s (e ∷ first) [] legal also same = cc
same_from config policy s (e ∷ first) (f ∷ second) legal also same =
    let input : e.input ≡ f.input = cc in
    let inputs : inputs_of first ≡ inputs_of second = cc in
    let outputs : e.outputs ≡ f.outputs = legal.0 ∙ ap (λ i. (step config policy s i).lines) input ∙ sym also.0 in
    let state : (step config policy s f.input).state ≡ (step config policy s e.input).state = ap (λ i. (step config policy s i).state) (sym input) in
    let rest : first ≡ second =
    same_from config policy (step config policy s e.input).state first second legal.1 (subst (λ t. LegalFrom config policy t second) state also.1) inputs in
    let head : e ≡ f = same_entry e f input outputs in
    cc

-- two legal histories with the same inputs are the same
pub same_history : (o : Opening) (first second : List Entry) → Legal o first → Legal o second
    → inputs_of first ≡ inputs_of second → first ≡ second
same_history o first second legal also same = same_from o.config o.policy (first_state o) first second legal also same

legal_from : (config : Config) (policy : PolicyLines) (s : State) (inputs : List Input) → LegalFrom config policy s (history_from config policy s inputs)
legal_from config policy s [] = tt
legal_from config policy s (i ∷ inputs) = (refl, legal_from config policy (step config policy s i).state inputs)

inputs_from : (config : Config) (policy : PolicyLines) (s : State) (inputs : List Input) → inputs_of (history_from config policy s inputs) ≡ inputs
inputs_from config policy s [] = refl
inputs_from config policy s (i ∷ inputs) = ap (λ rest. i ∷ rest) (inputs_from config policy (step config policy s i).state inputs)

-- the history of inputs is legal, has these inputs, and is the only one
pub history_is_legal : (o : Opening) (inputs : List Input) → Legal o (history_of o inputs)
history_is_legal o inputs = legal_from o.config o.policy (first_state o) inputs

pub inputs_of_history : (o : Opening) (inputs : List Input) → inputs_of (history_of o inputs) ≡ inputs
inputs_of_history o inputs = inputs_from o.config o.policy (first_state o) inputs

pub only_history : (o : Opening) (history : List Entry) → Legal o history → history ≡ history_of o (inputs_of history)
only_history o history legal =
    same_history o history (history_of o (inputs_of history)) legal (history_is_legal o (inputs_of history)) (sym (inputs_of_history o (inputs_of history)))

beginning_from : (config : Config) (policy : PolicyLines) (s : State) (beginning rest : List Entry) → LegalFrom config policy s (beginning ++ rest)
    → LegalFrom config policy s beginning
beginning_from config policy s [] rest legal = tt
beginning_from config policy s (e ∷ beginning) rest legal =
    (legal.0, beginning_from config policy (step config policy s e.input).state beginning rest legal.1)

-- the beginning of a legal history is legal
pub legal_beginning : (o : Opening) (beginning rest : List Entry) → Legal o (beginning ++ rest) → Legal o beginning
legal_beginning o beginning rest legal = beginning_from o.config o.policy (first_state o) beginning rest legal

-- each entry has the outputs of the step in the state that the inputs before it leave, from a state on
abbrev EachHas : Config → PolicyLines → State → List Entry → Type 0
EachHas config policy s entries =
    (i : ℕ) (e : Entry) → slice_get entries i ≡ Some e → e.outputs ≡ (step config policy (after_from config policy s (inputs_of (take i entries))) e.input).lines

each_has : (config : Config) (policy : PolicyLines) (s : State) (entries : List Entry) → LegalFrom config policy s entries → EachHas config policy s entries
each_has config policy s [] legal i e is = cc
each_has config policy s (x ∷ entries) legal zero e is =
    let same : x ≡ e = cc in subst (λ (y : Entry). y.outputs ≡ (step config policy s y.input).lines) same legal.0
each_has config policy s (x ∷ entries) legal (suc i) e is = each_has config policy (step config policy s x.input).state entries legal.1 i e is

from_each : (config : Config) (policy : PolicyLines) (s : State) (entries : List Entry) → EachHas config policy s entries → LegalFrom config policy s entries
from_each config policy s [] each = tt
from_each config policy s (x ∷ entries) each =
    (each zero x refl, from_each config policy (step config policy s x.input).state entries (λ i. each (suc i)))

-- legal exactly where each entry has the outputs of its step
pub by_place : (o : Opening) (history : List Entry)
    → (Legal o history) ↔ ((i : ℕ) (e : Entry) → slice_get history i ≡ Some e → HasStepOutputs o (take i history) e)
by_place o history = (each_has o.config o.policy (first_state o) history, from_each o.config o.policy (first_state o) history)

-- a step doesn't read the saved pairs of the configuration
pub same_step : (config : Config) (policy : PolicyLines) (saved : List Pair) (s : State) (i : Input)
    → step (record config { saved = saved }) policy s i ≡ step config policy s i
unfolding step respond
same_step config policy saved s input.Boot = refl
same_step config policy saved s input.Next = refl
same_step config policy saved s (input.Tick ms) = refl
same_step config policy saved s (input.Exit name status) = refl
same_step config policy saved s (input.File path content) = refl
same_step config policy saved s (input.Set who name value) = refl

pub same_after : (config : Config) (policy : PolicyLines) (saved : List Pair) (s : State) (inputs : List Input)
    → after_from (record config { saved = saved }) policy s inputs ≡ after_from config policy s inputs
same_after config policy saved s [] = refl
same_after config policy saved s (i ∷ inputs) =
    ap (λ c. after_from (record config { saved = saved }) policy c.state inputs) (same_step config policy saved s i)
    ∙ same_after config policy saved (step config policy s i).state inputs
