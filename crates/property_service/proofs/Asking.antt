-- How the entry of a client's set ends.
use Rattle.std.proofs.Common.{◌≡◌, ◌-◌, ℕ, suc, Bool, true, false, List, [], ◌∷◌, ◌++◌, length, slice_get, IfOk, Option, Some, None, Result, Ok, Err, refl, sym, ap, ◌∙◌, subst, inl, inr, arith}
use Rattle.std.specs.List.{AllByRecursion}
use Rattle.history_laws.proofs.Ending.{step_ends}
use Rattle.history_laws.specs.Settled.{IsSettled}
use Rattle.init_base.specs.declared.memory.NoMemory.{NoMemory as NoMemoryAnswer}
use Rattle.init_base.specs.declared.units.ClientId.{ClientId}
use Rattle.init_machine.specs.HasText.{OutputHasText}
use Rattle.init_machine.specs.Policy.{PolicyLines}
use Rattle.init_machine.specs.Setting.{is_control, set_answer}
use Rattle.init_machine.specs.State.{State, rules_of}
use Rattle.init_machine.specs.Step.{step, answer_line, domain_of}
use Rattle.init_machine.specs.declared.config.Config.{Config}
use Rattle.init_machine.specs.declared.input.Input.{Input}
use Rattle.init_machine.specs.declared.input.Input.TheVariants.{Boot, Next, Tick, Exit, File, Set}
use Rattle.init_machine.specs.declared.output.Output.{Output}
use Rattle.init_machine.specs.declared.output.Output.TheVariants as output
use Rattle.init_machine.specs.declared.output.SetRefusal.{SetRefusal}
use Rattle.init_machine.specs.declared.output.SetRefusal.TheVariants.{Spent, Down, InvalidName, UnknownControl, Denied, NoSuchService, InvalidType, ValueTooLong, NotUtf8, ReadOnly, AreaFull, NumberSpent, NoMemory}
use Rattle.init_machine.specs.declared.report.Entry.{Entry}
use Rattle.machine_laws.proofs.HasText.{step_has_text}
use Rattle.property_area.specs.Readers.{last_of, IsAnswer, IsAnswered}
use Rattle.property_service.proofs.Histories.{entry_at}
use Rattle.property_service.specs.Back.{has_entry, is_reached, line_of}
use Rattle.property_service.specs.Service.{last_outputs}
use Rattle.property_service.specs.declared.answer.Accepted.{Accepted}

pub last-end : (outputs : List Output) (o : Output) → last_of (outputs ++ o ∷ []) ≡ Some o
last-end [] o = refl
last-end (x ∷ []) o = refl
last-end (x ∷ y ∷ outputs) o = last-end (y ∷ outputs) o

pub last_outputs-end : (history : List Entry) (e : Entry) → last_outputs (history ++ e ∷ []) ≡ e.outputs
last_outputs-end [] e = refl
last_outputs-end (x ∷ []) e = refl
last_outputs-end (x ∷ y ∷ history) e = last_outputs-end (y ∷ history) e

-- what stands at the last place
pub last_at : (outputs : List Output) (o : Output) → slice_get outputs (length outputs - 1) ≡ Some o → last_of outputs ≡ Some o
last_at [] o is = let none : None ≡ Some o = is in cc
last_at (x ∷ []) o is = is
last_at (x ∷ y ∷ outputs) o is =
    let n : length (x ∷ y ∷ outputs) - 1 ≡ suc (length (y ∷ outputs) - 1) = omega arith in
    last_at (y ∷ outputs) o (sym (ap (slice_get (x ∷ y ∷ outputs)) n) ∙ is)

pub none_at : (outputs : List Output) → slice_get outputs (length outputs - 1) ≡ None → last_of outputs ≡ None
none_at [] is = refl
none_at (x ∷ []) is = let some : Some x ≡ None = is in absurd (cc)
none_at (x ∷ y ∷ outputs) is =
    let n : length (x ∷ y ∷ outputs) - 1 ≡ suc (length (y ∷ outputs) - 1) = omega arith in
    none_at (y ∷ outputs) (sym (ap (slice_get (x ∷ y ∷ outputs)) n) ∙ is)

pub last_entry_at : (history : List Entry) (e : Entry) → slice_get history (length history - 1) ≡ Some e → last_outputs history ≡ e.outputs
last_entry_at [] e is = let none : None ≡ Some e = is in absurd (cc)
last_entry_at (x ∷ []) e is = let same : x ≡ e = cc in ap (λ (y : Entry). y.outputs) same
last_entry_at (x ∷ y ∷ history) e is =
    let n : length (x ∷ y ∷ history) - 1 ≡ suc (length (y ∷ history) - 1) = omega arith in
    last_entry_at (y ∷ history) e (sym (ap (slice_get (x ∷ y ∷ history)) n) ∙ is)

pub no_entry_at : (history : List Entry) → slice_get history (length history - 1) ≡ None → last_outputs history ≡ []
no_entry_at [] is = refl
no_entry_at (x ∷ []) is = let some : Some x ≡ None = is in absurd (cc)
no_entry_at (x ∷ y ∷ history) is =
    let n : length (x ∷ y ∷ history) - 1 ≡ suc (length (y ∷ history) - 1) = omega arith in
    no_entry_at (y ∷ history) (sym (ap (slice_get (x ∷ y ∷ history)) n) ∙ is)

-- an answer of a line is the answer of the outputs that end with it
pub answers_last : (answer : Result (Result Accepted SetRefusal) NoMemoryAnswer) (outputs : List Output) (line : Output) → last_of outputs ≡ Some line
    → IfOk answer (λ (a : Result Accepted SetRefusal). line ≡ line_of a) → IfOk answer (λ (a : Result Accepted SetRefusal). last_of outputs ≡ Some (line_of a))
answers_last (Ok a) outputs line last is = last ∙ ap (λ (o : Output). Some o) is
answers_last (Err e) outputs line last is = tt

pub line_answers : (refused : Option SetRefusal) (control : Bool) (count : ℕ) → IsAnswer (Some (answer_line refused control count))
line_answers (Some why) control count = inr (why, refl)
line_answers None true count = inl (count, inr refl)
line_answers None false count = inl (count, inl refl)

-- the answer that a set's entry ends with
pub answer_is : (config : Config) (policy : PolicyLines) (s : State) (who : ClientId) (name value : List ℕ) → IsSettled s
    → last_of (step config policy s (Set who name value)).lines
    ≡ Some (answer_line (set_answer (rules_of config policy) s (Some (domain_of config.domains who)) name value) (is_control name) (step config policy s (Set who name value)).state.props.count)
answer_is config policy s who name value settled =
    let ends = step_ends config policy s who name value settled in ap last_of ends.ends ∙ last-end ends.did _

-- each set's entry ends with an answer
pub answered : (config : Config) (policy : PolicyLines) (s : State) (i : Input) → IsSettled s → IsAnswered (entry_at config policy s i)
answered config policy s Boot settled asks = absurd (omega arith)
answered config policy s Next settled asks = absurd (omega arith)
answered config policy s (Tick ms) settled asks = absurd (omega arith)
answered config policy s (Exit name status) settled asks = absurd (omega arith)
answered config policy s (File path content) settled asks = absurd (omega arith)
answered config policy s (Set who name value) settled asks =
    subst IsAnswer (sym (answer_is config policy s who name value settled)) (line_answers _ _ _)

last_has : (outputs : List Output) (o : Output) → AllByRecursion OutputHasText outputs → last_of outputs ≡ Some o → OutputHasText o
last_has [] o all is = cc
last_has (x ∷ []) o all is = let same : x ≡ o = cc in subst OutputHasText same all.0
last_has (x ∷ y ∷ outputs) o all is = last_has (y ∷ outputs) o all.1 is

why_reached : (why : SetRefusal) → OutputHasText (output.Refused why) → is_reached why ≡ true
why_reached Spent has = absurd has
why_reached NoMemory has = absurd has
why_reached (Down target) has = refl
why_reached InvalidName has = refl
why_reached UnknownControl has = refl
why_reached (Denied context) has = refl
why_reached NoSuchService has = refl
why_reached InvalidType has = refl
why_reached (ValueTooLong len) has = refl
why_reached NotUtf8 has = refl
why_reached (ReadOnly number) has = refl
why_reached (AreaFull used need) has = refl
why_reached (NumberSpent last) has = refl

line_reached : (answer : Result Accepted SetRefusal) → OutputHasText (line_of answer) → has_entry answer ≡ true
line_reached (Ok accepted) has = refl
line_reached (Err why) has = why_reached why has

-- an answer that an entry ends with is neither `Spent` nor `NoMemory`
pub answer_reached : (config : Config) (policy : PolicyLines) (s : State) (i : Input) (answer : Result Accepted SetRefusal)
    → last_of (step config policy s i).lines ≡ Some (line_of answer) → has_entry answer ≡ true
answer_reached config policy s i answer is = line_reached answer (last_has (step config policy s i).lines (line_of answer) (step_has_text config policy s i) is)
