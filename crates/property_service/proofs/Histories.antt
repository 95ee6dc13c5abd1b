-- One more entry at the end of a history.
use Rattle.std.proofs.Common.{◌≡◌, ℕ, suc, ◌+◌, List, [], ◌∷◌, ◌++◌, length, refl, ap, ◌∙◌, arith, length-append}
use Rattle.std.proofs.lemmas.Grind.{flat_map-append}
use Rattle.std.proofs.lemmas.List.{append-nil, map-append}
use Rattle.init_core.specs.Core.{IsDeclared}
use Rattle.init_machine.specs.History.{after_from, sets_in, sets_of}
use Rattle.init_machine.specs.Policy.{PolicyLines}
use Rattle.init_machine.specs.Sets.{Set}
use Rattle.init_machine.specs.State.{State}
use Rattle.init_machine.specs.Step.{step}
use Rattle.init_machine.specs.declared.config.Config.{Config}
use Rattle.init_machine.specs.declared.input.Input.{Input}
use Rattle.init_machine.specs.declared.report.Entry.{Entry}
use Rattle.machine_laws.specs.Histories.{history_from}
use Rattle.property_area.specs.declared.view.LogEntry.{LogEntry}
use Rattle.property_service.specs.Record.{logged, log_from, log_of, inputs_in}
use Rattle.property_service.specs.Service.{EachDeclared}

-- the entry that an input gives in a state
abbrev pub entry_at : Config → PolicyLines → State → Input → Entry
entry_at config policy s i = record { input = i; outputs = (step config policy s i).lines }

pub history-end : (config : Config) (policy : PolicyLines) (s : State) (inputs : List Input) (i : Input)
    → history_from config policy s (inputs ++ i ∷ []) ≡ history_from config policy s inputs ++ entry_at config policy (after_from config policy s inputs) i ∷ []
history-end config policy s [] i = refl
history-end config policy s (x ∷ inputs) i =
    ap (λ (rest : List Entry). entry_at config policy s x ∷ rest) (history-end config policy (step config policy s x).state inputs i)

pub after-end : (config : Config) (policy : PolicyLines) (s : State) (inputs : List Input) (i : Input)
    → after_from config policy s (inputs ++ i ∷ []) ≡ (step config policy (after_from config policy s inputs) i).state
after-end config policy s [] i = refl
after-end config policy s (x ∷ inputs) i = after-end config policy (step config policy s x).state inputs i

pub sets-end : (history : List Entry) (e : Entry) → sets_of (history ++ e ∷ []) ≡ sets_of history ++ sets_in e.outputs
sets-end history e =
    flat_map-append (λ (x : Entry). sets_in x.outputs) history (e ∷ []) ∙ ap (λ (sets : List Set). sets_of history ++ sets) (append-nil (sets_in e.outputs))

log_from-end : (place count : ℕ) (history : List Entry) (e : Entry)
    → log_from place count (history ++ e ∷ []) ≡ log_from place count history ++ logged (place + length history) (count + length (sets_of history)) e ∷ []
log_from-end place count [] e =
    let P : ℕ × ℕ → List LogEntry = λ x. logged x.0 x.1 e ∷ [] in
    let p : place ≡ place + 0 = omega arith in
    let c : count ≡ count + 0 = omega arith in
    ap P (λ j. (p j, c j))
log_from-end place count (x ∷ history) e =
    let n : ℕ = length (sets_in x.outputs) in
    let P : ℕ × ℕ → List LogEntry = λ y. log_from (place + 1) (count + n) history ++ logged y.0 y.1 e ∷ [] in
    let total = length-append (sets_in x.outputs) (sets_of history) in
    let p : (place + 1) + length history ≡ place + length (x ∷ history) = omega arith in
    let c : (count + n) + length (sets_of history) ≡ count + length (sets_of (x ∷ history)) = omega arith in
    ap (λ (rest : List LogEntry). logged place count x ∷ rest) (log_from-end (place + 1) (count + n) history e ∙ ap P (λ j. (p j, c j)))

pub log-end : (history : List Entry) (e : Entry) → log_of (history ++ e ∷ []) ≡ log_of history ++ logged (length history) (length (sets_of history)) e ∷ []
log-end history e =
    let P : ℕ × ℕ → List LogEntry = λ x. log_of history ++ logged x.0 x.1 e ∷ [] in
    let p : 0 + length history ≡ length history = omega arith in
    let c : 0 + length (sets_of history) ≡ length (sets_of history) = omega arith in
    log_from-end 0 0 history e ∙ ap P (λ j. (p j, c j))

length-log_from : (place count : ℕ) (history : List Entry) → length (log_from place count history) ≡ length history
length-log_from place count [] = refl
length-log_from place count (e ∷ history) = ap (λ (n : ℕ). suc n) (length-log_from (place + 1) (count + length (sets_in e.outputs)) history)

pub length-log : (history : List Entry) → length (log_of history) ≡ length history
length-log history = length-log_from 0 0 history

pub inputs_in-end : (log : List LogEntry) (e : LogEntry) → inputs_in (log ++ e ∷ []) ≡ inputs_in log ++ e.request.input ∷ []
inputs_in-end log e = map-append (λ (x : LogEntry). x.request.input) log (e ∷ [])

pub declared-end : (config : Config) (inputs : List Input) (i : Input) → EachDeclared config inputs → IsDeclared config i → EachDeclared config (inputs ++ i ∷ [])
declared-end config [] i each one = (one, tt)
declared-end config (x ∷ inputs) i each one = (each.0, declared-end config inputs i each.1 one)
