-- The record of a history that an area's writer keeps, and what it says of the history.
use Rattle.std.specs.Prelude.{ℕ, ◌+◌, List, [], ◌∷◌, length, map, Option, Some, None}
use Rattle.init_machine.specs.History.{sets_in}
use Rattle.init_machine.specs.Policy.{ContextLine, PolicyLines}
use Rattle.init_machine.specs.State.{Opening}
use Rattle.init_machine.specs.declared.input.Input.{Input}
use Rattle.init_machine.specs.declared.report.Entry.{Entry}
use Rattle.property_area.specs.Readers.{asker_of, answer_of, no_opening, opening_of}
use Rattle.property_area.specs.declared.view.LogEntry.{LogEntry}
use Rattle.property_area.specs.declared.view.LogLine.{LogLine}
use Rattle.property_area.specs.declared.view.LogOpening.{LogOpening}

-- an entry as it is recorded behind so many entries and so many sets
abbrev pub logged : ℕ → ℕ → Entry → LogEntry
logged place count e = record {
  who = asker_of e.input;
  request = record {
    input = e.input;
    answer = answer_of e.input e.outputs;
    place = place + 1;
    before = count;
    after = count + length (sets_in e.outputs);
  };
}

-- the entries of a history as they are recorded, where so many entries and so many sets came before them
abbrev pub log_from : ℕ → ℕ → List Entry → List LogEntry
log_from place count [] = []
log_from place count (e ∷ history) = logged place count e ∷ log_from (place + 1) (count + length (sets_in e.outputs)) history

-- Each entry of a history, as it is recorded: whose input it is, the input, its answer, its place from 1, and how many sets
-- there were before it and after it.
abbrev pub log_of : List Entry → List LogEntry
log_of history = log_from 0 0 history

abbrev pub inputs_in : List LogEntry → List Input
inputs_in log = map (λ e. e.request.input) log

-- an opening as it is recorded
abbrev pub recorded : Opening → LogOpening
recorded o = opening_of o.config o.policy o.capacity

-- the opening that was recorded
abbrev pub context_line : LogLine → ContextLine
context_line line = record { name = line.name; context = line.context }

abbrev pub policy_in : LogOpening → PolicyLines
policy_in o = record {
  default = o.default;
  exact = map context_line o.exact;
  prefixes = map context_line o.prefixes;
  allows = o.allows;
}

abbrev pub opening_with : LogOpening → Opening
opening_with o = record { config = o.config; policy = policy_in o; capacity = o.capacity }

abbrev pub opening_in : Option LogOpening → Opening
opening_in None = opening_with no_opening
opening_in (Some o) = opening_with o
