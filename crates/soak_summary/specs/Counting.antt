-- The numbers of a report: what its history has, what its clients found, and the words that its sets take.
use Rattle.std.specs.Prelude.{ℕ, Bool, true, false, List, [], ◌∷◌, length, sum_by, count_by}
use Rattle.init_machine.specs.History.{sets_of}
use Rattle.init_machine.specs.Props.{Props, used_in, with_set}
use Rattle.init_machine.specs.Sets.{Set}
use Rattle.init_machine.specs.declared.output.Output.{Output}
use Rattle.init_machine.specs.declared.output.Output.TheVariants as output
use Rattle.init_machine.specs.declared.report.ClientPart.{ClientPart}
use Rattle.init_machine.specs.declared.report.Entry.{Entry}
use Rattle.init_machine.specs.declared.report.Reading.{Reading}
use Rattle.init_machine.specs.declared.report.Reading.TheVariants as reading
use Rattle.init_machine.specs.declared.report.Report.{Report}
use Rattle.soak_summary.specs.declared.tally.Tally.{Tally}

-- an event is taken
abbrev pub is_event : Output → Bool
is_event (output.Event name) = true
is_event (output.Change name value) = true
is_event output.AllProperties = true
is_event _ = false

-- a process is begun
abbrev pub is_spawn : Output → Bool
is_spawn (output.Spawn pid name path) = true
is_spawn _ = false

-- how many outputs of a history pass
abbrev pub outputs_in : (Output → Bool) → List Entry → ℕ
outputs_in passes history = sum_by (λ e. count_by passes e.outputs) history

abbrev pub is_found : Reading → Bool
is_found (reading.Found name number value) = true
is_found _ = false

-- how many readings of clients found a value
abbrev pub found_in : List ClientPart → ℕ
found_in clients = sum_by (λ part. count_by is_found part.readings) clients

-- an empty store of 65,536 words
abbrev pub fresh_props : Props
fresh_props = record { held = []; count = 0; capacity = 65536 }

-- the store that these sets are put into, one after another
abbrev pub put_all : Props → List Set → Props
put_all p [] = p
put_all p (s ∷ sets) = put_all (with_set p s.0 s.1) sets

-- The numbers of a report: its entries, the outputs `put` and `spawn`, the events taken, the readings that found a value, and the
-- words in use of an empty store into which the sets of the history are put again, in order.
abbrev pub tally_of : Report → Tally
tally_of report = record {
  entries = length report.history;
  puts = length (sets_of report.history);
  spawns = outputs_in is_spawn report.history;
  events = outputs_in is_event report.history;
  found = found_in report.clients;
  used = used_in (put_all fresh_props (sets_of report.history));
}
