-- What is counted of a history, entry by entry. No promise of the crate cites these definitions alone: `counted_of` is what they come to.
use Rattle.std.specs.Prelude.{◌≡◌, ℕ, ◌+◌, List, [], ◌∷◌, length, if◌then◌else◌}
use Rattle.init_machine.specs.History.{set_in, sets_of}
use Rattle.init_machine.specs.Props.{Props, used_in}
use Rattle.init_machine.specs.declared.output.Output.{Output}
use Rattle.init_machine.specs.declared.report.ClientPart.{ClientPart}
use Rattle.init_machine.specs.declared.report.Entry.{Entry}
use Rattle.soak_summary.specs.Counting.{found_in, fresh_props, is_event, is_spawn, outputs_in, put_all}
use Rattle.soak_summary.specs.declared.counter.Counter.TheInside.{Inside}
use Rattle.soak_summary.specs.declared.tally.Tally.{Tally}

-- so many entries, `put` outputs, `spawn` outputs and events taken, and the store that the sets were put into
pub record Counts : Type 0 where
  pub entries : ℕ
  pub puts : ℕ
  pub spawns : ℕ
  pub events : ℕ
  pub props : Props

-- what a counter's fields mean
abbrev pub counts_in : Inside → Counts
counts_in c = record { entries = c.entries; puts = c.puts; spawns = c.spawns; events = c.events; props = c.store.value.props }

-- the numbers of a report with these parts of clients
abbrev pub tally_with : Counts → List ClientPart → Tally
tally_with c clients = record {
  entries = c.entries;
  puts = c.puts;
  spawns = c.spawns;
  events = c.events;
  found = found_in clients;
  used = used_in c.props;
}

-- those of a history
abbrev pub counted_of : List Entry → Counts
counted_of history = record {
  entries = length history;
  puts = length (sets_of history);
  spawns = outputs_in is_spawn history;
  events = outputs_in is_event history;
  props = put_all fresh_props (sets_of history);
}

-- one output more
abbrev pub with_output : Counts → Output → Counts
with_output c o = record {
  entries = c.entries;
  puts = c.puts + length (set_in o);
  spawns = c.spawns + (if is_spawn o then 1 else 0);
  events = c.events + (if is_event o then 1 else 0);
  props = put_all c.props (set_in o);
}

abbrev pub with_outputs : Counts → List Output → Counts
with_outputs c [] = c
with_outputs c (o ∷ outputs) = with_outputs (with_output c o) outputs

-- these outputs were told to a counter
abbrev pub IsCounted : Counts → Counts → List Output → Type 0
IsCounted old new outputs = new ≡ with_outputs old outputs

-- one entry more
abbrev pub with_entry : Counts → Entry → Counts
with_entry c e = with_outputs (record c { entries = c.entries + 1 }) e.outputs

abbrev pub with_entries : Counts → List Entry → Counts
with_entries c [] = c
with_entries c (e ∷ history) = with_entries (with_entry c e) history
