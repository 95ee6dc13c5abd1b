use Rattle.std.proofs.Common.{◌≡◌, ◌≤◌, None}
use Rattle.serial_value.specs.Cell.{making_of}
use Rattle.races.proofs.cell.torn.Given as goal

abbrev pub invariant-loop : goal.invariant-loop
invariant-loop l =
    record {
      table : l.reader.table_id ≡ l.initial.reader.table_id;
      idle : making_of l.reader.me.0.cell ≡ None;
      few : l.wrong ≤ l.counter;
    }
