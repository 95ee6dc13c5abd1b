use Rattle.std.proofs.Common.{◌≡◌}
use Rattle.std.specs.Prelude.{codes}
use Rattle.serial_value.specs.One.{the_name, the_place}
use Rattle.serial_value.specs.Cell.{IsReader}
use Rattle.area_tests.specs.internal.Stops.{at_stop}
use Rattle.area_tests.proofs.cell.cell_at_every_stop.Given as goal

abbrev pub ghosts-reads_at_stop : goal.ghosts-reads_at_stop
ghosts-reads_at_stop g a = record { name = the_name; value = codes "newer"; place = the_place; index = 0 }

abbrev pub ghosts-store : goal.ghosts-store
ghosts-store g a = record { name = the_name; value = codes "newer"; place = the_place; index = 0 }

abbrev pub invariant-loop-done : goal.invariant-loop-done
invariant-loop-done g l =
    record {
      writer : l.writer.table_id ≡ l.table.shared.table_id;
      reader : l.reader.table_id ≡ l.table.shared.table_id;
      words : l.table.shared.table_id.words ≡ 29;
      reads : IsReader l.reader.me.0.cell;
      stop : l.writer.me.0.cell ≡ at_stop (codes "old") (codes "newer") l.done;
    }
