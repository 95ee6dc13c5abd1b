use Rattle.std.proofs.Common.{◌≡◌}
use Rattle.area_tests.specs.internal.Stops.{at_stop}
use Rattle.area_tests.proofs.cell.stores.Given as goal

abbrev pub invariant-loop-done : goal.invariant-loop-done
invariant-loop-done g l =
    record {
      table : l.writer.table_id ≡ l.initial.writer.table_id;
      id : l.writer.id ≡ l.initial.writer.id;
      stop : l.writer.me.0.cell ≡ at_stop l.old l.new l.done;
    }
