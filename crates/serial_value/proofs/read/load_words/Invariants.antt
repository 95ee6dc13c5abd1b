use Rattle.std.proofs.Common.{◌≡◌, length}
use Rattle.serial_value.specs.Cell.{Gathers}
use Rattle.serial_value.proofs.read.load_words.Given as goal

abbrev pub ghosts-copied_word : goal.ghosts-copied_word
ghosts-copied_word g a = record { name = g.Q.Asked.name; value = g.Q.Asked.value; place = g.Q.Asked.place; index = a.k }

abbrev pub invariant-loop-k : goal.invariant-loop-k
invariant-loop-k g l =
    record {
      table : l.seat.table_id ≡ l.initial.seat.table_id;
      id : l.seat.id ≡ l.initial.seat.id;
      wide : length l.words ≡ 12;
      view : l.seat.me ≡ (g.R.CellRule.with_cell l.initial.seat.me.0 (g.R.CellRule.cell l.seat.me.0), l.initial.seat.me.1);
      words : Gathers (g.R.CellRule.cell l.initial.seat.me.0) g.Q.Asked.name l.k l.words (g.R.CellRule.cell l.seat.me.0);
    }
