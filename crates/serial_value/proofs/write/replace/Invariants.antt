use Rattle.std.proofs.Common.{◌≡◌, ◌+◌}
use Rattle.serial_value.specs.Cell.{sets_of, updating}
use Rattle.serial_value.proofs.write.replace.Given as goal

abbrev pub ghosts-value_word : goal.ghosts-value_word
ghosts-value_word g a = record { name = g.Q.Asked.name; value = g.Q.Asked.value; place = g.Q.Asked.place; index = 13 + a.k + 1 }

abbrev pub invariant-loop-k : goal.invariant-loop-k
invariant-loop-k g l =
    record {
      table : l.seat.table_id ≡ l.initial.seat.table_id;
      id : l.seat.id ≡ l.initial.seat.id;
      view : l.seat.me ≡ (g.R.CellRule.with_cell l.initial.seat.me.0 (updating (sets_of (g.R.CellRule.cell l.initial.seat.me.0)) g.Q.Asked.name g.Q.Asked.value g.Q.Asked.place (13 + l.k)), l.initial.seat.me.1);
    }
