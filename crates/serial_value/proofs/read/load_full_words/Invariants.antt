use Rattle.std.proofs.Common.{◌≡◌, ◌*◌, length}
use Rattle.serial_value.specs.Cell.{ReadsLong}
use Rattle.serial_value.proofs.read.load_full_words.Given as goal

abbrev pub ghosts-copied_word : goal.ghosts-copied_word
ghosts-copied_word g a = record { name = g.Q.Asked.name; value = g.Q.Asked.value; place = g.Q.Asked.place; index = a.k }

abbrev pub invariant-loop-k : goal.invariant-loop-k
invariant-loop-k g l =
    let R = g.R.CellRule in
    record {
      table : l.seat.table_id ≡ l.initial.seat.table_id;
      id : l.seat.id ≡ l.initial.seat.id;
      wide : length l.out ≡ length l.initial.out;
      view : l.seat.me ≡ (R.with_cell l.initial.seat.me.0 (R.cell l.seat.me.0), l.initial.seat.me.1);
      words : ReadsLong (R.cell l.initial.seat.me.0) g.Q.Asked.name g.Q.Asked.place l.len l.k (8 * l.k) l.out (R.cell l.seat.me.0);
    }
