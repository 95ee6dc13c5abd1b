use Rattle.std.proofs.Common.{ℕ, ◌+◌, ◌*◌, ◌∙◌, refl, inl, subst, arith}
use Rattle.serial_value.specs.Cell.{ReadsLong}
use Rattle.serial_value.proofs.Moves.{moves_on}
use Rattle.serial_value.proofs.LongReading.{long_lies, long_one}
use Rattle.serial_value.proofs.read.load_full_words.Goals as goal

pub copied_word-word-requires-clause-lies : goal.copied_word-word-requires-clause-lies
copied_word-word-requires-clause-lies g c =
    let R = g.R.CellRule in (
      long_lies (R.cell c.args.seat.now.me.0) (R.cell c.loop-k.seat.me.0) g.Q.Asked.name g.Q.Asked.place c.args.base c.args.len c.loop-k.k (8 * c.loop-k.k) c.loop-k.out
          c.loop-k.invariant.words c.requires.place.0 (omega arith),
      refl,
    )

pub loop-k-preserved : goal.loop-k-preserved
loop-k-preserved g c =
    let R = g.R.CellRule in
    let L = g.met.R.CellRule in
    let v = c.args.seat.now.me.0 in
    let now = c.loop-k.seat.me.0 in
    let after = c.copied_word-word.new.seat.me.0 in
    let inv = c.loop-k.invariant in
    let k = c.loop-k.k in
    let next = long_one (R.words now) (R.cell v) (R.cell now) (R.cell after) g.Q.Asked.name g.Q.Asked.place c.args.len k 8 c.copied_word-word.result c.loop-k.out c.put_word.new.out (omega arith)
    inv.words c.copied_word-word.ensures.told c.put_word.ensures.bytes (λ i low. c.put_word.ensures.others i (inl low)) in
    record {
      table = c.copied_word-word.ensures.seat.0 ∙ inv.table;
      id = c.copied_word-word.ensures.seat.1 ∙ inv.id;
      wide = c.put_word.auto.out ∙ inv.wide;
      view = moves_on R.cell R.with_cell L.part.cell_with L.part.with_with c.args.seat.now.me c.loop-k.seat.me c.copied_word-word.new.seat.me inv.view c.copied_word-word.ensures.view;
      words = subst (λ (n : ℕ). ReadsLong (R.cell v) g.Q.Asked.name g.Q.Asked.place c.args.len (k + 1) n c.put_word.new.out (R.cell after)) (omega arith) next;
    }
