use Rattle.std.proofs.Common.{◌∙◌, refl, arith}
use Rattle.std.proofs.lemmas.List.{length-set}
use Rattle.serial_value.proofs.Moves.{moves_on}
use Rattle.serial_value.proofs.Reading.{gathers_one, lies_at}
use Rattle.serial_value.proofs.read.load_words.Goals as goal

pub copied_word-requires-clause-lies : goal.copied_word-requires-clause-lies
copied_word-requires-clause-lies g c =
    let R = g.R.CellRule in
    let inv = c.loop-k.invariant in
    (lies_at (R.cell c.args.seat.now.me.0) (R.cell c.loop-k.seat.me.0) g.Q.Asked.name g.Q.Asked.place c.args.base c.loop-k.k c.loop-k.words c.requires.reads inv.words (omega arith) (omega arith), refl)

pub loop-k-preserved : goal.loop-k-preserved
loop-k-preserved g c =
    let R = g.R.CellRule in
    let v = c.args.seat.now.me.0 in
    let now = c.loop-k.seat.me.0 in
    let after = c.copied_word.new.seat.me.0 in
    let inv = c.loop-k.invariant in
    record {
      table = c.copied_word.ensures.seat.0 ∙ inv.table;
      id = c.copied_word.ensures.seat.1 ∙ inv.id;
      wide = length-set c.loop-k.words c.loop-k.k c.copied_word.result ∙ inv.wide;
      view = moves_on R.cell R.with_cell g.met.R.CellRule.part.cell_with g.met.R.CellRule.part.with_with c.args.seat.now.me c.loop-k.seat.me c.copied_word.new.seat.me inv.view c.copied_word.ensures.view;
      words = gathers_one (R.words now) (R.cell v) (R.cell now) (R.cell after) g.Q.Asked.name c.loop-k.words c.loop-k.k c.copied_word.result (omega arith) inv.words c.copied_word.ensures.told;
    }
