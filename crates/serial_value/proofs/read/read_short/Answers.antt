use Rattle.std.proofs.Common.{ℕ, ◌∙◌, sym, ap, subst, arith}
use Rattle.serial_value.specs.Cell.{ReadsFrom, words_place}
use Rattle.serial_value.proofs.Moves.{same_with, unmoved}
use Rattle.serial_value.proofs.Reading.{reads_from, read_answers}
use Rattle.serial_value.proofs.read.read_short.Goals as goal

pub load_words-requires-clause-reads : goal.load_words-requires-clause-reads
load_words-requires-clause-reads g c =
    let R = g.R.CellRule in
    let m = c.args.seat.now.me.0 in
    let place = g.Q.Asked.place in
    subst (λ (base : ℕ). ReadsFrom (R.cell m) g.Q.Asked.name place base)
    (sym (c.words_place.ensures ∙ ap (λ (p : ℕ). words_place p c.args.first) c.requires.asked))
    (reads_from (R.words m) (R.cell m) g.Q.Asked.name place c.args.first c.requires.begun c.requires.short)

pub returns-clause-answer : goal.returns-clause-answer
returns-clause-answer g c =
    let R = g.R.CellRule in
    let L = g.met.R.CellRule in
    let m0 = c.args.seat.now.me in
    let m1 = c.load_words.new.seat.me in
    let moved = c.load_words.ensures.view in
    read_answers R.with_cell R.noted (R.words m0.0) m0.0 m1.0 (R.cell m0.0) (R.cell m1.0) g.Q.Asked.name g.Q.Asked.place
    c.args.first c.last_serial-last.result c.load_words.new.words c.close.result c.args.out.now c.close.new.out c.last_serial-last.new.seat.me.0
    c.load_words.ensures.wide (omega arith) c.requires.short
    (same_with R.cell R.with_cell L.part.cell_with L.part.with_with m0 m1 moved)
    (λ same. ap (λ m. m.0) (unmoved R.cell R.with_cell L.part.cell_with L.part.with_with L.part.with_same m0 m1 moved same))
    c.requires.begun c.load_words.ensures.words c.last_serial-last.ensures.told c.close.ensures
