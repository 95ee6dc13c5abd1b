use Rattle.std.proofs.Common.{ℕ, ◌+◌, sym, refl, ap, subst, arith}
use Rattle.serial_value.specs.Cell.{LiesAt}
use Rattle.serial_value.specs.impl_laws.Bodies.{most_len}
use Rattle.serial_value.proofs.Moves.{moves_on, same_with, unmoved}
use Rattle.serial_value.proofs.LongReading.{length_lies, long_begins, long_copied, long_answers}
use Rattle.serial_value.proofs.read.read_long.Goals as goal

pub copied_word-len-requires-clause-lies : goal.copied_word-len-requires-clause-lies
copied_word-len-requires-clause-lies g c =
    let R = g.R.CellRule in
    let m = c.args.seat.now.me.0 in (
      subst (λ (p : ℕ). LiesAt (R.cell m) g.Q.Asked.name g.Q.Asked.place 0 (p + 1)) (sym c.requires.asked)
          (length_lies (R.words m) (R.cell m) g.Q.Asked.name g.Q.Asked.place c.args.first c.requires.begun c.requires.long),
      refl,
    )

pub load_value-requires-clause-place : goal.load_value-requires-clause-place
load_value-requires-clause-place g c =
    let R = g.R.CellRule in
    let m = c.args.seat.now.me.0 in
    let begun = long_begins (R.words m) (R.cell m) (R.cell c.copied_word-len.new.seat.me.0) g.Q.Asked.name g.Q.Asked.place c.args.first c.copied_word-len.result c.args.out.now
    c.requires.begun c.requires.long c.requires.idle c.copied_word-len.ensures.told in
    let inside = begun.1.inside in
    let words = c.requires.words in
    let asked = c.requires.asked in
    let small = c.requires.place.2 in
    (omega arith, omega arith, omega arith)

pub load_value-requires-clause-len : goal.load_value-requires-clause-len
load_value-requires-clause-len g c =
    let R = g.R.CellRule in
    let m = c.args.seat.now.me.0 in
    let begun = long_begins (R.words m) (R.cell m) (R.cell c.copied_word-len.new.seat.me.0) g.Q.Asked.name g.Q.Asked.place c.args.first c.copied_word-len.result c.args.out.now
    c.requires.begun c.requires.long c.requires.idle c.copied_word-len.ensures.told in
    let fits = begun.1.fits in
    let wide = c.requires.wide in
    let most = most_len g.Q.Asked.name in
    (omega arith, omega arith)

pub load_value-requires-clause-reads : goal.load_value-requires-clause-reads
load_value-requires-clause-reads g c =
    let R = g.R.CellRule in
    let m = c.args.seat.now.me.0 in
    (long_begins (R.words m) (R.cell m) (R.cell c.copied_word-len.new.seat.me.0) g.Q.Asked.name g.Q.Asked.place c.args.first c.copied_word-len.result c.args.out.now
    c.requires.begun c.requires.long c.requires.idle c.copied_word-len.ensures.told).0

pub last_serial-last-requires-clause-copied : goal.last_serial-last-requires-clause-copied
last_serial-last-requires-clause-copied g c =
    let R = g.R.CellRule in
    let m = c.copied_word-len.new.seat.me.0 in
    let now = c.load_value.new.seat.me.0 in
    let n = c.copied_word-len.result in
    long_copied (R.cell m) (R.cell now) g.Q.Asked.name g.Q.Asked.place n c.load_value.new.out c.load_value.ensures.words

pub overflow_cast-result : goal.overflow_cast-result
overflow_cast-result g c =
    let R = g.R.CellRule in
    let m = c.args.seat.now.me.0 in
    let begun = long_begins (R.words m) (R.cell m) (R.cell c.copied_word-len.new.seat.me.0) g.Q.Asked.name g.Q.Asked.place c.args.first c.copied_word-len.result c.args.out.now
    c.requires.begun c.requires.long c.requires.idle c.copied_word-len.ensures.told in
    let fits = begun.1.fits in
    let most = most_len g.Q.Asked.name in
    omega arith

pub returns-clause-answer : goal.returns-clause-answer
returns-clause-answer g c =
    let R = g.R.CellRule in
    let L = g.met.R.CellRule in
    let m0 = c.args.seat.now.me in
    let m1 = c.copied_word-len.new.seat.me in
    let m2 = c.load_value.new.seat.me in
    let moved = moves_on R.cell R.with_cell L.part.cell_with L.part.with_with m0 m1 m2 c.copied_word-len.ensures.view c.load_value.ensures.view in
    let begun = long_begins (R.words m0.0) (R.cell m0.0) (R.cell m1.0) g.Q.Asked.name g.Q.Asked.place c.args.first c.copied_word-len.result c.args.out.now
    c.requires.begun c.requires.long c.requires.idle c.copied_word-len.ensures.told in
    let fits = begun.1.fits in
    let wide = c.requires.wide in
    let same_long = c.load_value.auto.out in
    long_answers R.with_cell R.noted (R.words m0.0) m0.0 m2.0 (R.cell m0.0) (R.cell m1.0) (R.cell m2.0) g.Q.Asked.name g.Q.Asked.place
    c.args.first c.copied_word-len.result c.last_serial-last.result _ c.args.out.now c.load_value.new.out c.last_serial-last.new.seat.me.0
    (omega arith) c.requires.long (ap (λ x. x.1) c.parts-number.ensures) c.requires.idle
    (same_with R.cell R.with_cell L.part.cell_with L.part.with_with m0 m2 moved)
    (λ same. ap (λ m. m.0) (unmoved R.cell R.with_cell L.part.cell_with L.part.with_with L.part.with_same m0 m2 moved same))
    c.requires.begun c.copied_word-len.ensures.told c.load_value.ensures.words c.last_serial-last.ensures.told
