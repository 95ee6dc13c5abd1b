use Rattle.std.proofs.Common.{◌≡◌, ℕ, ◌+◌, ◌-◌, ◌*◌, ◌/◌, refl, subst, arith}
use Rattle.serial_value.specs.Words.{words_of_len}
use Rattle.serial_value.specs.Cell.{ReadsLong}
use Rattle.serial_value.proofs.LongReading.{long_lies, long_one}
use Rattle.serial_value.proofs.read.load_value.Goals as goal

pub copied_word-word-requires-clause-lies : goal.copied_word-word-requires-clause-lies
copied_word-word-requires-clause-lies g c =
    let R = g.R.CellRule in
    let full : ℕ = c.args.len / 8 in (
      long_lies (R.cell c.args.seat.now.me.0) (R.cell c.load_full_words.new.seat.me.0) g.Q.Asked.name g.Q.Asked.place c.args.base c.args.len full (8 * full) c.load_full_words.new.out
          c.load_full_words.ensures.words c.requires.place.0 (omega arith),
      refl,
    )

pub returns-clause-words : goal.returns-clause-words
returns-clause-words g c =
    let R = g.R.CellRule in
    let v = c.args.seat.now.me.0 in
    let now = c.load_full_words.new.seat.me.0 in
    let after = c.copied_word-word.new.seat.me.0 in
    let full : ℕ = c.args.len / 8 in
    let count : ℕ = c.args.len - 8 * full in
    let out = c.put_cut_word.new.out in
    let next = long_one (R.words now) (R.cell v) (R.cell now) (R.cell after) g.Q.Asked.name g.Q.Asked.place c.args.len full count c.copied_word-word.result c.load_full_words.new.out out (omega arith)
    c.load_full_words.ensures.words c.copied_word-word.ensures.told c.put_cut_word.ensures.bytes c.put_cut_word.ensures.others in
    let words : full + 1 ≡ words_of_len c.args.len = omega arith in
    let bytes : 8 * full + count ≡ c.args.len = omega arith in
    subst (λ (x : ℕ × ℕ). ReadsLong (R.cell v) g.Q.Asked.name g.Q.Asked.place c.args.len x.0 x.1 out (R.cell after)) (λ i. (words i, bytes i)) next
