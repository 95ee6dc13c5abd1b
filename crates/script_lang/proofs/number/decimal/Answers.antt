use Rattle.std.proofs.Common.{◌≡◌, ap, sym, ◌∙◌, arith, Some}
use Rattle.std.specs.Str.Parse.{digits_value}
use Rattle.init_base.proofs.Digits.{past_most, all_read}
use Rattle.script_lang.proofs.Numerals.{number_bad, number_big, number_good}
use Rattle.script_lang.proofs.number.decimal.Goals as goal

pub returns-then-not-is_canonical : goal.returns-then-not-is_canonical
returns-then-not-is_canonical c =
    sym (number_bad c.args.least c.args.most c.args.word.now (omega arith) c.if-not-is_canonical.ensures)

pub returns-then-number-most : goal.returns-then-number-most
returns-then-number-most c =
    sym (number_big c.args.least c.args.most c.args.word.now
    (past_most c.args.most c.loop-digit.number c.loop-digit.digit-index c.args.word.now c.loop-digit-test.true c.loop-digit.invariant.left_digits c.loop-digit.invariant.left_decides
    (omega (arith, c.if-number-most.true, c.from.ensures))))

pub returns-else-number-least : goal.returns-else-number-least
returns-else-number-least c =
    let value : digits_value 10 c.args.word.now ≡ c.loop-digit.number =
    all_read c.loop-digit.number c.loop-digit.digit-index c.args.word.now c.loop-digit-test.false c.loop-digit.invariant.left_decides in
    sym (number_good c.args.least c.args.most c.args.word.now (omega arith) c.if-not-is_canonical.ensures (omega arith) (omega arith) ∙ ap (λ n. Some n) value)
