use Rattle.std.proofs.Common.{◌≡◌, ap, ◌∙◌, arith, Some, None}
use Rattle.std.proofs.lemmas.Result.{err_from_is_err_and}
use Rattle.std.specs.Str.Parse.{digits_value}
use Rattle.script_lang.specs.Statements.{number_in}
use Rattle.init_base.proofs.Digits.{past_most, all_read}
use Rattle.script_lang.proofs.Numerals.{number_bad, number_big, number_good}
use Rattle.trace_reader.proofs.Choices.{unread}
use Rattle.trace_reader.proofs.number.number.Goals as goal

pub returns-then-not-is_canonical : goal.returns-then-not-is_canonical
returns-then-not-is_canonical c = number_bad 0 c.args.most c.args.word.now (omega arith) c.if-not-is_canonical.ensures

pub returns-in_err-number : goal.returns-in_err-number
returns-in_err-number c =
    let p = err_from_is_err_and c.from_residual.result c.from_residual.ensures.1 in
    let none : number_in 0 c.args.most c.args.word.now ≡ None =
    number_big 0 c.args.most c.args.word.now
    (past_most c.args.most c.loop-digit.number c.loop-digit.digit-index c.args.word.now c.loop-digit-test.true c.loop-digit.invariant.left_digits c.loop-digit.invariant.left_decides
    c.in_err-number.ensures.1) in
    rw (p.1, p.2) (unread c.in_err-number.field-0.0 (number_in 0 c.args.most c.args.word.now) c.in_err-number.ensures.0 none)

pub returns : goal.returns
returns c =
    let value : digits_value 10 c.args.word.now ≡ c.loop-digit.number =
    all_read c.loop-digit.number c.loop-digit.digit-index c.args.word.now c.loop-digit-test.false c.loop-digit.invariant.left_decides in
    number_good 0 c.args.most c.args.word.now (omega arith) c.if-not-is_canonical.ensures (omega arith) (omega (arith, value)) ∙ ap (λ n. Some n) value
