use Rattle.std.proofs.Common.{◌<◌, arith}
use Rattle.std.specs.Str.Parse.{digits_value}
use Rattle.std.proofs.lemmas.Bool.Decides.{nat_tests}
use Rattle.init_base.proofs.Digits.{past_most}
use Rattle.command_line.proofs.services.value_of.Goals as goal

pub returns-then-number-gt-MOST : goal.returns-then-number-gt-MOST
returns-then-number-gt-MOST c =
    let past : 1000 < digits_value 10 c.args.word.now =
    past_most 1000 c.loop-digit.number c.loop-digit.digit-index c.args.word.now c.loop-digit-test.true c.loop-digit.invariant.left_digits c.loop-digit.invariant.left_decides
    (omega (arith, c.if-number-gt-MOST.true, c.from.ensures)) in
    grind (arith, nat_tests)
