use Rattle.std.proofs.Common.{◌+◌, ◌*◌, ◌<◌, arith}
use Rattle.builtins.proofs.Digits.{at_most_six_digits}
use Rattle.builtins.proofs.forms.octal.Goals as goal

pub overflow_mul-number : goal.overflow_mul-number
overflow_mul-number c =
    let next : c.loop-digit.number * 8 + 7 < 262144 = at_most_six_digits _ c.loop-digit.digit-index c.loop-digit.invariant.low (omega arith) in
    omega arith

pub overflow_add-number : goal.overflow_add-number
overflow_add-number c =
    let next : c.loop-digit.number * 8 + 7 < 262144 = at_most_six_digits _ c.loop-digit.digit-index c.loop-digit.invariant.low (omega arith) in
    omega arith
