use Rattle.std.proofs.Common.{◌+◌, ◌*◌, ◌<◌, arith}
use Rattle.init_machine.proofs.Numbers.{at_most_twenty_digits}
use Rattle.init_machine.proofs.number.number.Goals as goal

pub overflow_mul-number : goal.overflow_mul-number
overflow_mul-number c =
    let next : c.loop-digit.number * 10 + 9 < 100000000000000000000 = at_most_twenty_digits _ c.loop-digit.digit-index c.loop-digit.invariant.low (omega arith) in
    omega arith

pub overflow_add-number : goal.overflow_add-number
overflow_add-number c =
    let next : c.loop-digit.number * 10 + 9 < 100000000000000000000 = at_most_twenty_digits _ c.loop-digit.digit-index c.loop-digit.invariant.low (omega arith) in
    omega arith
