use Rattle.std.proofs.Common.{arith}
use Rattle.serial_value.proofs.Packing.{word_past}
use Rattle.serial_value.proofs.words.word_of.Goals as goal

pub returns-else-start-text-2 : goal.returns-else-start-text-2
returns-else-start-text-2 c = word_past c.args.text.now c.args.k (omega (arith, c.if-start-text-2.false))
