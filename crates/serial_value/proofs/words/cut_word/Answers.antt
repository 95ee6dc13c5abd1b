use Rattle.std.proofs.Common.{◌∙◌, arith}
use Rattle.serial_value.proofs.Packing.{word_from}
use Rattle.serial_value.proofs.words.cut_word.Goals as goal

pub returns : goal.returns
returns c = c.from_le_bytes.ensures ∙ word_from c.args.text.now c.loop-j.bytes c.args.k (λ i small. c.loop-j.invariant.done i (omega arith))
