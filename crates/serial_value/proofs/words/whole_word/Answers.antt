use Rattle.std.proofs.Common.{◌∙◌}
use Rattle.serial_value.proofs.Packing.{word_whole}
use Rattle.serial_value.proofs.words.whole_word.Goals as goal

pub returns : goal.returns
returns c = c.from_le_bytes.ensures ∙ word_whole c.args.text.now c.args.k
