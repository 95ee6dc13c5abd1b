use Rattle.std.proofs.Common.{◌∙◌, ap}
use Rattle.std.specs.Int.{w32, from_le_bytes}
use Rattle.wire_format.specs.Format.{word_from}
use Rattle.wire_format.proofs.Words.{four_bytes}
use Rattle.wire_format.proofs.word.word_from.Goals as goal

pub returns : goal.returns
unfolding word_from
returns c = c.from_le_bytes.ensures ∙ ap (λ bytes. from_le_bytes w32 bytes) (four_bytes c.args.bytes.now c.args.at c.requires)
