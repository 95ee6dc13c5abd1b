use Rattle.std.proofs.Common.{rules}
use Rattle.wire_format.specs.Format.{word_bytes}
use Rattle.wire_format.proofs.encoding.put_word.Goals as goal

pub returns : goal.returns
unfolding word_bytes
returns c = search rules
