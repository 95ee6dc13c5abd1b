use Rattle.std.proofs.Common.{append_assoc}
use Rattle.script_lang.specs.Generated.{trigger_line}
use Rattle.script_lang.proofs.generator.trigger_line.Goals as goal

pub returns : goal.returns
unfolding trigger_line
returns c = simp append_assoc c.in_ok-writeln.ensures.bytes
