use Rattle.std.proofs.Common.{length}
use Rattle.model_fs.proofs.path.+has_dots_part.Given as goal

abbrev pub decreases-has_dots_part : goal.decreases-has_dots_part
decreases-has_dots_part l = length l.text.now
