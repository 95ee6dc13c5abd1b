use Rattle.rc_tokens.proofs.Ascending.{lines_ascend}
use Rattle.rc_tokens.proofs.read.lines_ascend.Goals as goal

pub returns : goal.returns
returns c = lines_ascend
