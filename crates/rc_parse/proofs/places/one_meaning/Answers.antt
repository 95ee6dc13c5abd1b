use Rattle.rc_parse.proofs.SameFile.{same_reading}
use Rattle.rc_parse.proofs.places.one_meaning.Goals as goal

pub returns : goal.returns
returns c = same_reading
