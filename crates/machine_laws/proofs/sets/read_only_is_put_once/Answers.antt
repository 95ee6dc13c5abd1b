use Rattle.machine_laws.proofs.Once.{put_once}
use Rattle.machine_laws.proofs.sets.read_only_is_put_once.Goals as goal

pub returns : goal.returns
returns c = put_once
