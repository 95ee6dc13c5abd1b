use Rattle.serial_value.proofs.LeavingOut.{left_out}
use Rattle.serial_value.proofs.putting.stands.Goals as goal

pub load-requires : goal.load-requires
load-requires g c = (c.requires.may.0, c.requires.may.1, left_out _ _ _ _ _ _ _ (rw c.requires.word at c.requires.may.2))
