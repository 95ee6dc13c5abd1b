use Rattle.persist_disk.specs.Image.{eight_bytes}
use Rattle.persist_disk.proofs.slots.length_bytes.Goals as goal

pub returns : goal.returns
unfolding eight_bytes
returns c = c.to_le_bytes.ensures
