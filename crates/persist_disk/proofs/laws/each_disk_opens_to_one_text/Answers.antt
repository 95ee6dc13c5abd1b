use Rattle.persist_disk.proofs.Crashes.{opens_formatted}
use Rattle.persist_disk.proofs.laws.each_disk_opens_to_one_text.Goals as goal

pub returns-clause-formatted : goal.returns-clause-formatted
returns-clause-formatted c = opens_formatted
