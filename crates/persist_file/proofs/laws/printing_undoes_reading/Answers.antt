use Rattle.persist_file.proofs.Printed.{printed, read_back, stored_are_saved}
use Rattle.persist_file.proofs.laws.printing_undoes_reading.Goals as goal

pub returns-clause-printed : goal.returns-clause-printed
returns-clause-printed c = printed

pub returns-clause-saved : goal.returns-clause-saved
returns-clause-saved c = stored_are_saved

pub returns-clause-read : goal.returns-clause-read
returns-clause-read c = read_back
