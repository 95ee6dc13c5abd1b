use Rattle.rc_tokens.proofs.Answer.{one_answer}
use Rattle.rc_tokens.proofs.read.one_reading.Goals as goal

pub returns-clause-one_list : goal.returns-clause-one_list
returns-clause-one_list c = one_answer
