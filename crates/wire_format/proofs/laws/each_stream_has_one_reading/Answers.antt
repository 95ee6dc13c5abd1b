use Rattle.wire_format.proofs.Joining.{same_messages, same_rest, some_reading}
use Rattle.wire_format.proofs.laws.each_stream_has_one_reading.Goals as goal

pub returns-clause-some : goal.returns-clause-some
returns-clause-some c = some_reading

pub returns-clause-messages : goal.returns-clause-messages
returns-clause-messages c = same_messages

pub returns-clause-rest : goal.returns-clause-rest
returns-clause-rest c = same_rest
