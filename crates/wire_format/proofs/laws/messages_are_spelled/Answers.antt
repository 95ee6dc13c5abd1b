use Rattle.wire_format.proofs.Encodings.{second_encoded}
use Rattle.wire_format.proofs.Readings.{read_spelled, stream_spelled}
use Rattle.wire_format.proofs.laws.messages_are_spelled.Goals as goal

pub returns-clause-spelled : goal.returns-clause-spelled
returns-clause-spelled c = read_spelled

pub returns-clause-stream : goal.returns-clause-stream
returns-clause-stream c = stream_spelled

pub returns-clause-second : goal.returns-clause-second
returns-clause-second c = second_encoded
