use Rattle.wire_format.proofs.Encodings.{encoded_read}
use Rattle.wire_format.proofs.Spellings.{spelled_read, stream_read}
use Rattle.wire_format.proofs.laws.spellings_are_read.Goals as goal

pub returns-clause-encoded : goal.returns-clause-encoded
returns-clause-encoded c = encoded_read

pub returns-clause-spelled : goal.returns-clause-spelled
returns-clause-spelled c = spelled_read

pub returns-clause-stream : goal.returns-clause-stream
returns-clause-stream c = stream_read
