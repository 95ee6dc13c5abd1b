use Rattle.std.proofs.Common.{rules, ◌++◌}
use Rattle.wire_format.proofs.Feedings.{feeds_on, is_open_of, kept_few, kept_waits, only_command, only_length, only_open}
use Rattle.wire_format.proofs.feeder.Feeder.feed.Goals as goal

pub invariant_of-self-in-End : goal.invariant_of-self-in-End
invariant_of-self-in-End c =
    kept_waits (c.self.inside.bytes.items ++ c.args.piece.now) c.read_piece.new.messages c.read_piece.new.tail.items c.in_ok-word.field-0
    c.in_ok-word.ensures (is_open_of c.in_ok-word.field-0 c.in-End.is)

pub returns-in-BadCommand-clause-only : goal.returns-in-BadCommand-clause-only
returns-in-BadCommand-clause-only c =
    only_command c.args.self.now c.self.inside.bytes.items c.args.piece.now c.read_piece.new.messages c.read_piece.new.tail.items c.in_ok-word.field-0 c.in-BadCommand.word
    (search rules) c.in_ok-word.ensures c.in-BadCommand.is

pub returns-in-BadLength-clause-only : goal.returns-in-BadLength-clause-only
returns-in-BadLength-clause-only c =
    only_length c.args.self.now c.self.inside.bytes.items c.args.piece.now c.read_piece.new.messages c.read_piece.new.tail.items c.in_ok-word.field-0 c.in-BadLength.len
    (search rules) c.in_ok-word.ensures c.in-BadLength.is

pub returns-in-End-clause-feeds : goal.returns-in-End-clause-feeds
returns-in-End-clause-feeds c =
    feeds_on c.args.self.now c.self.inside.bytes.items c.args.piece.now c.read_piece.new.messages c.read_piece.new.tail.items c.in_ok-word.field-0
    (search rules) c.in_ok-word.ensures (is_open_of c.in_ok-word.field-0 c.in-End.is)

pub returns-in-End-clause-only : goal.returns-in-End-clause-only
returns-in-End-clause-only c =
    only_open c.args.self.now c.self.inside.bytes.items c.args.piece.now c.read_piece.new.messages c.read_piece.new.tail.items c.in_ok-word.field-0
    (search rules) c.in_ok-word.ensures (is_open_of c.in_ok-word.field-0 c.in-End.is)

pub returns-in-End-clause-bound : goal.returns-in-End-clause-bound
returns-in-End-clause-bound c =
    kept_few (c.self.inside.bytes.items ++ c.args.piece.now) c.read_piece.new.messages c.read_piece.new.tail.items c.in_ok-word.field-0
    c.in_ok-word.ensures (is_open_of c.in_ok-word.field-0 c.in-End.is)
