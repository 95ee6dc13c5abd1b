use Rattle.std.proofs.Common.{◌++◌}
use Rattle.wire_format.proofs.Streams.{read_front}
use Rattle.wire_format.proofs.Tails.{read_rest, rest_reads, under_ok, whole_begins}
use Rattle.wire_format.proofs.pieces.read_piece.Goals as goal

pub returns-in-Rest : goal.returns-in-Rest
returns-in-Rest c =
    rest_reads (c.args.tail.now.items ++ c.args.piece.now) c.fill.new.tail.items c.in_ok-behind.behind.now c.args.messages.now c.in-Rest.rest
    c.in_ok-behind.ensures.moved c.in_ok-behind.ensures.enough c.requires.first
    (read_rest c.fill.new.tail.items c.as_slice.result.now c.in_ok-rest.field-0 c.in-Rest.rest c.as_slice.ensures.value c.in-Rest.is c.in_ok-rest.ensures)

pub returns-in_ok-push-in-Whole : goal.returns-in_ok-push-in-Whole
returns-in_ok-push-in-Whole c =
    under_ok (c.args.tail.now.items ++ c.args.piece.now) c.in_ok-behind.behind.now c.read_on.new.tail.items c.push.new.self c.read_on.new.messages c.read_on.result
    c.read_on.ensures
    (whole_begins (c.args.tail.now.items ++ c.args.piece.now) c.fill.new.tail.items c.in_ok-behind.behind.now c.args.messages.now c.push.new.self c.in-Whole.message c.in-Whole.len
    c.in_ok-behind.ensures.moved c.in_ok-behind.ensures.exact c.requires.first
    (read_front c.fill.new.tail.items c.as_slice.result.now c.in_ok-rest.field-0 c.in-Whole.message c.in-Whole.len c.as_slice.ensures.value c.in-Whole.is c.in_ok-rest.ensures)
    c.in_ok-push-in-Whole.ensures.ok)
