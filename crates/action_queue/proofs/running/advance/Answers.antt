use Rattle.std.proofs.Common.{◌≡◌, ◌<◌, get_or, slice_get, Some, length, arith}
use Rattle.action_queue.proofs.Moves.{is_next, more_at, slice_get-front}
use Rattle.action_queue.proofs.running.advance.Goals as goal

pub returns-clause-next : goal.returns-clause-next
returns-clause-next c =
    let begun = c.args.pending.now.begun in
    let first = c.args.pending.now.first in
    let runs : first < length begun = grind (arith, c.if-not-is_running.ensures.answer) in
    let at = get_or c.items.result.now first 0 in
    let is : slice_get begun first ≡ Some at = slice_get-front c.items.result.now begun first c.items.ensures runs in
    is_next c.args.triggers.now begun first c.args.pending.now.command at is
    (more_at c.args.triggers.now begun first c.args.pending.now.command at is c.requires.more)
