use Rattle.std.proofs.Common.{◌≡◌, ◌<◌, ◌+◌, length, List, ap, arith, sym, ◌∙◌}
use Rattle.init_machine.specs.declared.action.Command.{Command}
use Rattle.action_queue.specs.Queue.{QueueView, commands_at, commands_of}
use Rattle.action_queue.proofs.Moves.{is_place, more_at, stays, leaves, still_more, has_more, are_places-drop}
use Rattle.action_queue.proofs.running.move_on.Goals as goal

pub at-requires : goal.at-requires
at-requires c = is_place _ _ _ _ c.requires.kept.places c.requires.first

pub overflow_add-pending : goal.overflow_add-pending
overflow_add-pending c =
    let more : c.args.pending.now.command < length (commands_at c.args.triggers.now c.args.action) =
    more_at c.args.triggers.now c.args.pending.now.begun c.args.pending.now.first c.args.pending.now.command c.args.action c.requires.first c.requires.kept.more in
    let count : length (commands_at c.args.triggers.now c.args.action) ≡ c.len-count.result =
    ap (λ a. length (commands_of a)) c.at.ensures.action ∙ sym c.len-count.ensures in
    omega arith

pub returns-then-pending-count-clause-kept : goal.returns-then-pending-count-clause-kept
returns-then-pending-count-clause-kept c =
    let count : length (commands_at c.args.triggers.now c.args.action) ≡ c.len-count.result =
    ap (λ a. length (commands_of a)) c.at.ensures.action ∙ sym c.len-count.ensures in
    record {
      well_formed = c.requires.kept.well_formed;
      places = c.requires.kept.places;
      more = still_more c.args.triggers.now c.args.pending.now.begun c.args.pending.now.first c.args.pending.now.command c.args.action c.requires.first (omega arith);
      lone = c.requires.kept.lone;
    }

pub returns-then-pending-count-clause-queue : goal.returns-then-pending-count-clause-queue
returns-then-pending-count-clause-queue c =
    let count : length (commands_at c.args.triggers.now c.args.action) ≡ c.len-count.result =
    ap (λ a. length (commands_of a)) c.at.ensures.action ∙ sym c.len-count.ensures in
    ap (λ (runs : List (List Command)). let q : QueueView = record { actions = c.args.triggers.now; events = c.args.pending.now.events; running = runs; changes = c.args.pending.now.changes } in q)
    (stays c.args.triggers.now c.args.pending.now.begun c.args.pending.now.first c.args.pending.now.command c.args.action c.requires.first (omega arith))

pub returns-else-pending-count-clause-kept : goal.returns-else-pending-count-clause-kept
returns-else-pending-count-clause-kept c = record {
  well_formed = c.requires.kept.well_formed;
  places = c.requires.kept.places;
  more =
      has_more c.args.triggers.now _ c.requires.kept.well_formed
      (are_places-drop c.args.triggers.now (c.args.pending.now.first + 1) c.args.pending.now.begun c.requires.kept.places);
  lone = c.requires.kept.lone;
}

pub returns-else-pending-count-clause-queue : goal.returns-else-pending-count-clause-queue
returns-else-pending-count-clause-queue c =
    let count : length (commands_at c.args.triggers.now c.args.action) ≡ c.len-count.result =
    ap (λ a. length (commands_of a)) c.at.ensures.action ∙ sym c.len-count.ensures in
    let more : c.args.pending.now.command < length (commands_at c.args.triggers.now c.args.action) =
    more_at c.args.triggers.now c.args.pending.now.begun c.args.pending.now.first c.args.pending.now.command c.args.action c.requires.first c.requires.kept.more in
    ap (λ (runs : List (List Command)). let q : QueueView = record { actions = c.args.triggers.now; events = c.args.pending.now.events; running = runs; changes = c.args.pending.now.changes } in q)
    (leaves c.args.triggers.now c.args.pending.now.begun c.args.pending.now.first c.args.pending.now.command c.args.action c.requires.first more (omega arith))
