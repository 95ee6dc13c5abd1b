use Rattle.std.proofs.Common.{◌++◌, ◌∙◌, Bool, List, filter, map, ap}
use Rattle.init_machine.specs.Matches.{matches}
use Rattle.init_machine.specs.Taking.{event_line}
use Rattle.init_machine.specs.declared.action.Action.{Action}
use Rattle.init_machine.specs.declared.action.Command.{Command}
use Rattle.action_queue.specs.Pending.{places_from}
use Rattle.action_queue.specs.Queue.{QueueView, value_in}
use Rattle.action_queue.proofs.Kept.{kept_begun, begun_runs, begun_lines}
use Rattle.action_queue.proofs.taking.begin_event.Goals as goal

pub returns-in_err-begin-clause-kept : goal.returns-in_err-begin-clause-kept
returns-in_err-begin-clause-kept g c = kept_begun c.args.triggers.now c.args.pending.now c.begin.new.begun _ c.requires c.begin.ensures.places

pub returns-in_err-add_event_line-clause-kept : goal.returns-in_err-add_event_line-clause-kept
returns-in_err-add_event_line-clause-kept g c = kept_begun c.args.triggers.now c.args.pending.now c.begin.new.begun _ c.requires c.begin.ensures.places

pub returns-in_err-add_action_lines-clause-kept : goal.returns-in_err-add_action_lines-clause-kept
returns-in_err-add_action_lines-clause-kept g c = kept_begun c.args.triggers.now c.args.pending.now c.begin.new.begun _ c.requires c.begin.ensures.places

pub returns-clause-kept : goal.returns-clause-kept
returns-clause-kept g c = kept_begun c.args.triggers.now c.args.pending.now c.begin.new.begun _ c.requires c.begin.ensures.places

pub returns-clause-queue : goal.returns-clause-queue
returns-clause-queue g c =
    let actions = c.args.triggers.now in
    let triggered = matches (value_in (g.S.PropStore.meaning c.args.store.now)) c.args.event.now in
    let is = c.in_ok-begin.ensures.begun ∙ ap (λ old. old ++ places_from 0 triggered actions) c.truncate.ensures in
    ap (λ (runs : List (List Command)). let q : QueueView = record { actions = actions; events = c.args.pending.now.events; running = runs; changes = c.changes_after-pending.result } in q)
    (begun_runs triggered actions c.args.pending.now.begun c.begin.new.begun is)
    ∙ ap (λ (b : Bool). let q : QueueView = record { actions = actions; events = c.args.pending.now.events; running = map (λ (action : Action). action.commands) (filter triggered actions); changes = b } in q)
    c.changes_after-pending.ensures

pub returns-clause-lines : goal.returns-clause-lines
returns-clause-lines g c =
    let actions = c.args.triggers.now in
    let triggered = matches (value_in (g.S.PropStore.meaning c.args.store.now)) c.args.event.now in
    let is = c.in_ok-begin.ensures.begun ∙ ap (λ old. old ++ places_from 0 triggered actions) c.truncate.ensures in
    begun_lines g.met.O.Outputs.joins triggered actions c.args.pending.now.begun c.begin.new.begun (event_line c.args.event.now) c.args.outputs.now c.add_event_line.new.outputs c.add_action_lines.new.outputs is
    c.in_ok-add_event_line.ensures c.in_ok-add_action_lines.ensures
