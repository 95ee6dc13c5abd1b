use Rattle.std.proofs.Common.{Option, OnOk, IfSome, ap, subst, ◌∙◌}
use Rattle.std.specs.Option.{is_some}
use Rattle.std.proofs.lemmas.Result.{on_ok_weaker}
use Rattle.init_machine.specs.Effect.{effect}
use Rattle.init_machine.specs.declared.action.Command.{Command}
use Rattle.action_queue.specs.Queue.{command_at}
use Rattle.machine_parts.specs.Parts.{Does, rules_of, state_of}
use Rattle.machine_parts.specs.Schedule.{ScheduleView}
use Rattle.init_core.proofs.Nexts.{next_at, none_next, idles, runs_next}
use Rattle.init_core.proofs.next.take_and_run.Goals as goal

pub run_queued-requires : goal.run_queued-requires
run_queued-requires g c =
    let next = c.in_ok-next.ensures in
    let is = next_at c.in_ok-next.next c.in-Some.place _ _ c.in-Some.is next.next in
    ap (λ (q : ScheduleView). is_some (command_at q.actions c.in-Some.place)) next.schedule ∙ ap (λ (o : Option Command). is_some o) is.placed

pub returns-in-None-clause-done : goal.returns-in-None-clause-done
returns-in-None-clause-done g c =
    let old = c.args.parts.now in
    let next = c.in_ok-next.ensures in
    let none = none_next c.in_ok-next.next _ _ c.in-None.is next.next in
    on_ok_weaker c.push.result (idles g.met.O.Outputs.joins old c.next.new.self c.next.new.store c.next.new.outputs c.push.new.self next.schedule next.lines next.same next.told none) c.push.ensures

pub returns-in-Some-clause-done : goal.returns-in-Some-clause-done
returns-in-Some-clause-done g c =
    let old = c.args.parts.now in
    let next = c.in_ok-next.ensures in
    let is = next_at c.in_ok-next.next c.in-Some.place _ _ c.in-Some.is next.next in
    let placed = ap (λ (q : ScheduleView). command_at q.actions c.in-Some.place) next.schedule ∙ is.placed in
    let mid = record old { queue = c.next.new.self; store = c.next.new.store; outputs = c.next.new.outputs } in
    on_ok_weaker c.run_queued.result
    (runs_next g.met.O.Outputs.joins old c.run_queued.new.parts c.next.new.self c.next.new.store c.next.new.outputs is.command is.commands is.others next.schedule next.lines next.same next.told is.runs)
    (subst (λ (o : Option Command). IfSome o (λ it. OnOk c.run_queued.result (Does g.S.PropStore.meaning g.S.PropStore.told g.O.Outputs.Adds mid c.run_queued.new.parts (effect (rules_of mid) it (state_of g.S.PropStore.meaning mid))))) placed c.run_queued.ensures.done)
