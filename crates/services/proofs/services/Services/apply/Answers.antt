-- The times at that place are those of its new marks.
use Rattle.std.proofs.Common.{◌<◌, false, length, set, subst, sym, ap, ◌∙◌}
use Rattle.std.proofs.lemmas.Option.{get_or_from_slice_get}
use Rattle.init_machine.specs.Marks.{first_marks, service_step}
use Rattle.service_table.specs.Table.{TableView}
use Rattle.services.specs.Services.{ServicesView, move_of, with_op}
use Rattle.services.specs.Times.{kept_restart, kept_timeout, times_of}
use Rattle.services.proofs.Kept.{has_time, kept_behind}
use Rattle.services.proofs.services.Services.apply.Goals as goal

pub set_both-requires-clause-first : goal.set_both-requires-clause-first
set_both-requires-clause-first c =
    let s = c.self.inside in
    let within = subst (λ s. c.args.at < length s.defs) (sym c.self.view_is) c.requires in
    has_time kept_restart s.table.defs s.table.marks s.restarts c.args.at c.self.invariant.1 within

pub set_both-requires-clause-second : goal.set_both-requires-clause-second
set_both-requires-clause-second c =
    let s = c.self.inside in
    let within = subst (λ s. c.args.at < length s.defs) (sym c.self.view_is) c.requires in
    has_time kept_timeout s.table.defs s.table.marks s.timeouts c.args.at c.self.invariant.2 within

pub invariant_of-self-2 : goal.invariant_of-self-2
invariant_of-self-2 c =
    let s = c.self.inside in
    let marked = sym (get_or_from_slice_get s.table.marks c.args.at c.marks-marks.result (first_marks false false) c.marks-marks.ensures) in
    let answered = c.step.ensures.marks ∙ ap (λ m. (service_step c.args.op m).marks) marked in
    let table : TableView = s.table in
    let put = (λ i. record table { marks = set s.table.marks c.args.at (answered i) }) ∙ sym c.apply.ensures.table in (
      c.self.invariant.0 ∙ ap (λ t. length t.defs) put,
      kept_behind kept_restart s.table.defs s.table.marks c.args.at c.marks-marks.result c.step.new.marks c.def.result.now s.restarts c.set_both.new.first _
          c.def.ensures c.marks-marks.ensures c.self.invariant.1 c.restart_time-restart.ensures c.in_ok-set_both.ensures.first
          ∙ ap (λ t. times_of kept_restart t.defs t.marks) put,
      kept_behind kept_timeout s.table.defs s.table.marks c.args.at c.marks-marks.result c.step.new.marks c.def-2.result.now s.timeouts c.set_both.new.second _
          c.def-2.ensures c.marks-marks.ensures c.self.invariant.2 c.timeout_time-timeout.ensures c.in_ok-set_both.ensures.second
          ∙ ap (λ t. times_of kept_timeout t.defs t.marks) put,
    )

pub returns-clause-services : goal.returns-clause-services
returns-clause-services c =
    let s = c.self.inside in
    let view : ServicesView = record { defs = s.table.defs; marks = s.table.marks; exits = s.exits } in
    (λ i. record view { defs = (c.apply.ensures.table i).defs; marks = (c.apply.ensures.table i).marks })
    ∙ ap (λ s. with_op s c.args.at c.args.op) c.self.view_is

pub returns-clause-todo : goal.returns-clause-todo
returns-clause-todo c = c.apply.ensures.todo ∙ ap (λ s. move_of s c.args.at c.args.op) c.self.view_is
