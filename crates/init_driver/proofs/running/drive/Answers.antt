use Rattle.std.proofs.Common.{◌≡◌, ◌∙◌, [], ◌∷◌, take, refl, sym, ap, subst}
use Rattle.std.proofs.lemmas.Result.{err_from_is_err_and}
use Rattle.init_machine.specs.History.{after_from}
use Rattle.init_machine.specs.declared.input.Input.TheVariants as Input
use Rattle.init_trace.specs.Report.{TailText}
use Rattle.machine_laws.specs.Histories.{history_from}
use Rattle.script_lang.specs.Inputs.{InOrder}
use Rattle.init_driver.specs.Course.{Prints, place_of, view_of}
use Rattle.init_driver.specs.Keeper.{seen_by}
use Rattle.init_driver.specs.Readings.{parts_from}
use Rattle.init_driver.specs.Machine.{MachineView, told_to}
use Rattle.init_driver.specs.Run.{due_from, report_from}
use Rattle.init_driver.specs.Stored.{given_from}
use Rattle.init_driver.proofs.Done.{has_done}
use Rattle.init_driver.proofs.Told.{on_ok_of}
use Rattle.init_driver.proofs.Texts.{IsDueAt, entries_refused, head_refused, tail_last}
use Rattle.init_driver.proofs.running.drive.Goals as goal

pub returns-in_err-print_head-clause-leaves : goal.returns-in_err-print_head-clause-leaves
returns-in_err-print_head-clause-leaves g c =
    let p = err_from_is_err_and c.from_residual.result c.from_residual.ensures.1 in
    let core = c.args.traced.now.core in
    let seen = seen_by g.P.Keeper.held g.P.Keeper.TellsCrash g.P.Keeper.moment g.P.Keeper.MayLeave c.args.keeper.now in
    let start = place_of (view_of c.args.traced.now) (g.K.Sink.taken c.args.out.now) seen in
    let due = due_from core.config core.policy core.state c.args.diagnostics.now c.args.script.now in
    let at : IsDueAt due (InOrder c.args.script.now) start = record { history = refl; upto = λ n. refl; all = refl } in
    rw (p.1, p.2)
    (head_refused _ due _ _ seen _ (InOrder c.args.script.now) start at c.requires.empty c.in_err-print_head.ensures.prints)

pub returns-in_err-parts-clause-leaves : goal.returns-in_err-parts-clause-leaves
returns-in_err-parts-clause-leaves g c =
    let p = err_from_is_err_and c.from_residual-in_err-parts.result c.from_residual-in_err-parts.ensures.1 in
    let core = c.args.traced.now.core in
    let inputs = InOrder c.args.script.now in
    let seen = seen_by g.P.Keeper.held g.P.Keeper.TellsCrash g.P.Keeper.moment g.P.Keeper.MayLeave in
    let same = c.in_ok-print_head.ensures.core in
    let b = place_of (view_of c.print_head.new.self) (g.K.Sink.taken c.print_head.new.out) (seen c.args.keeper.now) in
    let due = due_from core.config core.policy core.state c.args.diagnostics.now c.args.script.now in
    let at : IsDueAt due inputs b = record {
      history = ap (λ k. history_from k.config k.policy k.state inputs) (sym same);
      upto = λ n. ap (λ k. given_from k.config k.policy k.state (take n inputs)) (sym same);
      all = ap (λ k. given_from k.config k.policy k.state inputs) (sym same);
    } in
    rw (p.1, p.2)
    (entries_refused _ due inputs _ b (place_of (view_of c.take_script.new.traced) (g.K.Sink.taken c.take_script.new.out) (seen c.take_script.new.keeper)) _
    at c.requires.empty c.in_ok-print_head.ensures.prints c.in_err-parts.ensures.takes)

pub returns-clause-leaves : goal.returns-clause-leaves
returns-clause-leaves g c =
    let core = c.args.traced.now.core in
    let inputs = InOrder c.args.script.now in
    let script = c.args.script.now in
    let seen = seen_by g.P.Keeper.held g.P.Keeper.TellsCrash g.P.Keeper.moment g.P.Keeper.MayLeave in
    let same = c.in_ok-print_head.ensures.core in
    let b = place_of (view_of c.print_head.new.self) (g.K.Sink.taken c.print_head.new.out) (seen c.args.keeper.now) in
    let due = due_from core.config core.policy core.state c.args.diagnostics.now script in
    let at : IsDueAt due inputs b = record {
      history = ap (λ k. history_from k.config k.policy k.state inputs) (sym same);
      upto = λ n. ap (λ k. given_from k.config k.policy k.state (take n inputs)) (sym same);
      all = ap (λ k. given_from k.config k.policy k.state inputs) (sym same);
    } in
    let parts : c.in_ok-parts.parts ≡ parts_from core.config core.policy (after_from core.config core.policy core.state (Input.Boot ∷ [])) script.acts 1 script.clients =
    c.in_ok-parts.ensures.parts
    ∙ ap (λ k. parts_from k.config k.policy (after_from k.config k.policy k.state (Input.Boot ∷ [])) script.acts 1 script.clients) same in
    tail_last c.finish.result due inputs _ _ b (place_of (view_of c.take_script.new.traced) (g.K.Sink.taken c.take_script.new.out) (seen c.take_script.new.keeper)) _
    at c.requires.empty c.in_ok-print_head.ensures.prints c.in_ok-parts.ensures.takes
    (subst (Prints _ _ c.finish.result _ _) (ap TailText parts) c.finish.ensures.prints)

pub take_script-requires-clause-fresh : goal.take_script-requires-clause-fresh
take_script-requires-clause-fresh g c = λ who. ap (λ (m : MachineView). told_to m.readers who) c.in_ok-print_head.ensures.core ∙ c.requires.fresh who

pub returns-clause-done : goal.returns-clause-done
returns-clause-done g c =
    let core = c.args.traced.now.core in
    let script = c.args.script.now in
    let same = c.in_ok-print_head.ensures.core in
    let takes = c.in_ok-parts.ensures.takes in
    let parts : c.in_ok-parts.parts ≡ parts_from core.config core.policy (after_from core.config core.policy core.state (Input.Boot ∷ [])) script.acts 1 script.clients =
    c.in_ok-parts.ensures.parts
    ∙ ap (λ (k : MachineView). parts_from k.config k.policy (after_from k.config k.policy k.state (Input.Boot ∷ [])) script.acts 1 script.clients) same in
    on_ok_of c.finish.result
    (has_done core c.print_head.new.self.core c.take_script.new.traced.core c.finish.new.traced.core (report_from core.config core.policy core.state c.args.diagnostics.now script) (InOrder script)
    c.in_ok-parts.parts same takes.config takes.opening takes.history refl c.in_ok-parts.ensures.heard parts c.finish.ensures.core)
