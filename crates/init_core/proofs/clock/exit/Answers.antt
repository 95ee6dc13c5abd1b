use Rattle.std.proofs.Common.{List, ℕ, ap, ◌∙◌}
use Rattle.std.proofs.lemmas.Result.{on_ok_weaker}
use Rattle.model_kernel.specs.Kernel.{exiting, exited}
use Rattle.init_core.proofs.Ticks.{exits, no_process}
use Rattle.init_core.proofs.clock.exit.Goals as goal

pub returns-in-Some-clause-done : goal.returns-in-Some-clause-done
returns-in-Some-clause-done g c =
    let old = c.args.parts.now in
    let exit = c.in-Some.ensures in
    on_ok_weaker c.reap.result
    (exits g.met.O.Outputs.joins old c.reap.new.parts c.exit.new.self c.in-Some.pid c.args.name.now c.args.status
    (exit.pid ∙ ap (λ (name : List ℕ). exiting old.kernel name) c.bytes.ensures) (exit.kernel ∙ ap (λ (name : List ℕ). exited old.kernel name) c.bytes.ensures))
    c.reap.ensures.done

pub returns-in-None-clause-done : goal.returns-in-None-clause-done
returns-in-None-clause-done g c =
    let old = c.args.parts.now in
    let exit = c.in-None.ensures in
    on_ok_weaker c.push.result
    (no_process g.met.O.Outputs.joins old c.exit.new.self c.push.new.self c.args.name.now c.args.status
    (exit.pid ∙ ap (λ (name : List ℕ). exiting old.kernel name) c.bytes.ensures) (exit.kernel ∙ ap (λ (name : List ℕ). exited old.kernel name) c.bytes.ensures))
    c.push.ensures
