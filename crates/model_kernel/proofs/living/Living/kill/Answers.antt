-- The process with the pid is marked, and stands at 0 or else all are asked.
use Rattle.std.proofs.Common.{◌≡◌, ℕ, true, eqb, ◌&&◌, ◌||◌, ap, map, sym, subst, ◌∙◌}
use Rattle.collections.specs.Moments.{is_held}
use Rattle.init_machine.specs.Kernel.{marked}
use Rattle.model_kernel.proofs.Answered.{on_err, on_ok}
use Rattle.model_kernel.proofs.Entries.{living_marked}
use Rattle.model_kernel.proofs.Listed.{kill_asks_all, kill_listed}
use Rattle.model_kernel.specs.Living.{AreListed}
use Rattle.model_kernel.proofs.living.Living.kill.Goals as goal

pub invariant_of-self-then-is_err : goal.invariant_of-self-then-is_err
invariant_of-self-then-is_err c =
    let same : c.add.new.self ≡ c.self.inside.ends = on_err _ c.add.result (sym c.is_err.ensures.value ∙ c.if-is_err.true) c.add.ensures.err in
    subst (λ ends. AreListed true ends c.mark.new.processes.entries) (sym same)
    (kill_asks_all c.args.pid c.self.inside.processes.entries c.mark.new.processes.entries c.mark.ensures.at c.mark.ensures.others c.mark.ensures.ordered c.mark.ensures.entries
    c.self.inside.asks_all c.self.inside.ends c.self.invariant)

pub invariant_of-self-else-is_err : goal.invariant_of-self-else-is_err
invariant_of-self-else-is_err c =
    let held : (t n : ℕ) → is_held t n c.add.new.self ≡ ((eqb 0 t && eqb c.args.pid n) || is_held t n c.self.inside.ends) =
    on_ok _ c.add.result (sym c.is_err.ensures.value ∙ c.if-is_err.false) c.add.ensures.ok in
    kill_listed c.args.pid c.self.inside.processes.entries c.mark.new.processes.entries c.mark.ensures.at c.mark.ensures.others c.mark.ensures.ordered c.mark.ensures.entries
    c.self.inside.asks_all c.self.inside.ends c.add.new.self held c.self.invariant

pub returns-then-not-mark : goal.returns-then-not-mark
returns-then-not-mark c =
    living_marked c.args.pid c.self.inside.processes.entries c.mark.new.processes.entries c.self.invariant.ordered c.mark.ensures.entries
    ∙ ap (map (marked c.args.pid)) c.self.view_is

pub returns-then-is_err : goal.returns-then-is_err
returns-then-is_err c =
    living_marked c.args.pid c.self.inside.processes.entries c.mark.new.processes.entries c.self.invariant.ordered c.mark.ensures.entries
    ∙ ap (map (marked c.args.pid)) c.self.view_is

pub returns-else-is_err : goal.returns-else-is_err
returns-else-is_err c =
    living_marked c.args.pid c.self.inside.processes.entries c.mark.new.processes.entries c.self.invariant.ordered c.mark.ensures.entries
    ∙ ap (map (marked c.args.pid)) c.self.view_is
