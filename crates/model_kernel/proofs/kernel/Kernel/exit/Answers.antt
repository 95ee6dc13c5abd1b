-- The pids stay below the next one.
use Rattle.std.proofs.Common.{eqb, not, sym, subst}
use Rattle.model_kernel.proofs.Pids.{below_filter}
use Rattle.model_kernel.specs.Living.{AreBelow}
use Rattle.model_kernel.proofs.kernel.Kernel.exit.Goals as goal

pub invariant_of-self : goal.invariant_of-self
invariant_of-self c =
    (c.self.invariant.0, subst (AreBelow c.self.inside.next_pid) (sym c.remove.ensures) (below_filter c.self.inside.next_pid (λ p. not (eqb p.pid c.in_ok-pid.pid)) c.self.inside.living c.self.invariant.1))
