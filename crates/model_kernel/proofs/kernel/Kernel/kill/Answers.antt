-- The pids stay below the next one.
use Rattle.std.proofs.Common.{sym, subst}
use Rattle.model_kernel.proofs.Pids.{below_marked}
use Rattle.model_kernel.specs.Living.{AreBelow}
use Rattle.model_kernel.proofs.kernel.Kernel.kill.Goals as goal

pub invariant_of-self : goal.invariant_of-self
invariant_of-self c =
    (c.self.invariant.0, subst (AreBelow c.self.inside.next_pid) (sym c.kill.ensures) (below_marked c.self.inside.next_pid c.args.pid.0 c.self.inside.living c.self.invariant.1))
