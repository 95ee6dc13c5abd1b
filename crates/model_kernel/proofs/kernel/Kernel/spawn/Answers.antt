-- The pids stay below the next one.
use Rattle.std.proofs.Common.{◌+◌, sym, subst, refl}
use Rattle.model_kernel.proofs.Pids.{below_pushed}
use Rattle.model_kernel.specs.Living.{AreBelow}
use Rattle.model_kernel.proofs.kernel.Kernel.spawn.Goals as goal

pub invariant_of-self-2 : goal.invariant_of-self-2
invariant_of-self-2 c =
    (c.self.invariant.0, subst (AreBelow (c.self.inside.next_pid + 1)) (sym c.in_ok-push.ensures.ok) (below_pushed c.self.inside.next_pid c.self.inside.living _ c.self.invariant.1 refl))
