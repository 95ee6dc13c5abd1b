-- Those that have ended are told of, and gone.
use Rattle.std.proofs.Common.{◌≡◌, ◌+◌, arith, ap, filter, fold, map, not, sym, subst, ◌∙◌}
use Rattle.init_machine.specs.Kernel.{Kernel, has_ended}
use Rattle.model_kernel.proofs.Pids.{below_filter, buried, found_ended}
use Rattle.model_kernel.specs.Kernel.{KernelView, reaped_at, reaped_of, ticked}
use Rattle.model_kernel.specs.Living.{AreBelow, found, without_pid}
use Rattle.model_kernel.proofs.kernel.Kernel.tick.Goals as goal

pub invariant_of-self : goal.invariant_of-self
invariant_of-self c =
    let now = c.self.inside.clock + c.args.ms in
    let ps = c.self.inside.living in
    let gone : c.bury.new.living ≡ filter (λ p. not (has_ended now p)) ps =
    c.bury.ensures ∙ ap (fold without_pid ps) (c.items-2.ensures ∙ c.in_ok-ended.ensures.pids) ∙ buried now ps c.ended.ensures.ascending in
    (omega arith, subst (AreBelow c.self.inside.next_pid) (sym gone) (below_filter c.self.inside.next_pid (λ p. not (has_ended now p)) ps c.self.invariant.1))

pub returns-clause-reaped : goal.returns-clause-reaped
returns-clause-reaped c =
    let now = c.self.inside.clock + c.args.ms in
    let ps = c.self.inside.living in
    subst (λ (k : KernelView). c.in_ok-reaped.reaped ≡ reaped_at k (k.kernel.clock + c.args.ms)) c.self.view_is
    (c.in_ok-reaped.ensures ∙ ap (λ qs. map reaped_of (found ps qs)) (c.items.ensures ∙ c.in_ok-ended.ensures.pids)
    ∙ ap (map reaped_of) (found_ended now ps c.ended.ensures.ascending))

pub returns-clause-ok : goal.returns-clause-ok
returns-clause-ok c =
    let now = c.self.inside.clock + c.args.ms in
    let ps = c.self.inside.living in
    let gone : c.bury.new.living ≡ filter (λ p. not (has_ended now p)) ps =
    c.bury.ensures ∙ ap (fold without_pid ps) (c.items-2.ensures ∙ c.in_ok-ended.ensures.pids) ∙ buried now ps c.ended.ensures.ascending in
    let left : Kernel = record { clock = now; next_pid = c.self.inside.next_pid; processes = c.bury.new.living } in
    subst (λ (k : KernelView). record { plans = c.self.inside.plans; kernel = left } ≡ ticked k (k.kernel.clock + c.args.ms)) c.self.view_is
    (ap (λ qs. record { plans = c.self.inside.plans; kernel = record left { processes = qs } }) gone)
