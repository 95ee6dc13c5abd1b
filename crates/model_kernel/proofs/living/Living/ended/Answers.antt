-- Those that have ended are those of the pids that are asked.
use Rattle.std.proofs.Common.{◌≡◌, filter, ap, ◌∙◌}
use Rattle.init_machine.specs.Kernel.{has_ended}
use Rattle.model_kernel.proofs.Answered.{if_ok}
use Rattle.model_kernel.proofs.Pids.{ended_of_asked}
use Rattle.model_kernel.specs.Living.{is_over, pids, with_pid}
use Rattle.model_kernel.proofs.living.Living.ended.Goals as goal

pub returns-clause-pids : goal.returns-clause-pids
returns-clause-pids c =
    let now = c.args.now in
    let ps = c.args.self.now in
    let asked = c.in_ok-asked.asked in
    if_ok (λ ended. ended ≡ filter (λ pid. is_over now (with_pid ps pid)) c.items.result.now)
    (λ ended. ended ≡ pids (filter (has_ended now) ps))
    c.those_ended.result
    (λ ended same. same ∙ ap (filter (λ pid. is_over now (with_pid ps pid))) c.items.ensures
    ∙ ended_of_asked now ps asked c.asked.ensures.order c.in_ok-asked.ensures.ascending c.in_ok-asked.ensures.all)
    c.those_ended.ensures
