-- The process with the pid goes, with its entry and its moments.
use Rattle.std.proofs.Common.{eqb, IfSome, ap, sym, subst, ◌∙◌}
use Rattle.std.specs.BTreeMap.{is_at}
use Rattle.std.specs.Ordering.{nat_cmp}
use Rattle.collections.specs.Moments.{is_held}
use Rattle.model_kernel.proofs.Answered.{not_and}
use Rattle.model_kernel.proofs.Entries.{living_removed, numbered_removed}
use Rattle.model_kernel.proofs.Listed.{one_changes}
use Rattle.model_kernel.specs.Living.{AreNumbered, IsListed, living, without_pid}
use Rattle.model_kernel.proofs.living.Living.remove.Goals as goal

pub invariant_of-self-then-process : goal.invariant_of-self-then-process
invariant_of-self-then-process c =
    let all = c.self.inside.asks_all in
    let pid = c.args.pid in
    let ends = c.strike_end.new.ends in
    one_changes all all c.self.inside.ends c.remove-then-process.new.self pid c.self.inside.processes.entries c.remove.new.self.entries (λ e. e)
    (λ t n differs. c.remove-then-process.ensures t n ∙ not_and (eqb 0 t) (eqb pid n) (is_held t n ends) differs ∙ c.strike_end.ensures.others t n differs)
    c.remove.ensures.updates.2
    (subst (λ o. IfSome o (IsListed all c.remove-then-process.new.self pid)) (sym c.remove.ensures.updates.1) tt)
    c.remove.ensures.ordered
    (subst AreNumbered (sym c.remove.ensures.entries) (numbered_removed (is_at (nat_cmp pid)) c.self.inside.processes.entries c.self.invariant.numbered))
    c.self.invariant

pub invariant_of-self-else-process : goal.invariant_of-self-else-process
invariant_of-self-else-process c =
    let all = c.self.inside.asks_all in
    let pid = c.args.pid in
    one_changes all all c.self.inside.ends c.strike_end.new.ends pid c.self.inside.processes.entries c.remove.new.self.entries (λ e. e)
    c.strike_end.ensures.others
    c.remove.ensures.updates.2
    (subst (λ o. IfSome o (IsListed all c.strike_end.new.ends pid)) (sym c.remove.ensures.updates.1) tt)
    c.remove.ensures.ordered
    (subst AreNumbered (sym c.remove.ensures.entries) (numbered_removed (is_at (nat_cmp pid)) c.self.inside.processes.entries c.self.invariant.numbered))
    c.self.invariant

pub returns-in_default : goal.returns-in_default
returns-in_default c =
    ap living c.remove.ensures.entries ∙ living_removed c.args.pid c.self.inside.processes.entries c.self.invariant.ordered
    ∙ ap (λ ps. without_pid ps c.args.pid) c.self.view_is

pub returns-then-process : goal.returns-then-process
returns-then-process c =
    ap living c.remove.ensures.entries ∙ living_removed c.args.pid c.self.inside.processes.entries c.self.invariant.ordered
    ∙ ap (λ ps. without_pid ps c.args.pid) c.self.view_is

pub returns : goal.returns
returns c =
    ap living c.remove.ensures.entries ∙ living_removed c.args.pid c.self.inside.processes.entries c.self.invariant.ordered
    ∙ ap (λ ps. without_pid ps c.args.pid) c.self.view_is
