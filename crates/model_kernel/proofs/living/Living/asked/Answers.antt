-- Each process has a pid, and those that have ended are due unless all are asked.
use Rattle.std.proofs.Common.{◌≡◌, ℕ, true, eqb, ap, sym, subst, ◌∙◌}
use Rattle.std.specs.List.{list_any}
use Rattle.std.specs.List.Sorted.{IsStrictlySortedBy}
use Rattle.std.specs.Map.{keys_of}
use Rattle.std.specs.Ordering.{nat_cmp}
use Rattle.collections.specs.Moments.{is_due}
use Rattle.model_kernel.proofs.Answered.{if_ok}
use Rattle.model_kernel.proofs.Entries.{pids_of_living}
use Rattle.model_kernel.proofs.Listed.{ended_are_due, ended_are_keys}
use Rattle.model_kernel.specs.Living.{AreListed, is_over, pids, with_pid}
use Rattle.model_kernel.proofs.living.Living.asked.Goals as goal

pub returns-then-self-clause-all : goal.returns-then-self-clause-all
returns-then-self-clause-all c =
    if_ok (λ asked. asked ≡ keys_of c.self.inside.processes.entries)
    (λ asked. (pid : ℕ) → is_over c.args.now (with_pid c.args.self.now pid) ≡ true → list_any (eqb pid) asked ≡ true)
    c.pids_of.result
    (λ asked same pid over. ap (list_any (eqb pid)) same
    ∙ ended_are_keys c.args.now pid c.self.inside.processes.entries (ap (λ ps. is_over c.args.now (with_pid ps pid)) c.self.view_is ∙ over))
    c.pids_of.ensures

pub returns-then-self-clause-order : goal.returns-then-self-clause-order
returns-then-self-clause-order c =
    subst (λ ps. IsStrictlySortedBy nat_cmp (pids ps)) c.self.view_is
    (subst (IsStrictlySortedBy nat_cmp) (sym (pids_of_living c.self.inside.processes.entries)) c.self.invariant.ordered)

pub returns-clause-all : goal.returns-clause-all
returns-clause-all c =
    if_ok (λ asked. (pid : ℕ) → list_any (eqb pid) asked ≡ is_due c.args.now pid c.self.inside.ends)
    (λ asked. (pid : ℕ) → is_over c.args.now (with_pid c.args.self.now pid) ≡ true → list_any (eqb pid) asked ≡ true)
    c.due.result
    (λ asked due pid over. due pid
    ∙ ended_are_due c.self.inside.ends c.args.now pid c.self.inside.processes.entries
    (subst (λ all. AreListed all c.self.inside.ends c.self.inside.processes.entries) c.if-self.false c.self.invariant)
    (ap (λ ps. is_over c.args.now (with_pid ps pid)) c.self.view_is ∙ over))
    c.due.ensures.numbers

pub returns-clause-order : goal.returns-clause-order
returns-clause-order c =
    subst (λ ps. IsStrictlySortedBy nat_cmp (pids ps)) c.self.view_is
    (subst (IsStrictlySortedBy nat_cmp) (sym (pids_of_living c.self.inside.processes.entries)) c.self.invariant.ordered)
