use Rattle.std.proofs.Common.{◌≡◌, get_or, sym, ◌∙◌, subst, arith, rules}
use Rattle.prop_dispatch.specs.internal.Passing.{HasPushed}
use Rattle.prop_dispatch.specs.declared.senders.Sender.{Sender}
use Rattle.prop_dispatch.proofs.Passes.{each_pushed}
use Rattle.prop_dispatch.proofs.passing.push_beside.Goals as goal

pub returns : goal.returns
returns g c =
    let line = c.args.line.now in
    let senders = c.args.senders.items in
    let passes = c.in_ok-passes.passes in
    each_pushed line senders passes.items (omega (arith, c.in_ok-passes.ensures.len, c.args.senders.ok.0, passes.ok.0))
    (λ k sender pass within at there.
    let given = (c.in_ok-passes.ensures.each k pass within).1 in
    let same : given.job ≡ sender = sym (given.job_is sender) ∙ sym at in
    let met : HasPushed line given.job (get_or passes.items k pass) = search (rules, given.call.met) in
    subst (λ (s : Sender). HasPushed line s pass) same
    (subst (λ p. HasPushed line given.job p) (sym there) met))
