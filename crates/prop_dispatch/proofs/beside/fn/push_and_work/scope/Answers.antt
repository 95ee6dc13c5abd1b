use Rattle.std.proofs.Common.{◌∙◌, ap, sym}
use Rattle.prop_dispatch.proofs.Passes.{same_pushed}
use Rattle.prop_dispatch.proofs.beside.fn.push_and_work.scope.Goals as goal

pub spawn_with-pushing-requires-clause-keeps : goal.spawn_with-pushing-requires-clause-keeps
spawn_with-pushing-requires-clause-keeps g c κs within r pushed =
    same_pushed r (λ passes. passes.items) _ _ _ _ (sym c.of.ensures) (ap (λ s. s.items) (sym c.of-2.ensures)) pushed

pub returns-in-Ok : goal.returns-in-Ok
returns-in-Ok g c = (
  c.work.ensures.pass,
  c.work.ensures.view,
  c.work.ensures.serves,
  same_pushed c.join.result (λ passes. passes.items) _ _ _ _ (ap (λ p. p.line.value) c.in-Ok.ensures.ok ∙ c.of.ensures)
      (ap (λ p. p.senders.value.items) c.in-Ok.ensures.ok ∙ ap (λ s. s.items) c.of-2.ensures) c.join.ensures,
)
