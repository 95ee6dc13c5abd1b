-- The state is told by a set, and a refusal is a line.
use Rattle.std.proofs.Common.{refl}
use Rattle.std.proofs.lemmas.Result.{on_ok_weaker}
use Rattle.machine_parts.proofs.Telling.{tells}
use Rattle.machine_parts.proofs.operations.tell.Goals as goal

pub returns-clause-done : goal.returns-clause-done
returns-clause-done g c =
    on_ok_weaker c.add_refusal.result
    (λ outputs.
    tells g.S.PropStore.meaning g.S.PropStore.told g.met.O.Outputs.joins c.args.parts.now c.set_property.new.parts _ c.args.service.now _ c.args.word.now _ _ _ c.in_ok-name.ensures c.in_ok-word.ensures
    c.in_ok-refused.ensures.refused c.in_ok-refused.ensures.done refl outputs) c.add_refusal.ensures
