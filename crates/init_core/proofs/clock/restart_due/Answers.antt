use Rattle.std.proofs.Common.{ℕ, List, ap, subst, ◌∙◌}
use Rattle.std.proofs.lemmas.Result.{on_ok_weaker}
use Rattle.init_machine.specs.Services.{operate_each}
use Rattle.init_machine.specs.declared.service.Op.TheVariants as op
use Rattle.machine_parts.specs.Parts.{Does, rules_of, state_of}
use Rattle.services.specs.Services.{places_due}
use Rattle.init_core.proofs.clock.restart_due.Goals as goal

pub returns-clause-done : goal.returns-clause-done
returns-clause-done g c =
    let old = c.args.parts.now in
    let meaning = g.S.PropStore.meaning in
    let places = c.in_ok-places.ensures ∙ ap (λ (now : ℕ). places_due old.services now) c.now.ensures.clock in
    on_ok_weaker c.operate_each.result
    (subst (λ (at : List ℕ). Does meaning g.S.PropStore.told g.O.Outputs.Adds old c.operate_each.new.parts (operate_each (rules_of old) op.Start at (state_of meaning old))) places)
    c.operate_each.ensures.done
