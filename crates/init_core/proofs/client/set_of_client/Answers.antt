use Rattle.std.proofs.Common.{List, ℕ, subst}
use Rattle.std.proofs.lemmas.Result.{on_ok_weaker}
use Rattle.init_machine.specs.Step.{ask}
use Rattle.machine_parts.specs.Parts.{Does, rules_of, state_of}
use Rattle.init_core.proofs.client.set_of_client.Goals as goal

pub returns-clause-done : goal.returns-clause-done
returns-clause-done g c =
    let old = c.args.parts.now in
    let meaning = g.S.PropStore.meaning in
    on_ok_weaker c.ask.result
    (subst (λ (domain : List ℕ). Does meaning g.S.PropStore.told g.O.Outputs.Adds old c.ask.new.parts (ask (rules_of old) domain c.args.name.now c.args.value.now (state_of meaning old))) c.domain_of.ensures)
    c.ask.ensures.done
