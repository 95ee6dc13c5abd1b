use Rattle.std.proofs.Common.{sym, ap, ◌∙◌}
use Rattle.std.proofs.lemmas.Bool.{false≢true}
use Rattle.init_base.specs.Name.{is_legal_name}
use Rattle.init_machine.specs.Effect.{Ran}
use Rattle.machine_parts.specs.Parts.{state_of}
use Rattle.machine_parts.proofs.Doing.{does_nothing}
use Rattle.builtins.proofs.Illegal.{illegal}
use Rattle.builtins.proofs.waits.wait_for_property.Goals as goal

pub returns-in_default-clause-ending : goal.returns-in_default-clause-ending
returns-in_default-clause-ending g c =
    sym (ap (λ (r : Ran). r.ending) (illegal c.args.name c.args.value (state_of g.S.PropStore.meaning c.args.parts.now) (λ legal. false≢true (c.in_default.ensures.exact.1 (ap is_legal_name c.bytes.ensures ∙ legal)))))

pub returns-in_default-clause-did : goal.returns-in_default-clause-did
returns-in_default-clause-did g c =
    rw (illegal c.args.name c.args.value (state_of g.S.PropStore.meaning c.args.parts.now) (λ legal. false≢true (c.in_default.ensures.exact.1 (ap is_legal_name c.bytes.ensures ∙ legal))))
    (does_nothing g.met.O.Outputs.joins c.args.parts.now)
