use Rattle.std.proofs.Common.{length, ap, ◌∙◌, arith}
use Rattle.std.proofs.lemmas.List.{length-map}
use Rattle.init_forms.proofs.top.perform.Goals as goal

pub run-requires-clause-domains : goal.run-requires-clause-domains
run-requires-clause-domains g c =
    let same = ap length c.requires.domains ∙ length-map c.args.job.script.clients (λ client. client.domain) in
    omega (arith, same)
