use Rattle.std.proofs.Common.{length, ap, ◌∙◌, arith}
use Rattle.std.proofs.lemmas.List.{length-map}
use Rattle.init_forms.proofs.auditing.judge_text.Goals as goal

pub audit_text-requires-clause-domains : goal.audit_text-requires-clause-domains
audit_text-requires-clause-domains c =
    let same = ap length c.requires.domains ∙ length-map c.args.job.script.clients (λ client. client.domain) in
    omega (arith, same)
