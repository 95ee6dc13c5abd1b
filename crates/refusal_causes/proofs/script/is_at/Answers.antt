use Rattle.refusal_causes.proofs.ScriptCauses.{at_line}
use Rattle.refusal_causes.proofs.script.is_at.Goals as goal

pub returns-in-BadLine : goal.returns-in-BadLine
returns-in-BadLine c bytes refused =
    at_line bytes c.args.refusal c.in-BadLine.line c.args.number c.in-BadLine.is refused (λ other. c.each_text_has_one_reading.ensures.one_line bytes c.in-BadLine.line other)
