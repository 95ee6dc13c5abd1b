use Rattle.rc_tokens.proofs.Answer.{outcome_only}
use Rattle.rc_tokens.proofs.read.span_lines.Goals as goal

pub returns-clause-only : goal.returns-clause-only
returns-clause-only c = outcome_only c.args.bytes.now c.in_ok-read.field-0 c.in_ok-read.ensures
