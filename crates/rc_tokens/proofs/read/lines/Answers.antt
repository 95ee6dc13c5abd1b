use Rattle.std.proofs.Common.{ap, ◌∙◌}
use Rattle.rc_tokens.specs.Lines.{Tokens}
use Rattle.rc_tokens.proofs.read.lines.Goals as goal

pub returns-clause-only : goal.returns-clause-only
returns-clause-only c = λ lines dropped are.
    let only = c.in_ok-spans.ensures.only lines dropped are in (
      ap (λ (t : Tokens). t.lines) c.in_ok-into_tokens.ensures ∙ only.0,
      ap (λ (t : Tokens). t.dropped) c.in_ok-into_tokens.ensures ∙ only.1,
    )
