use Rattle.lint_sources.proofs.ReadLines.{lines_spelled}
use Rattle.lint_sources.proofs.source.tokens_of.Goals as goal

pub returns-in-Ok : goal.returns-in-Ok
returns-in-Ok c = λ told tree is.
    lines_spelled told tree c.args.bytes.now c.in-Ok.tokens.lines c.in-Ok.tokens.dropped is c.in-Ok.ensures.only
    (λ long. let bad = c.in-Ok.ensures.too_large.1 long in cc)
