use Rattle.std.proofs.Common.{ap, map, ◌∙◌}
use Rattle.lint_findings.specs.Baseline.{baseline_text}
use Rattle.lint_findings.proofs.Sorting.{printed}
use Rattle.lint_findings.proofs.printing.print.Goals as goal

pub returns : goal.returns
returns c =
    printed c.args.findings.now c.in_ok-rows.rows.items c.sort_unstable.new.self.items c.in_ok-text.text.items
    c.in_ok-rows.ensures c.sort_unstable.ensures.permutation c.sort_unstable.ensures.sorted
    (c.in_ok-text.ensures ∙ ap (λ rows. baseline_text (map (λ row. row.items) rows)) c.deref.ensures.value)
