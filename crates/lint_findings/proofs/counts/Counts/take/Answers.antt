use Rattle.std.proofs.Common.{◌-◌, cond, ap, ◌∙◌, refl}
use Rattle.std.specs.Str.{bytes_eq}
use Rattle.lint_findings.specs.internal.Rows.{count_in}
use Rattle.lint_findings.proofs.ByBytes.{number_put, one_less}
use Rattle.lint_findings.proofs.counts.Counts.take.Goals as goal

pub returns-clause-left : goal.returns-clause-left
returns-clause-left c = λ q.
    number_put c.args.self.now.numbers c.insert.new.self c.args.row _ c.args.row.items
    c.in_ok-insert.ensures.updates refl q
    ∙ ap (λ n. cond (bytes_eq c.args.row.items q) (n - 1) (count_in c.args.self.now.numbers q))
    (c.number-number.ensures ∙ ap (λ bs. count_in c.args.self.now.numbers bs) c.deref.ensures.value)
    ∙ one_less c.args.self.now.numbers c.args.row.items q
