use Rattle.std.proofs.Common.{◌+◌, cond, ap, ◌∙◌}
use Rattle.std.specs.Str.{bytes_eq}
use Rattle.lint_findings.specs.internal.Rows.{count_in}
use Rattle.lint_findings.proofs.ByBytes.{number_put, one_more}
use Rattle.lint_findings.proofs.counts.Counts.add.Goals as goal

pub returns : goal.returns
returns c = λ q.
    number_put c.args.self.now.numbers c.insert.new.self c.in_ok-from_slice.field-0 _ c.args.row.now
    c.in_ok-insert.ensures.updates c.in_ok-from_slice.ensures.items q
    ∙ ap (λ n. cond (bytes_eq c.args.row.now q) (n + 1) (count_in c.args.self.now.numbers q)) c.number-number.ensures
    ∙ one_more c.args.self.now.numbers c.args.row.now q
