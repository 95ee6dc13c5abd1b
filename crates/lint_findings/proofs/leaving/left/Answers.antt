use Rattle.std.proofs.Common.{◌-◌, ◌++◌, [], ap, sym, ◌∙◌, List, cond}
use Rattle.std.specs.Str.{bytes_eq}
use Rattle.lint_findings.specs.declared.finding.Finding.{Finding}
use Rattle.lint_findings.specs.Baseline.{row_of}
use Rattle.lint_findings.specs.internal.Rows.{count_in}
use Rattle.lint_findings.specs.Left.{having, known, left_behind}
use Rattle.lint_findings.proofs.Unknown.{all_left, counts_more, having_more, left_more}
use Rattle.lint_findings.proofs.leaving.left.Goals as goal

pub returns-then-is_empty : goal.returns-then-is_empty
returns-then-is_empty c =
    all_left c.args.baseline.now.rows c.args.findings (c.is_empty.ensures.0 c.if-is_empty.true)

pub loop-finding-preserved : goal.loop-finding-preserved
loop-finding-preserved c =
    let rows = c.args.baseline.now.rows in
    let before = c.loop-finding.yielded in
    let finding = c.in-Some.finding in
    record {
      decides =
          left_more rows before finding c.next.new.self.rest.items c.loop-finding.left c.pass.new.left (left_behind rows [] c.args.findings) _
          (ap (λ (fs : List Finding). c.loop-finding.left ++ left_behind rows before fs) (sym c.in-Some.ensures.steps.0) ∙ c.loop-finding.invariant.decides)
          (c.loop-finding.invariant.counts (row_of finding)) c.in_ok-pass.ensures.left;
      counts = λ q.
          counts_more (known rows q) (having before q) (count_in c.loop-finding.counts.numbers q) (count_in c.pass.new.counts.numbers q)
          (cond (bytes_eq (row_of finding) q) 1 0) (c.loop-finding.invariant.counts q) (c.in_ok-pass.ensures.counts q)
          ∙ ap (λ n. known rows q - n) (sym (having_more before finding q));
    }
