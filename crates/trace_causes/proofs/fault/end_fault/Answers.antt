use Rattle.std.proofs.Common.{◌≡◌, ◌+◌, true, false, sym, ap, ◌∙◌, arith}
use Rattle.trace_causes.specs.Faults.{has_line_end}
use Rattle.trace_causes.proofs.Ends.{is_completed, lacks_end}
use Rattle.trace_causes.proofs.Fronts.{lines_few}
use Rattle.trace_causes.proofs.fault.end_fault.Goals as goal

pub overflow_add-result : goal.overflow_add-result
overflow_add-result c = omega (arith, lines_few c.args.text.now)

pub returns-then-ends_with : goal.returns-then-ends_with
returns-then-ends_with c =
    let is : has_line_end c.args.text.now ≡ true = sym c.ends_with.ensures.value ∙ c.if-ends_with.true in
    record {
      title = c.requires.title;
      line_end = is;
      good = lacks_end c.args.text.now c.requires.title is c.requires.none c.requires.good;
      line = ap (λ n. n + 1) c.count_lines-count.ensures;
    }

pub returns-else-ends_with : goal.returns-else-ends_with
returns-else-ends_with c =
    let isnt : has_line_end c.args.text.now ≡ false = sym c.ends_with.ensures.value ∙ c.if-ends_with.false in
    record {
      title = c.requires.title;
      line_end = isnt;
      good = is_completed c.args.text.now c.requires.title isnt c.requires.good;
      line = c.count_lines-count.ensures;
    }
