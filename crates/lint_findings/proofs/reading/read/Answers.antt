use Rattle.std.proofs.Common.{◌+◌, [], ap, sym, subst, refl, arith, rules}
use Rattle.lint_findings.proofs.Fronts.{HasRead, bad_line, few_rows, head_read}
use Rattle.lint_findings.proofs.reading.read.Goals as goal

pub overflow_cast-line : goal.overflow_cast-line
overflow_cast-line c = omega (arith, c.len.ensures, few_rows c.args.bytes.now c.loop-rest.rows c.loop-rest.rest.now c.loop-rest.invariant, c.requires)

pub overflow_add-line : goal.overflow_add-line
overflow_add-line c = omega (arith, c.len.ensures, few_rows c.args.bytes.now c.loop-rest.rows c.loop-rest.rest.now c.loop-rest.invariant, c.requires)

pub loop-rest-init : goal.loop-rest-init
loop-rest-init c =
    let read : HasRead c.args.bytes.now [] c.in-Some.rest.now = record { rows_are = refl; text = head_read c.args.bytes.now c.in-Some.rest.now c.in-Some.ensures.cases.0 c.in-Some.ensures.cases.1 } in
    subst (λ rows. HasRead c.args.bytes.now rows c.in-Some.rest.now) (sym c.new-rows.ensures) read

pub returns-in_default-2-clause-refused : goal.returns-in_default-2-clause-refused
returns-in_default-2-clause-refused c =
    bad_line c.args.bytes.now c.loop-rest.rows c.loop-rest.rest.now (c.len.result + 2) c.loop-rest.invariant (λ none. search rules)
    (rw c.in_default-2.is at c.in_ok-behind.ensures) (ap (λ n. n + 2) c.len.ensures)
