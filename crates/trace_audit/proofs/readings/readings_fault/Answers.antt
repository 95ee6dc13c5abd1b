use Rattle.std.proofs.Common.{◌≡◌, ◌+◌, List, Ok, true, false, ap, ◌∙◌, subst}
use Rattle.init_machine.specs.declared.report.Entry.{Entry}
use Rattle.init_machine.specs.declared.report.Reading.{Reading}
use Rattle.trace_audit.specs.Audited.{ReadingsHold}
use Rattle.trace_audit.proofs.Holding.{each_to, fails_at}
use Rattle.trace_audit.proofs.readings.readings_fault.Goals as goal

pub returns-then-not-branch : goal.returns-then-not-branch
returns-then-not-branch c =
    λ (history : List Entry) those all.
    let part = c.index-parts-index.result in
    let no : c.do_hold.result ≡ Ok false = c.in_ok-do_hold.was ∙ ap (λ b. Ok b) c.if-not-branch.true in
    let fail = c.do_hold.ensures.fail history those all no in
    fails_at c.args.script.now history c.args.parts.now c.loop-index.index part c.loop-index-test.true c.index-parts-index.is (c.loop-index.invariant history those all)
    (subst (λ (rs : List Reading). ¬ ReadingsHold c.args.script.now history (c.loop-index.index + 1) rs) c.items.ensures fail)

pub loop-index-preserved : goal.loop-index-preserved
loop-index-preserved c =
    λ (history : List Entry) those all.
    let part = c.index-parts-index.result in
    let yes : c.do_hold.result ≡ Ok true = c.in_ok-do_hold.was ∙ ap (λ b. Ok b) c.if-not-branch.false in
    let hold = c.do_hold.ensures.hold history those all yes in
    each_to c.args.script.now history c.args.parts.now c.loop-index.index part c.loop-index-test.true c.index-parts-index.is (c.loop-index.invariant history those all)
    (subst (λ (rs : List Reading). ReadingsHold c.args.script.now history (c.loop-index.index + 1) rs) c.items.ensures hold)
