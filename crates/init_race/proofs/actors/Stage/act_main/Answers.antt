use Rattle.std.proofs.Common.{◌≤◌, List, length, subst}
use Rattle.script_lang.specs.declared.script.Act.{Act}
use Rattle.init_race.proofs.Steps.{act_here, inputs_begin, inputs_end, inputs_go_on}
use Rattle.init_race.proofs.actors.Stage.act_main.Goals as goal

pub loop-act-init : goal.loop-act-init
loop-act-init g c = inputs_begin _ _

pub loop-act-preserved : goal.loop-act-preserved
loop-act-preserved g c =
    let script = c.args.self.now.script.now in
    let here = act_here _ script.acts c.loop-act.act-index c.act-item.result c.items-act-items.ensures c.loop-act-test.true c.act-item.is in
    inputs_go_on script c.args.reader c.loop-act.reader c.in_ok-reader.reader script.acts c.loop-act.act-index c.act-item.result here.0 here.1
    c.loop-act.invariant c.in_ok-reader.ensures

pub returns : goal.returns
returns g c =
    let script = c.args.self.now.script.now in
    let k = c.loop-act.act-index in
    inputs_end script c.args.reader c.loop-act.reader script.acts k
    (subst (λ (left : List Act). length left ≤ k) c.items-act-items.ensures c.loop-act-test.false) c.loop-act.invariant
