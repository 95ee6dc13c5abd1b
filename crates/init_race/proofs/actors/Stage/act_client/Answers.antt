use Rattle.std.proofs.Common.{◌≤◌, List, length, subst}
use Rattle.init_machine.specs.declared.report.Reading.{Reading}
use Rattle.script_lang.specs.Inputs.{part_of}
use Rattle.script_lang.specs.declared.script.Act.{Act}
use Rattle.init_race.specs.Acting.{AnswersAll}
use Rattle.init_race.specs.declared.actors.Acted.{Acted}
use Rattle.init_race.proofs.Steps.{act_here, amid_begins, amid_ends, amid_goes_on}
use Rattle.init_race.proofs.actors.Stage.act_client.Goals as goal

pub loop-act-init : goal.loop-act-init
loop-act-init g c = amid_begins _ _

pub loop-act-preserved : goal.loop-act-preserved
loop-act-preserved g c =
    let script = c.args.self.now.script.now in
    let here = act_here _ script.acts c.loop-act.act-index c.act-item.result c.items-act-items.ensures c.loop-act-test.true c.act-item.is in
    amid_goes_on script _ c.loop-act.acted c.in_ok-acted.acted script.acts c.loop-act.act-index c.act-item.result here.0 here.1
    c.loop-act.invariant c.in_ok-acted.ensures

pub returns : goal.returns
returns g c =
    let script = c.args.self.now.script.now in
    let k = c.loop-act.act-index in
    let begins : List Reading → Acted = λ told. record { reader = c.args.reader; readings = told } in
    subst (λ (told : List Reading). AnswersAll (begins told) c.loop-act.acted (part_of c.args.reader.view.who script)) c.new.ensures
    (amid_ends script (begins c.new.result) c.loop-act.acted script.acts k
    (subst (λ (left : List Act). length left ≤ k) c.items-act-items.ensures c.loop-act-test.false) c.loop-act.invariant)
