use Rattle.std.proofs.Common.{◌∙◌, ◌+◌, drop, length, refl, sym, ap, subst, arith}
use Rattle.std.specs.List.{flat_map}
use Rattle.std.proofs.Math.ListN.{drop_of_length-le}
use Rattle.init_machine.specs.declared.config.Config.{Config}
use Rattle.script_lang.specs.Inputs.{act_inputs}
use Rattle.script_lang.specs.Laws.{IsAskAmong}
use Rattle.init_driver.specs.Course.{told_from}
use Rattle.init_driver.specs.Machine.{told_to}
use Rattle.init_driver.proofs.Courses.{act_left, acts_left}
use Rattle.init_driver.proofs.Declared.{among_more}
use Rattle.init_driver.proofs.Tallied.{counting_begins, counting_ends, counting_on, told_and_counted}
use Rattle.init_driver.proofs.Told.{told_by_none, told_length, told_alike, told_on}
use Rattle.init_driver.proofs.counting.count_acts.Goals as goal

pub loop-act-init : goal.loop-act-init
loop-act-init g c = record { counting = counting_begins _ _ _ _ refl; told = refl; heard = c.requires.heard; many = refl }

pub tell-requires-clause-asked : goal.tell-requires-clause-asked
tell-requires-clause-asked g c =
    let at = c.requires.asks c.loop-act.act-index c.act-item.result c.loop-act-test.true in
    subst (λ n. IsAskAmong n c.act-item.result) (sym c.loop-act.invariant.many) (subst (IsAskAmong (length c.args.parts.now.items)) (sym c.act-item.is) at)

pub tell-requires-clause-domains : goal.tell-requires-clause-domains
tell-requires-clause-domains g c =
    let same = ap (λ (config : Config). length config.domains) c.loop-act.invariant.counting.counts.config in
    omega (arith, same, c.loop-act.invariant.many, c.requires.domains)

pub count_act-requires : goal.count_act-requires
count_act-requires g c =
    let at = c.requires.asks c.loop-act.act-index c.act-item.result c.loop-act-test.true in
    let among = among_more _ _ c.requires.domains c.act-item.result (subst (IsAskAmong (length c.args.parts.now.items)) (sym c.act-item.is) at) in
    let same = ap (λ (config : Config). length config.domains) (c.in_ok-tell.ensures.same.config ∙ c.loop-act.invariant.counting.counts.config) in
    record { asked = subst (λ n. IsAskAmong n c.act-item.result) (sym same) among }

pub loop-act-preserved : goal.loop-act-preserved
loop-act-preserved g c =
    let ok = c.in_ok-tell.ensures in
    let core = c.loop-act.core in
    let counts =
    told_and_counted (act_inputs c.act-item.result) core c.tell.new.core c.count_act.new.core c.loop-act.counts c.count_act.new.counts ok.same c.in_ok-count_act.ensures.counts in
    record {
      counting =
          counting_on (flat_map act_inputs c.args.acts.now) (flat_map act_inputs (drop c.loop-act.act-index c.args.acts.now)) (act_inputs c.act-item.result)
          (flat_map act_inputs (drop (c.loop-act.act-index + 1) c.args.acts.now)) c.args.core.now core c.count_act.new.core c.args.counts.now c.loop-act.counts c.count_act.new.counts
          (act_left c.args.acts.now c.loop-act.act-index c.act-item.result c.loop-act-test.true c.act-item.is) c.loop-act.invariant.counting counts;
      told =
          told_on core.config c.count_act.new.core.config core.policy c.count_act.new.core.policy core.state c.count_act.new.core.state c.args.acts.now c.loop-act.act-index c.act-item.result
          c.loop-act.parts.items c.tell.new.parts.items c.loop-act-test.true c.act-item.is ok.told counts.config counts.policy counts.state
          ∙ c.loop-act.invariant.told;
      heard = told_alike (told_to c.tell.new.core.readers) (told_to c.count_act.new.core.readers) 1 c.tell.new.parts.items c.in_ok-count_act.ensures.still ok.heard;
      many = ap length ok.told ∙ told_length core.state c.act-item.result 1 c.loop-act.parts.items ∙ c.loop-act.invariant.many;
    }

pub returns-clause-counts : goal.returns-clause-counts
returns-clause-counts g c =
    counting_ends (flat_map act_inputs c.args.acts.now) (flat_map act_inputs (drop c.loop-act.act-index c.args.acts.now)) c.args.core.now c.loop-act.core c.args.counts.now c.loop-act.counts
    (acts_left c.args.acts.now c.loop-act.act-index c.loop-act-test.false) c.loop-act.invariant.counting

pub returns-clause-told : goal.returns-clause-told
returns-clause-told g c =
    let core = c.loop-act.core in
    sym (told_by_none core.config core.policy core.state 1 c.loop-act.parts.items)
    ∙ ap (λ acts. told_from core.config core.policy core.state acts 1 c.loop-act.parts.items) (sym (drop_of_length-le c.args.acts.now c.loop-act-test.false))
    ∙ c.loop-act.invariant.told

pub returns-clause-heard : goal.returns-clause-heard
returns-clause-heard g c = c.loop-act.invariant.heard
