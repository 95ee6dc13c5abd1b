use Rattle.init_driver.proofs.Tallied.{input_declared}
use Rattle.init_driver.proofs.counting.count_act.Goals as goal

pub count_input-requires : goal.count_input-requires
count_input-requires g c = record {
  declared = input_declared c.args.core.now.config c.args.act.now c.in_ok-input.field-0 c.in-Some.input c.requires.asked c.in_default.not-Step c.in_ok-input.ensures c.in-Some.is;
}
