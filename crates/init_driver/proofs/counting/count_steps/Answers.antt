use Rattle.std.proofs.Common.{◌∙◌, [], ◌∷◌, ◌-◌, ◌+◌, replicate, refl, arith}
use Rattle.init_machine.specs.declared.input.Input.TheVariants as Input
use Rattle.init_driver.proofs.Courses.{all_left, next_left, none_left}
use Rattle.init_driver.proofs.Tallied.{counting_begins, counting_ends, counting_on}
use Rattle.init_driver.proofs.counting.count_steps.Goals as goal

pub loop-init : goal.loop-init
loop-init g c = record {
  counting = counting_begins (replicate c.args.count Input.Next) (replicate (c.args.count - 0) Input.Next) _ _ (all_left Input.Next c.args.count);
  still = λ who. refl;
}

pub loop-preserved : goal.loop-preserved
loop-preserved g c = record {
  counting =
      counting_on (replicate c.args.count Input.Next) (replicate (c.args.count - c.loop.counter) Input.Next) (Input.Next ∷ []) (replicate (c.args.count - (c.loop.counter + 1)) Input.Next)
      c.args.core.now c.loop.core c.count_input.new.core c.args.counts.now c.loop.counts c.count_input.new.counts
      (next_left Input.Next c.args.count c.loop.counter (omega arith)) c.loop.invariant.counting c.in_ok-count_input.ensures.counts;
  still = λ who. c.in_ok-count_input.ensures.still who ∙ c.loop.invariant.still who;
}

pub returns-clause-counts : goal.returns-clause-counts
returns-clause-counts g c =
    counting_ends (replicate c.args.count Input.Next) (replicate (c.args.count - c.loop.counter) Input.Next) c.args.core.now c.loop.core c.args.counts.now c.loop.counts
    (none_left Input.Next c.args.count c.loop.counter (omega arith)) c.loop.invariant.counting

pub returns-clause-still : goal.returns-clause-still
returns-clause-still g c = c.loop.invariant.still
