use Rattle.std.proofs.Common.{◌∙◌, [], ◌∷◌, ◌-◌, ◌+◌, replicate, refl, arith}
use Rattle.std.proofs.lemmas.Result.{err_from_is_err_and}
use Rattle.init_machine.specs.declared.input.Input.TheVariants as Input
use Rattle.init_driver.proofs.Courses.{all_left, gone, going_begins, going_on, going_stops, next_left, none_left}
use Rattle.init_driver.proofs.Reached.{reached_within}
use Rattle.init_driver.proofs.acts.take_steps.Goals as goal

pub loop-init : goal.loop-init
loop-init g c = record {
  going = going_begins (replicate c.args.count Input.Next) (replicate (c.args.count - 0) Input.Next) _ (all_left Input.Next c.args.count);
  still = λ who. refl;
  keeper = refl;
  sink = refl;
}

pub take-requires-clause-reached : goal.take-requires-clause-reached
take-requires-clause-reached g c = reached_within _ _ _ _ c.loop.invariant.going c.requires

pub returns-in_err-take-clause-takes : goal.returns-in_err-take-clause-takes
returns-in_err-take-clause-takes g c =
    let p = err_from_is_err_and c.from_residual.result c.from_residual.ensures.1 in
    rw (p.1, p.2)
    (going_stops _ (replicate c.args.count Input.Next) (replicate (c.args.count - c.loop.counter) Input.Next) (Input.Next ∷ []) (replicate (c.args.count - (c.loop.counter + 1)) Input.Next) _ _ _
    (next_left Input.Next c.args.count c.loop.counter (omega arith)) c.loop.invariant.going c.in_err-take.ensures.takes)

pub loop-preserved : goal.loop-preserved
loop-preserved g c = record {
  going =
      going_on (replicate c.args.count Input.Next) (replicate (c.args.count - c.loop.counter) Input.Next) (Input.Next ∷ []) (replicate (c.args.count - (c.loop.counter + 1)) Input.Next) _ _ _
      (next_left Input.Next c.args.count c.loop.counter (omega arith)) c.loop.invariant.going c.in_ok-take.ensures.takes;
  still = λ who. c.in_ok-take.ensures.still who ∙ c.loop.invariant.still who;
  keeper = c.in_ok-take.ensures.keeper ∙ c.loop.invariant.keeper;
  sink = c.in_ok-take.ensures.sink ∙ c.loop.invariant.sink;
}

pub returns-clause-takes : goal.returns-clause-takes
returns-clause-takes g c =
    gone _ _ _ _ (none_left Input.Next c.args.count c.loop.counter (omega arith)) c.loop.invariant.going
