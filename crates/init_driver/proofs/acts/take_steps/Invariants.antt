use Rattle.std.proofs.Common.{◌≡◌, ℕ, ◌-◌, replicate}
use Rattle.init_machine.specs.declared.input.Input.TheVariants as Input
use Rattle.init_driver.specs.Course.{place_of, view_of}
use Rattle.init_driver.specs.Keeper.{seen_by}
use Rattle.init_driver.specs.Machine.{told_to}
use Rattle.init_driver.proofs.Courses.{Going}
use Rattle.init_driver.proofs.acts.take_steps.Given as goal

-- what is left decides
abbrev pub invariant-loop : goal.invariant-loop
invariant-loop g l = record {
  going : Going (replicate l.count Input.Next) (replicate (l.count - l.counter) Input.Next)
      (place_of (view_of l.initial.traced) (g.K.Sink.taken l.initial.out) (seen_by g.P.Keeper.held g.P.Keeper.TellsCrash g.P.Keeper.moment g.P.Keeper.MayLeave l.initial.keeper)) (place_of (view_of l.traced) (g.K.Sink.taken l.out) (seen_by g.P.Keeper.held g.P.Keeper.TellsCrash g.P.Keeper.moment g.P.Keeper.MayLeave l.keeper));
  still : (who : ℕ) → told_to l.traced.core.readers who ≡ told_to l.initial.traced.core.readers who;
  keeper : g.P.Keeper.fault_count l.keeper ≡ g.P.Keeper.fault_count l.initial.keeper;
  sink : g.K.Sink.fault_count l.out ≡ g.K.Sink.fault_count l.initial.out;
}
