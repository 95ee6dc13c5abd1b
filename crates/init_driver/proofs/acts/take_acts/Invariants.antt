use Rattle.std.proofs.Common.{◌≡◌, drop, length}
use Rattle.std.specs.List.{flat_map}
use Rattle.script_lang.specs.Inputs.{act_inputs}
use Rattle.init_driver.specs.Course.{place_of, told_from, view_of}
use Rattle.init_driver.specs.Keeper.{seen_by}
use Rattle.init_driver.specs.Machine.{told_to}
use Rattle.init_driver.specs.Seat.{AreTold}
use Rattle.init_driver.proofs.Courses.{Going}
use Rattle.init_driver.proofs.acts.take_acts.Given as goal

-- what is left decides
abbrev pub invariant-loop-act : goal.invariant-loop-act
invariant-loop-act g l = record {
  going : Going (flat_map act_inputs l.acts) (flat_map act_inputs (drop l.act-index l.acts))
      (place_of (view_of l.initial.traced) (g.K.Sink.taken l.initial.out) (seen_by g.P.Keeper.held g.P.Keeper.TellsCrash g.P.Keeper.moment g.P.Keeper.MayLeave l.initial.keeper)) (place_of (view_of l.traced) (g.K.Sink.taken l.out) (seen_by g.P.Keeper.held g.P.Keeper.TellsCrash g.P.Keeper.moment g.P.Keeper.MayLeave l.keeper));
  told : told_from l.traced.core.config l.traced.core.policy l.traced.core.state (drop l.act-index l.acts) 1 l.parts.items
      ≡ told_from l.initial.traced.core.config l.initial.traced.core.policy l.initial.traced.core.state l.acts 1 l.initial.parts.items;
  heard : AreTold (told_to l.traced.core.readers) 1 l.parts.items;
  count : length l.parts.items ≡ length l.initial.parts.items;
  keeper : g.P.Keeper.fault_count l.keeper ≡ g.P.Keeper.fault_count l.initial.keeper;
  sink : g.K.Sink.fault_count l.out ≡ g.K.Sink.fault_count l.initial.out;
}
