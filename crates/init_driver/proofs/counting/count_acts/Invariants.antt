use Rattle.std.proofs.Common.{◌≡◌, drop, length}
use Rattle.std.specs.List.{flat_map}
use Rattle.script_lang.specs.Inputs.{act_inputs}
use Rattle.init_driver.specs.Course.{told_from}
use Rattle.init_driver.specs.Machine.{told_to}
use Rattle.init_driver.specs.Seat.{AreTold}
use Rattle.init_driver.proofs.Tallied.{CountingOn}
use Rattle.init_driver.proofs.counting.count_acts.Given as goal

-- what is left decides
abbrev pub invariant-loop-act : goal.invariant-loop-act
invariant-loop-act g l = record {
  counting : CountingOn (flat_map act_inputs l.acts) (flat_map act_inputs (drop l.act-index l.acts)) l.initial.core l.core l.initial.counts l.counts;
  told : told_from l.core.config l.core.policy l.core.state (drop l.act-index l.acts) 1 l.parts.items
      ≡ told_from l.initial.core.config l.initial.core.policy l.initial.core.state l.acts 1 l.initial.parts.items;
  heard : AreTold (told_to l.core.readers) 1 l.parts.items;
  many : length l.parts.items ≡ length l.initial.parts.items;
}
