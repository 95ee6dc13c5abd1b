use Rattle.std.proofs.Common.{◌≡◌, drop}
use Rattle.std.specs.List.{slice_get}
use Rattle.init_machine.specs.Effect.{effect}
use Rattle.machine_parts.specs.Parts.{rules_of}
use Rattle.init_core.specs.Reaped.{onrestart_of}
use Rattle.init_core.proofs.Left.{Left, each_by}
use Rattle.init_core.proofs.restarting.run_onrestart.Given as goal

abbrev pub invariant-loop-place : goal.invariant-loop-place
invariant-loop-place g l =
    let commands = onrestart_of (slice_get l.initial.parts.services.defs l.at) in
    record {
      left : Left g.S.PropStore.meaning g.S.PropStore.told g.O.Outputs.Adds (each_by effect) commands (drop l.place commands) l.initial.parts l.parts;
      rules : rules_of l.parts ≡ rules_of l.initial.parts;
      beside : g.S.PropStore.Beside l.initial.parts.store l.parts.store;
    }
