use Rattle.std.proofs.Common.{take}
use Rattle.std.specs.List.{flat_map}
use Rattle.script_lang.specs.Inputs.{main_inputs}
use Rattle.init_dispatch.specs.internal.MainActor.{TakesInputs}
use Rattle.init_dispatch.proofs.main_actor.act_main.Given as goal

-- the inputs of the acts so far were taken
abbrev pub invariant-loop-act : goal.invariant-loop-act
invariant-loop-act g l =
    TakesInputs l.initial.service l.service l.initial.reader l.reader (flat_map main_inputs (take l.act-index l.acts))
