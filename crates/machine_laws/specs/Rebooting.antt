-- What is over when the machine reboots.
use Rattle.std.specs.Prelude.{Bool, true, false, List}
use Rattle.std.specs.List.{flat_map}
use Rattle.init_machine.specs.declared.output.Output.{Output}
use Rattle.init_machine.specs.declared.output.Output.TheVariants as output
use Rattle.init_machine.specs.declared.report.Entry.{Entry}

-- all outputs of a history, in order
abbrev pub outputs_of : List Entry → List Output
outputs_of history = flat_map (λ e. e.outputs) history

-- a line by which a property is set, a process is spawned, killed or reaped, or the machine reboots
abbrev pub is_deed : Output → Bool
is_deed (output.Put number name value) = true
is_deed (output.Spawn pid name path) = true
is_deed (output.Kill pid name) = true
is_deed (output.Reap pid name how) = true
is_deed (output.Reboot target) = true
is_deed _ = false

abbrev pub is_reboot : Output → Bool
is_reboot (output.Reboot target) = true
is_reboot _ = false

-- a line of a machine that is over
abbrev pub is_refusal : Output → Bool
is_refusal output.Down = true
is_refusal output.Idle = true
is_refusal (output.Unset name refusal) = true
is_refusal (output.Refused refusal) = true
is_refusal _ = false
