-- A service that is to end: its process is killed, or it is stopped.
use Rattle.std.specs.Prelude.{Option, Some, None}
use Rattle.init_base.specs.declared.units.Pid.{Pid}
use Rattle.init_machine.specs.Marks.{Answer, does, kill}
use Rattle.init_machine.specs.declared.service.Marks.{Marks}
use Rattle.init_machine.specs.declared.service.Move.TheVariants as move

abbrev pub end_cell : Option Pid → Marks → Answer
end_cell (Some pid) m = kill pid m
end_cell None m = does m move.Stopped
