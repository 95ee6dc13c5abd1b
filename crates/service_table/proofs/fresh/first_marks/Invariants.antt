-- The marks so far are those of the services so far.
use Rattle.std.proofs.Common.{◌≡◌, map, take}
use Rattle.init_machine.specs.Marks.{first_marks}
use Rattle.service_table.proofs.fresh.first_marks.Given as goal

abbrev pub invariant-loop-def : goal.invariant-loop-def
invariant-loop-def l = l.marks.items ≡ map (λ service. first_marks service.disabled service.oneshot) (take l.def-index l.defs)
