-- What an operation alone does to the marks of a service, before anything follows from it.
use Rattle.std.specs.Prelude.{ℕ}
use Rattle.init_machine.specs.Marks.{service_step}
use Rattle.init_machine.specs.Services.{marks_at, with_marks}
use Rattle.init_machine.specs.State.{State}
use Rattle.init_machine.specs.declared.service.Op.{Op}

-- the service at a place has the marks that the operation leaves
abbrev pub with_step : State → ℕ → Op → State
with_step s at what = with_marks s at (service_step what (marks_at s at)).marks
