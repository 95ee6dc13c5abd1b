-- The declared services: their definitions, their marks, and the counted exits of each, in declared order.
use Rattle.std.specs.Prelude.{ℕ, Bool, false, List, map, nat_lt, Option, Some, None, position, slice_get, slice_index_or, slice_set, if◌then◌else◌}
use Rattle.std.specs.List.{enumerate_from, filter_map}
use Rattle.std.specs.Str.{bytes_eq}
use Rattle.init_machine.specs.Marks.{first_marks, service_step}
use Rattle.init_machine.specs.Reaping.{counted}
use Rattle.init_machine.specs.Services.{is_of_class, place_if}
use Rattle.init_machine.specs.State.{Exits, no_exits}
use Rattle.init_machine.specs.Step.{is_due, has_timed_out}
use Rattle.init_machine.specs.declared.service.Critical.{Critical}
use Rattle.init_machine.specs.declared.service.Marks.{Marks}
use Rattle.init_machine.specs.declared.service.Move.{Move}
use Rattle.init_machine.specs.declared.service.Op.{Op}
use Rattle.init_machine.specs.declared.service.ServiceDef.{ServiceDef}

pub record ServicesView : Type 0 where
  pub defs : List ServiceDef
  pub marks : List Marks
  pub exits : List Exits

-- services that were just declared
abbrev pub first_services : List ServiceDef → ServicesView
first_services defs = record {
  defs = defs;
  marks = map (λ service. first_marks service.disabled service.oneshot) defs;
  exits = map (λ service. no_exits) defs;
}

abbrev pub place_named : ServicesView → List ℕ → Option ℕ
place_named s name = position (λ service. bytes_eq service.name name) s.defs

-- the places of the services of a class, in declared order
abbrev pub places_of_class : ServicesView → List ℕ → List ℕ
places_of_class s class = filter_map (place_if (is_of_class class)) (enumerate_from 0 s.defs)

-- (a place that has no service isn't asked for)
abbrev pub marks_of : ServicesView → ℕ → Marks
marks_of s at = slice_index_or s.marks at (first_marks false false)

abbrev pub exits_of : ServicesView → ℕ → Exits
exits_of s at = slice_index_or s.exits at no_exits

-- what follows from an operation on the service at a place
abbrev pub move_of : ServicesView → ℕ → Op → Move
move_of s at what = (service_step what (marks_of s at)).todo

-- the service at a place has the marks that the operation leaves, and each other one is as it was
abbrev pub with_op : ServicesView → ℕ → Op → ServicesView
with_op s at what = record s { marks = slice_set s.marks at (service_step what (marks_of s at)).marks }

-- the exit of a critical service is counted; another one's isn't
abbrev pub exits_after : Option Critical → Bool → ℕ → Exits → Exits
exits_after None booted now exits = exits
exits_after (Some critical) booted now exits = counted booted now critical.window.0 exits

abbrev pub critical_of : Option ServiceDef → Option Critical
critical_of None = None
critical_of (Some service) = service.critical

abbrev pub counted_exits : ServicesView → ℕ → ℕ → Bool → Exits
counted_exits s at now booted = exits_after (critical_of (slice_get s.defs at)) booted now (exits_of s at)

abbrev pub with_exit : ServicesView → ℕ → ℕ → Bool → ServicesView
with_exit s at now booted = record s { exits = slice_set s.exits at (counted_exits s at now booted) }

-- the fifth counted exit of a critical service is one too many
abbrev pub is_fatal : Option Critical → Exits → Bool
is_fatal None exits = false
is_fatal (Some critical) exits = nat_lt 4 exits.count

abbrev pub exit_is_fatal : ServicesView → ℕ → ℕ → Bool → Bool
exit_is_fatal s at now booted = is_fatal (critical_of (slice_get s.defs at)) (counted_exits s at now booted)

-- a service and its marks, by its place
abbrev pub place_if_now : (ServiceDef → Marks → Bool) → ServicesView → ℕ × ServiceDef → Option ℕ
place_if_now passes s placed = if passes placed.1 (marks_of s placed.0) then Some placed.0 else None

abbrev pub places_now : (ServiceDef → Marks → Bool) → ServicesView → List ℕ
places_now passes s = filter_map (place_if_now passes s) (enumerate_from 0 s.defs)

-- the places of the restarting services that are due, and of those whose processes have run for their timeouts
abbrev pub places_due : ServicesView → ℕ → List ℕ
places_due s now = places_now (is_due now) s

abbrev pub places_timed_out : ServicesView → ℕ → List ℕ
places_timed_out s now = places_now (has_timed_out now) s
