-- What a table of services is: the services in declared order, and their marks.
use Rattle.std.specs.Prelude.{ℕ, false, List, map, Option, position, slice_index_or, slice_set}
use Rattle.std.specs.List.{enumerate_from, filter_map}
use Rattle.std.specs.Str.{bytes_eq}
use Rattle.init_machine.specs.Marks.{first_marks, service_step}
use Rattle.init_machine.specs.Services.{is_of_class, place_if}
use Rattle.init_machine.specs.declared.service.Marks.{Marks}
use Rattle.init_machine.specs.declared.service.Move.{Move}
use Rattle.init_machine.specs.declared.service.Op.{Op}
use Rattle.init_machine.specs.declared.service.ServiceDef.{ServiceDef}

pub record TableView : Type 0 where
  pub defs : List ServiceDef
  pub marks : List Marks

-- services that were just declared: their marks are those of their options
abbrev pub first_table : List ServiceDef → TableView
first_table defs = record { defs = defs; marks = map (λ service. first_marks service.disabled service.oneshot) defs }

abbrev pub names_of : List ServiceDef → List (List ℕ)
names_of defs = map (λ service. service.name) defs

-- the place of the service with this name
abbrev pub place_named : TableView → List ℕ → Option ℕ
place_named table name = position (λ service. bytes_eq service.name name) table.defs

-- the places of the services of a class, in declared order
abbrev pub places_of_class : TableView → List ℕ → List ℕ
places_of_class table class = filter_map (place_if (is_of_class class)) (enumerate_from 0 table.defs)

-- (a place that has no service isn't asked for)
abbrev pub marks_of : TableView → ℕ → Marks
marks_of table at = slice_index_or table.marks at (first_marks false false)

-- what follows from an operation on the service at a place
abbrev pub move_of : TableView → ℕ → Op → Move
move_of table at what = (service_step what (marks_of table at)).todo

-- the service at a place has the marks that the operation leaves, and each other one is as it was
abbrev pub with_op : TableView → ℕ → Op → TableView
with_op table at what = record table { marks = slice_set table.marks at (service_step what (marks_of table at)).marks }
