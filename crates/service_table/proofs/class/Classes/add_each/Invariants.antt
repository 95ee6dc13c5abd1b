-- The classes that are left make it whole.
use Rattle.std.proofs.Common.{◌≡◌, ℕ, List, drop}
use Rattle.std.specs.List.{list_any}
use Rattle.std.specs.Str.{bytes_eq}
use Rattle.init_machine.specs.Services.{is_of_class}
use Rattle.service_table.specs.Classes.{IsPaired, found, placed_if}
use Rattle.service_table.proofs.class.Classes.add_each.Given as goal

abbrev pub invariant-loop-class : goal.invariant-loop-class
invariant-loop-class l = record {
  paired : IsPaired l.self;
  places : (other : List ℕ) → placed_if (list_any (λ class. bytes_eq class other) (drop l.class-index l.def.classes)) l.service (found l.self other)
      ≡ placed_if (is_of_class other l.def) l.service (found l.initial.self other);
}
