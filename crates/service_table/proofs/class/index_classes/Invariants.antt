-- The places of those that are left come behind.
use Rattle.std.proofs.Common.{◌≡◌, ℕ, ◌≤◌, false, List, ◌++◌, drop}
use Rattle.service_table.specs.Classes.{IsPaired, class_places, ends_with, found}
use Rattle.service_table.proofs.Classes.{places_from}
use Rattle.service_table.proofs.class.index_classes.Given as goal

abbrev pub invariant-loop-at : goal.invariant-loop-at
invariant-loop-at l = record {
  paired : IsPaired l.classes;
  places : (class : List ℕ) → found l.classes class ++ places_from l.at class (drop l.at l.defs) ≡ class_places l.defs class;
  behind : (class : List ℕ) (n : ℕ) → l.at ≤ n → ends_with n (found l.classes class) ≡ false;
}
