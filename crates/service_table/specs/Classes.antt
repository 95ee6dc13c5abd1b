-- The classes of services, each with the places of its services.
use Rattle.std.specs.Prelude.{◌≡◌, ℕ, ◌-◌, Bool, false, ◌==◌, List, [], ◌∷◌, ◌++◌, length, position, slice_get, Option, Some, None, unwrap_or, if◌then◌else◌}
use Rattle.std.specs.List.{enumerate_from, filter_map}
use Rattle.std.specs.Option.{option_and_then}
use Rattle.std.specs.Str.{bytes_eq}
use Rattle.init_machine.specs.Services.{is_of_class, place_if}
use Rattle.init_machine.specs.declared.service.ServiceDef.{ServiceDef}
use Rattle.service_table.specs.declared.class.Classes.{Classes}

-- the places of the services of a class, in declared order
abbrev pub class_places : List ServiceDef → List ℕ → List ℕ
class_places defs class = filter_map (place_if (is_of_class class)) (enumerate_from 0 defs)

-- what stands at the place of a class. Nothing where the class isn't there
abbrev pub found : Classes → List ℕ → List ℕ
found classes class = unwrap_or (option_and_then (slice_get classes.places.items) (position (bytes_eq class) classes.names)) []

-- each class has its places
abbrev pub IsPaired : Classes → Type 0
IsPaired classes = length classes.names ≡ length classes.places.items

-- what is found of each class is the places of its services
pub record AreClasses (defs : List ServiceDef) (classes : Classes) : Type 0 where
  pub paired : IsPaired classes
  pub each : (class : List ℕ) → found classes class ≡ class_places defs class

abbrev pub is_at : ℕ → Option ℕ → Bool
is_at at None = false
is_at at (Some place) = place == at

abbrev pub ends_with : ℕ → List ℕ → Bool
ends_with at places = is_at at (slice_get places (length places - 1))

-- places with one more, unless it is the last one there
abbrev pub with_place : ℕ → List ℕ → List ℕ
with_place at places = if ends_with at places then places else places ++ at ∷ []

-- places with one more where a test passes
abbrev pub placed_if : Bool → ℕ → List ℕ → List ℕ
placed_if b at places = if b then with_place at places else places
