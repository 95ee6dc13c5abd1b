-- Places of actions by names.
use Rattle.std.specs.Prelude.{ℕ, List, []}
use Rattle.std.specs.HashMap.{get_by}
use Rattle.std.specs.Option.{option_map_or}
use Rattle.std.specs.Str.{bytes_eq}
use Rattle.action_queue.specs.declared.by_name.PlacesByName.{PlacesByName}

-- the places under a name
abbrev pub places_of : PlacesByName → List ℕ → List ℕ
places_of places name = option_map_or (λ found. found.items) (get_by (bytes_eq name) places.map) []
