-- Where the writer has noted that the cells of names lie.
use Rattle.std.specs.Prelude.{◌≡◌, ℕ, ◌⊎◌, IsTrue, false, List, Contains, Option, Some, None, if◌then◌else◌}
use Rattle.std.specs.HashMap.{get_by}
use Rattle.std.specs.Str.{bytes_eq}
use Rattle.atomic_table.specs.Seated.{TableId}
use Rattle.indexmap.specs.IndexMap.{IndexMap}
use Rattle.init_machine.specs.Props.{Property, lookup_in, is_absent}
use Rattle.serial_value.specs.Steps.{HasCell}
use Rattle.property_trie.specs.Levels.{AreLevels}
use Rattle.property_area.specs.declared.index.Index.{Index}
use Rattle.property_area.specs.declared.places.Places.{Places}
use Rattle.property_area.specs.declared.view.AreaView.{AreaView}
use Rattle.property_area.specs.Seats.{sets_in, store_of}

-- the noted place of a name's cell
abbrev pub noted_in : {S : Type 0} → Option (IndexMap (List ℕ) ℕ S) → List ℕ → Option ℕ
noted_in None name = None
noted_in (Some cells) name = get_by (bytes_eq name) cells

abbrev pub place_in : Places → List ℕ → Option ℕ
place_in places name = noted_in places.cells name

-- the place is noted; or else nothing is but that not all are
abbrev pub Notes : Places → List ℕ → ℕ → Places → Type 0
Notes places name place after =
    (((other : List ℕ) → place_in after other ≡ (if bytes_eq name other then Some place else place_in places other)) × (after.whole ≡ places.whole))
    ⊎ (((other : List ℕ) → place_in after other ≡ place_in places other) × (after.whole ≡ false))

-- each noted place is that of a held name's cell, which the seat knows; where all are noted, no other name is held
pub record AreNoted (table : TableId) (known : List (List ℕ × ℕ)) (held : List Property) (places : Places) : Type 0 where
  pub cells : (name : List ℕ) (place : ℕ) → place_in places name ≡ Some place
      → HasCell table place × Contains known (name, place) × (is_absent (lookup_in held name) ≡ false)
  pub others : IsTrue places.whole → (name : List ℕ) → place_in places name ≡ None → lookup_in held name ≡ None

-- the index holds of a view: it has noted places and levels
abbrev pub IsIndex : TableId → AreaView → Index → Type 0
IsIndex table v index = AreNoted table v.trie.known (store_of v).held index.places × AreLevels (sets_in v) index.levels
