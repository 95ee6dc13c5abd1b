-- The services that stay, as slots with an index of names.
use Rattle.std.specs.Prelude.{◌≡◌, length, ℕ, zero, suc, Bool, true, false, not, ◌&&◌, List, [], ◌∷◌, Option, Some, None}
use Rattle.std.specs.HashMap.{get_by}
use Rattle.std.specs.List.{flat_map, list_any}
use Rattle.std.specs.Option.{option_to_list}
use Rattle.std.specs.Str.{bytes_eq}
use Rattle.indexmap.specs.IndexMap.{IndexMap}
use Rattle.init_machine.specs.declared.service.ServiceDef.{ServiceDef}
use Rattle.rc_parse.specs.Kept.{is_named, is_again, not_overridden}

-- the services of the slots, in order
abbrev pub standing : List (Option ServiceDef) → List ServiceDef
standing slots = flat_map option_to_list slots

-- the place of a name
abbrev pub place_of : {S : Type 0} → IndexMap (List ℕ) ℕ S → List ℕ → Option ℕ
place_of places name = get_by (bytes_eq name) places

abbrev pub has_name : List ℕ → List (Option ServiceDef) → Bool
has_name name slots = list_any (is_named name) (standing slots)

abbrev pub holds : List ℕ → Option ServiceDef → Bool
holds name None = false
holds name (Some service) = is_named name service

-- the slot at this place, and no other one, has a service of this name
abbrev pub is_only_at : List ℕ → List (Option ServiceDef) → ℕ → Bool
is_only_at name [] place = false
is_only_at name (slot ∷ slots) zero = holds name slot && not (has_name name slots)
is_only_at name (slot ∷ slots) (suc place) = not (holds name slot) && is_only_at name slots place

-- a name's place is where its service is; without one it has none
abbrev pub is_placed : List ℕ → List (Option ServiceDef) → Option ℕ → Bool
is_placed name slots None = not (has_name name slots)
is_placed name slots (Some place) = is_only_at name slots place

-- the slot of a name, if there is one, was emptied, and the others stay
pub record IsVacated (name : List ℕ) (old new : List (Option ServiceDef)) : Type 0 where
  pub none : has_name name new ≡ false
  pub others : (other : List ℕ) (at : Option ℕ) → bytes_eq other name ≡ false → is_placed other old at ≡ true → is_placed other new at ≡ true
  pub count : length new ≡ length old
  pub stay : (service : ServiceDef) → service.name ≡ name → is_again (standing old) service ≡ false
      → standing new ≡ not_overridden (service ∷ []) (standing old)
