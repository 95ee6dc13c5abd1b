-- An index of actions: each action with an event stands under that event, each other one under each property that it
-- tests, and nothing else does.
use Rattle.std.specs.Prelude.{◌≡◌, ℕ, ◌-◌, Bool, true, false, ◌&&◌, ◌==◌, nat_lt, List, [], ◌∷◌, ◌++◌, length, slice_get, Option, Some, None, if◌then◌else◌}
use Rattle.std.specs.List.{list_all, list_any}
use Rattle.std.specs.Str.{bytes_eq}
use Rattle.init_machine.specs.Matches.{has_event, has_no_event, tests}
use Rattle.init_machine.specs.declared.action.Action.{Action}
use Rattle.init_machine.specs.declared.action.PropTest.{PropTest}
use Rattle.init_machine.specs.declared.event.Event.{Event}
use Rattle.init_machine.specs.declared.event.Event.TheVariants.{Named, Change, AllProperties, Mark}
use Rattle.action_queue.specs.ByName.{places_of}
use Rattle.action_queue.specs.Pending.{places_from}
use Rattle.action_queue.specs.declared.by_name.PlacesByName.{PlacesByName}
use Rattle.action_queue.specs.declared.index.Index.{Index}

abbrev pub has_named : List ℕ → Action → Bool
has_named name action = has_event action.event name

-- without event, and with a test of the property
abbrev pub has_tested : List ℕ → Action → Bool
has_tested name action = has_no_event action.event && list_any (tests name) action.props

abbrev pub is_without_event : Action → Bool
is_without_event action = has_no_event action.event

pub record IsIndexOf (actions : List Action) (index : Index) : Type 0 where
  pub by_event : (name : List ℕ) → places_of index.by_event name ≡ places_from 0 (has_named name) actions
  pub by_property : (name : List ℕ) → places_of index.by_property name ≡ places_from 0 (has_tested name) actions
  pub without_event : index.without_event.items ≡ places_from 0 is_without_event actions

-- whether an event may trigger an action, by what the index has of it
abbrev pub may_trigger : Event → Action → Bool
may_trigger (Named name) action = has_named name action
may_trigger (Change pair) action = has_tested pair.name action
may_trigger AllProperties action = is_without_event action
may_trigger Mark action = false

-- the place, or none
abbrev pub place_if : Bool → ℕ → List ℕ
place_if b at = if b then at ∷ [] else []

-- an index with an action more
pub record HasAdded (old : Index) (action : Action) (at : ℕ) (new : Index) : Type 0 where
  pub by_event : (name : List ℕ) → places_of new.by_event name ≡ places_of old.by_event name ++ place_if (has_named name action) at
  pub by_property : (name : List ℕ) → places_of new.by_property name ≡ places_of old.by_property name ++ place_if (has_tested name action) at
  pub without_event : new.without_event.items ≡ old.without_event.items ++ place_if (is_without_event action) at

-- places with one more under the name of each test
abbrev pub HasAddedTests : PlacesByName → List PropTest → ℕ → PlacesByName → Type 0
HasAddedTests old props at new = (name : List ℕ) → places_of new name ≡ places_of old name ++ place_if (list_any (tests name) props) at

abbrev pub are_below : ℕ → List ℕ → Bool
are_below at places = list_all (λ place. nat_lt place at) places

-- all places stand before this one
abbrev pub IsBehind : ℕ → PlacesByName → Type 0
IsBehind at places = (name : List ℕ) → are_below at (places_of places name) ≡ true

abbrev pub is_at : ℕ → Option ℕ → Bool
is_at at None = false
is_at at (Some place) = place == at

abbrev pub ends_with : ℕ → List ℕ → Bool
ends_with at places = is_at at (slice_get places (length places - 1))

-- places with one more under a name, unless it is the last one there
abbrev pub HasAddedTest : PlacesByName → List ℕ → ℕ → PlacesByName → Type 0
HasAddedTest old name at new =
    (other : List ℕ) → places_of new other ≡
    (if ends_with at (places_of old name) then places_of old other
    else (if bytes_eq name other then places_of old name ++ at ∷ [] else places_of old other))
