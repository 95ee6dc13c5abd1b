-- Which actions an event triggers (AOSP, init's README, "Actions" and "Triggers").
use Rattle.std.specs.Prelude.{ℕ, Bool, true, false, not, ◌&&◌, List, [], ◌∷◌, Option, Some, None, if◌then◌else◌}
use Rattle.std.specs.List.{list_any, list_all}
use Rattle.std.specs.Str.{bytes_eq}
use Rattle.init_machine.specs.declared.action.Action.{Action}
use Rattle.init_machine.specs.declared.action.PropTest.{PropTest}
use Rattle.init_machine.specs.declared.event.Event.{Event}
use Rattle.init_machine.specs.declared.event.Event.TheVariants.{Named, Change, AllProperties, Mark}

abbrev pub is_empty : List ℕ → Bool
is_empty [] = true
is_empty (byte ∷ rest) = false

-- an absent property counts as empty
abbrev pub or_empty : Option (List ℕ) → List ℕ
or_empty None = []
or_empty (Some value) = value

-- whether the action's event trigger has this name
abbrev pub has_event : Option (List ℕ) → List ℕ → Bool
has_event None name = false
has_event (Some event) name = bytes_eq event name

abbrev pub has_no_event : Option (List ℕ) → Bool
has_no_event None = true
has_no_event (Some event) = false

-- A test of a value holds now where the property has it; a test `*` holds now where the property is there and not empty.
abbrev pub holds_at : Option (List ℕ) → Option (List ℕ) → Bool
holds_at None now = not (is_empty (or_empty now))
holds_at (Some value) now = bytes_eq (or_empty now) value

abbrev pub holds_now : (List ℕ → Option (List ℕ)) → PropTest → Bool
holds_now look_up test = holds_at test.value (look_up test.name)

-- for a change to a value a test `*` of that property always holds
abbrev pub holds_for : List ℕ → Option (List ℕ) → Bool
holds_for changed None = true
holds_for changed (Some value) = bytes_eq changed value

-- whether a test is of the property of this name
abbrev pub tests : List ℕ → PropTest → Bool
tests name test = bytes_eq test.name name

-- the changed property is tested by its new value, as the event has it, and the others by what they are now
abbrev pub holds_at_change : (List ℕ → Option (List ℕ)) → List ℕ → List ℕ → PropTest → Bool
holds_at_change look_up name value test = if tests name test then holds_for value test.value else holds_now look_up test

-- A named event matches the actions with that event whose property tests all hold now. A change matches the actions
-- without event that test its property, where all tests hold. AllProperties matches the actions without event whose tests
-- all hold now. The mark matches none. The look-up gives the values of properties as they are when the event is taken.
unfoldable pub matches : (List ℕ → Option (List ℕ)) → Event → Action → Bool
matches look_up (Named name) action = has_event action.event name && list_all (holds_now look_up) action.props
matches look_up (Change pair) action =
    has_no_event action.event && list_any (tests pair.name) action.props && list_all (holds_at_change look_up pair.name pair.value) action.props
matches look_up AllProperties action = has_no_event action.event && list_all (holds_now look_up) action.props
matches look_up Mark action = false
