-- Sets of properties: whether a set is accepted, and what it does (AOSP, system properties; the order of the refusals, the
-- 8,191 bytes for `ro.` properties, and that `ctl.start` and the like are allowed by their own names, for all services at
-- once, are this project's profile).
use Rattle.std.specs.Prelude.{ℕ, ◌+◌, Bool, false, not, ◌&&◌, List, [], ◌∷◌, ◌++◌, codes, length, nat_eq, Option, Some, None, is_none, if◌then◌else◌}
use Rattle.std.specs.List.{list_any, starts_with}
use Rattle.std.specs.Str.{bytes_eq}
pub use Rattle.init_base.specs.Name.{is_read_only}
use Rattle.init_base.specs.Name.{is_legal_name}
use Rattle.init_base.specs.Value.{value_fault_under}
use Rattle.init_base.specs.declared.value.BadValue.{BadValue}
use Rattle.init_base.specs.declared.value.BadValue.TheVariants.{TooLong, NotUtf8}
use Rattle.init_machine.specs.Changes.{Change, change, nothing}
use Rattle.init_machine.specs.Choices.{first_of, only_if}
use Rattle.init_machine.specs.Pairs.{pair, with_saved}
use Rattle.init_machine.specs.Policy.{PolicyLines, context_of, is_allowed}
use Rattle.init_machine.specs.Props.{Props, Property, with_set, full_for, lookup_in}
use Rattle.init_machine.specs.State.{State, Rules}
use Rattle.init_machine.specs.Typed.{is_typed}
use Rattle.init_machine.specs.declared.event.Event.{Event}
use Rattle.init_machine.specs.declared.event.Event.TheVariants as event
use Rattle.init_machine.specs.declared.output.Output.{Output}
use Rattle.init_machine.specs.declared.output.Output.TheVariants as output
use Rattle.init_machine.specs.declared.output.SetRefusal.{SetRefusal}
use Rattle.init_machine.specs.declared.output.SetRefusal.TheVariants as refusal
use Rattle.init_machine.specs.declared.waiting.Waiting.{Waiting}
use Rattle.init_machine.specs.declared.waiting.Waiting.TheVariants.{Child, Prop, File}
use Rattle.init_machine.specs.declared.service.Op.{Op}
use Rattle.init_machine.specs.declared.service.Op.TheVariants as op
use Rattle.init_machine.specs.declared.service.ServiceDef.{ServiceDef}
use Rattle.init_machine.specs.declared.store.Full.{Full}
use Rattle.init_machine.specs.declared.store.Full.TheVariants.{Words, Numbers}

-- Names by their beginning, up to and with the first dot.

abbrev pub begins : List ℕ → List ℕ → Bool
begins name beginning = starts_with nat_eq name beginning

abbrev pub is_control : List ℕ → Bool
is_control name = begins name (codes "ctl.")

abbrev pub is_persistent : List ℕ → Bool
is_persistent name = begins name (codes "persist.")

-- what a control name asks for
abbrev pub control_op : List ℕ → Option Op
control_op name =
    if bytes_eq name (codes "ctl.start") then Some op.Start
    else if bytes_eq name (codes "ctl.stop") then Some op.Stop
    else if bytes_eq name (codes "ctl.restart") then Some (op.Restart false)
    else None

abbrev pub has_service : List ServiceDef → List ℕ → Bool
has_service services name = list_any (λ service. bytes_eq service.name name) services

-- Why a set is refused. It is asked by init itself, which is none here, or by a client of a domain.

-- nothing is set once the machine is over
abbrev pub down : Option (List ℕ) → Option SetRefusal
down None = None
down (Some target) = Some (refusal.Down target)

-- a client may set what its domain is allowed to; init may set everything
abbrev pub denied : PolicyLines → Option (List ℕ) → List ℕ → Option SetRefusal
denied policy None name = None
denied policy (Some domain) name =
    only_if (not (is_allowed policy domain (context_of policy name).label)) (refusal.Denied (context_of policy name).label)

-- the value is out of form
abbrev pub bad_value : Option BadValue → Option SetRefusal
bad_value None = None
bad_value (Some (TooLong len)) = Some (refusal.ValueTooLong len)
bad_value (Some NotUtf8) = Some refusal.NotUtf8

-- the property is there, by the set of this number
abbrev pub held : Option Property → Option SetRefusal
held None = None
held (Some property) = Some (refusal.ReadOnly property.number)

-- a property that is read only is set once
abbrev pub read_only : Props → List ℕ → Option SetRefusal
read_only props name = if is_read_only name then held (lookup_in props.held name) else None

-- the area or the numbers are spent
abbrev pub no_room : Option Full → Option SetRefusal
no_room None = None
no_room (Some (Words used need)) = Some (refusal.AreaFull used need)
no_room (Some (Numbers last)) = Some (refusal.NumberSpent last)

abbrev pub control_refusals : Rules → Option (List ℕ) → List ℕ → List ℕ → List (Option SetRefusal)
control_refusals rules by name value =
    only_if (is_none (control_op name)) refusal.UnknownControl
    ∷ denied rules.policy by name
    ∷ only_if (not (has_service rules.services value)) refusal.NoSuchService
    ∷ []

abbrev pub property_refusals : PolicyLines → Props → Option (List ℕ) → List ℕ → List ℕ → List (Option SetRefusal)
property_refusals policy props by name value =
    denied policy by name
    ∷ only_if (not (is_typed (context_of policy name).kind value)) refusal.InvalidType
    ∷ bad_value (value_fault_under name value)
    ∷ read_only props name
    ∷ no_room (full_for props name (length value))
    ∷ []

-- the answer to a set: the first refusal whose condition holds, or none, and then the set is accepted
unfoldable pub set_answer : Rules → State → Option (List ℕ) → List ℕ → List ℕ → Option SetRefusal
set_answer rules s by name value =
    first_of (down s.over
    ∷ only_if (not (is_legal_name name)) refusal.InvalidName
    ∷ (if is_control name then control_refusals rules by name value else property_refusals rules.policy s.props by name value))

-- What an accepted set of a property does, in this order.

-- it gets the next number and enters the map
abbrev pub put_line : State → List ℕ → List ℕ → Output
put_line s name value = output.Put (s.props.count + 1) name value

-- it queues a change where changes queue events
abbrev pub change_event : Bool → List ℕ → List ℕ → List Event
change_event changes name value = if changes then event.Change (pair name value) ∷ [] else []

-- a persistent one enters the saved pairs where saving is on
abbrev pub is_stored : State → List ℕ → Bool
is_stored s name = is_persistent name && s.saving

abbrev pub stored_lines : State → List ℕ → List Output
stored_lines s name = if is_stored s name then output.Stored name ∷ [] else []

-- it ends a wait for that property with that value
abbrev pub awaits : Option Waiting → List ℕ → List ℕ → Bool
awaits None name value = false
awaits (Some (Child pid)) name value = false
awaits (Some (Prop awaited)) name value = bytes_eq awaited.name name && bytes_eq awaited.value value
awaits (Some (File path until)) name value = false

abbrev pub released_lines : Bool → List Output
released_lines ends = if ends then output.Released ∷ [] else []

abbrev pub still_waits : Bool → Option Waiting → Option Waiting
still_waits ends waits = if ends then None else waits

-- all of this, one after another
unfoldable pub put_property : State → List ℕ → List ℕ → Change
put_property s name value =
    change (record s {
      props = with_set s.props name value;
      events = s.events ++ change_event s.changes name value;
      saved = (if is_stored s name then with_saved s.saved name value else s.saved);
      waits = still_waits (awaits s.waits name value) s.waits;
    }) (put_line s name value ∷ stored_lines s name ++ released_lines (awaits s.waits name value))

-- a set, and its answer: none where it was accepted
pub record Judged : Type 0 where
  pub done : Change
  pub refused : Option SetRefusal

abbrev pub judged : Option SetRefusal → State → Change → Judged
judged None s accepted = record { done = accepted; refused = None }
judged (Some why) s accepted = record { done = nothing s; refused = Some why }

-- A set of a name that is no control name. (It isn't asked of others, which it would store: `set_by` of `Services` is the set
-- of any name.)
unfoldable pub set_property : Rules → State → Option (List ℕ) → List ℕ → List ℕ → Judged
set_property rules s by name value = judged (set_answer rules s by name value) s (put_property s name value)

-- a set of init's that isn't a command: a refusal is a line
abbrev pub unset_lines : List ℕ → Option SetRefusal → List Output
unset_lines name None = []
unset_lines name (Some why) = output.Unset name why ∷ []

abbrev pub told_refusal : List ℕ → Judged → Change
told_refusal name answer = change answer.done.state (answer.done.lines ++ unset_lines name answer.refused)
