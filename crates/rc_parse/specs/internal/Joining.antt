-- What the code joins, trigger by trigger. The proof leads from it to `Triggers`.
use Rattle.std.specs.Prelude.{◌≡◌, ℕ, true, if◌then◌else◌, List, [], ◌∷◌, ◌++◌, Option, Some, None, Result, Ok, Err}
use Rattle.std.specs.List.{list_any, before_first, after_first}
use Rattle.init_machine.specs.declared.action.PropTest.{PropTest}
use Rattle.init_machine.specs.declared.diagnostic.DiagKind.{DiagKind}
use Rattle.init_machine.specs.declared.diagnostic.DiagKind.TheVariants.{BadTrigger}
use Rattle.rc_parse.specs.Triggers.{is_equals_sign, is_joiner, trigger_of, has_bad_trigger, events_of, tests_of, first_of}
use Rattle.rc_parse.specs.declared.trigger.Trigger.{Trigger}
use Rattle.rc_parse.specs.declared.trigger.Trigger.TheVariants.{Event, Test}
use Rattle.rc_parse.specs.declared.trigger.Triggers.{Triggers}

-- the parts of a text round its first `=`
pub record Parts (text : List ℕ) (name : List ℕ) (value : List ℕ) : Type 0 where
  pub has_sign : list_any is_equals_sign text ≡ true
  pub name_is : name ≡ before_first is_equals_sign text
  pub value_is : value ≡ after_first is_equals_sign text

abbrev pub with_event : List PropTest → Option (List ℕ) → List ℕ → Result Triggers DiagKind
with_event props None name = Ok (record { event = Some name; props = props })
with_event props (Some other) name = Err BadTrigger

-- one trigger more
abbrev pub with_trigger : Triggers → Trigger → Result Triggers DiagKind
with_trigger triggers (Event name) = with_event triggers.props triggers.event name
with_trigger triggers (Test test) = Ok (record { event = triggers.event; props = triggers.props ++ test ∷ [] })

-- what stands behind a joining word, or nothing at the end
abbrev pub behind_joiner : List (List ℕ) → Option (List (List ℕ))
behind_joiner [] = Some []
behind_joiner (joiner ∷ words) = if is_joiner joiner then Some words else None

abbrev pub with_reading : Triggers → Result Trigger DiagKind → Result Triggers DiagKind
with_reading triggers (Ok trigger) = with_trigger triggers trigger
with_reading triggers (Err kind) = Err kind

abbrev pub then_joined : Result Triggers DiagKind → (Triggers → Result Triggers DiagKind) → Result Triggers DiagKind
then_joined (Ok triggers) next = next triggers
then_joined (Err kind) next = Err kind

-- these triggers, joined with those of some words
abbrev pub joined_onto : Triggers → List (List ℕ) → Result Triggers DiagKind
joined_onto triggers [] = Ok triggers
joined_onto triggers (word ∷ []) = with_reading triggers (trigger_of word)
joined_onto triggers (word ∷ joiner ∷ words) =
    then_joined (with_reading triggers (trigger_of word)) (λ joined. if is_joiner joiner then joined_onto joined words else Err BadTrigger)

-- the triggers of some words, which may test a property twice
abbrev pub joined_of : List (List ℕ) → Result Triggers DiagKind
joined_of words =
    if has_bad_trigger words then Err BadTrigger
    else Ok (record { event = first_of (events_of words); props = tests_of words })
