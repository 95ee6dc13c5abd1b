-- The triggers of an `on` line (AOSP, init's README, "Actions" and "Triggers").
use Rattle.std.specs.Prelude.{ℕ, Bool, false, not, ◌&&◌, ◌||◌, ◌==◌, nat_eq, nat_lt, if◌then◌else◌, List, [], ◌∷◌, length, map, codes, drop, Option, Some, None, Result, Ok, Err}
use Rattle.std.specs.List.{list_all, list_any, flat_map, starts_with, before_first, after_first}
use Rattle.std.specs.Str.{bytes_eq}
use Rattle.init_base.specs.Name.{is_legal_name}
use Rattle.init_machine.specs.declared.action.PropTest.{PropTest}
use Rattle.init_machine.specs.declared.diagnostic.DiagKind.{DiagKind}
use Rattle.init_machine.specs.declared.diagnostic.DiagKind.TheVariants.{NoTrigger, BadTrigger, TwiceProp}
use Rattle.rc_parse.specs.Readings.{is_bad, values}
use Rattle.rc_parse.specs.declared.trigger.Trigger.{Trigger}
use Rattle.rc_parse.specs.declared.trigger.Trigger.TheVariants.{Event, Test}
use Rattle.rc_parse.specs.declared.trigger.Triggers.{Triggers}

-- a trigger on a property
abbrev pub is_on_property : List ℕ → Bool
is_on_property word = starts_with nat_eq word (codes "property:")

-- the value that is tested; `*` stands for any
abbrev pub tested_value : List ℕ → Option (List ℕ)
tested_value value = if bytes_eq value (codes "*") then None else Some value

abbrev pub is_equals_sign : ℕ → Bool
is_equals_sign b = b == 61

-- `NAME=VALUE`, split at the first `=`
abbrev pub test_of : List ℕ → Result Trigger DiagKind
test_of text =
    if list_any is_equals_sign text && is_legal_name (before_first is_equals_sign text)
    then Ok (Test (record { name = before_first is_equals_sign text; value = tested_value (after_first is_equals_sign text) }))
    else Err BadTrigger

-- the name of an event, which isn't empty
abbrev pub event_of : List ℕ → Result Trigger DiagKind
event_of word = if length word == 0 then Err BadTrigger else Ok (Event word)

-- `property:NAME=VALUE`, or an event
abbrev pub trigger_of : List ℕ → Result Trigger DiagKind
trigger_of word = if is_on_property word then test_of (drop 9 word) else event_of word

-- the words at the odd places
abbrev pub odd_words : List (List ℕ) → List (List ℕ)
odd_words [] = []
odd_words (word ∷ []) = word ∷ []
odd_words (word ∷ joiner ∷ words) = word ∷ odd_words words

-- the words at the even places, which join the others
abbrev pub joiners : List (List ℕ) → List (List ℕ)
joiners [] = []
joiners (word ∷ []) = []
joiners (word ∷ joiner ∷ words) = joiner ∷ joiners words

abbrev pub is_joiner : List ℕ → Bool
is_joiner word = bytes_eq word (codes "&&")

-- the triggers of a line that are of a good form
abbrev pub good_triggers : List (List ℕ) → List Trigger
good_triggers words = flat_map (λ word. values (trigger_of word)) (odd_words words)

abbrev pub events_in : Trigger → List (List ℕ)
events_in (Event name) = name ∷ []
events_in (Test test) = []

abbrev pub tests_in : Trigger → List PropTest
tests_in (Event name) = []
tests_in (Test test) = test ∷ []

abbrev pub events_of : List (List ℕ) → List (List ℕ)
events_of words = flat_map events_in (good_triggers words)

abbrev pub tests_of : List (List ℕ) → List PropTest
tests_of words = flat_map tests_in (good_triggers words)

-- whether some text stands in a list twice
abbrev pub has_twice : List (List ℕ) → Bool
has_twice [] = false
has_twice (text ∷ texts) = list_any (bytes_eq text) texts || has_twice texts

-- a trigger of a bad form, a missing or other joining word, or two events
abbrev pub has_bad_trigger : List (List ℕ) → Bool
has_bad_trigger words =
    list_any (λ word. is_bad (trigger_of word)) (odd_words words)
    || not (list_all is_joiner (joiners words))
    || nat_lt 1 (length (events_of words))

-- two triggers on one property
abbrev pub tests_twice : List (List ℕ) → Bool
tests_twice words = has_twice (map (λ test. test.name) (tests_of words))

abbrev pub first_of : List (List ℕ) → Option (List ℕ)
first_of [] = None
first_of (text ∷ texts) = Some text

-- the triggers of the words behind `on`: one event at most, and property tests
abbrev pub triggers_of : List (List ℕ) → Result Triggers DiagKind
triggers_of words =
    if length words == 0 then Err NoTrigger
    else if has_bad_trigger words then Err BadTrigger
    else if tests_twice words then Err TwiceProp
    else Ok (record { event = first_of (events_of words); props = tests_of words })
