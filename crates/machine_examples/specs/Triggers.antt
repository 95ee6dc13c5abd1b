-- Events, property triggers and expansion.
use Rattle.std.specs.Prelude.{◌≡◌, ℕ, List, [], ◌∷◌, Option, Some, None, Ok, Err, codes, if◌then◌else◌}
use Rattle.std.specs.Str.{bytes_eq}
use Rattle.init_machine.specs.Expand.{expand}
use Rattle.init_machine.specs.State.{Opening}
use Rattle.init_machine.specs.declared.action.Action.{Action}
use Rattle.init_machine.specs.declared.action.Command.{Command}
use Rattle.init_machine.specs.declared.input.Input.TheVariants as input
use Rattle.init_machine.specs.declared.output.Cause.TheVariants as cause
use Rattle.init_machine.specs.declared.output.Output.{Output}
use Rattle.init_machine.specs.declared.output.Output.TheVariants as output
use Rattle.init_machine.specs.declared.word.Word.TheVariants as word
use Rattle.machine_examples.specs.Run.{opening_of, outputs_of, with_pairs}
use Rattle.machine_examples.specs.Trace.{on, on_property, with_test, command, event, action, runs, put, ok, idle, next, sets, accepted, boots}

abbrev a : List ℕ
a = codes "a"

abbrev b : List ℕ
b = codes "b"

abbrev one : List ℕ
one = codes "1"

-- ---- an event trigger with a property test

abbrev setprop : ℕ → List ℕ → List ℕ → Command
setprop line name value = command line word.Setprop (name ∷ value ∷ [])

abbrev three_actions : List Action
three_actions =
    on 1 (codes "late-init") (command 2 word.Trigger (codes "boot" ∷ []) ∷ [])
    ∷ on 3 (codes "boot") (setprop 4 a one ∷ setprop 5 b (codes "2") ∷ [])
    ∷ with_test (codes "true") (codes "true") (on 6 (codes "boot") (setprop 7 (codes "c") one ∷ setprop 8 (codes "d") (codes "2") ∷ []))
    ∷ on 9 (codes "boot") (setprop 10 (codes "e") one ∷ setprop 11 (codes "f") (codes "2") ∷ [])
    ∷ []

-- a `setprop` of the present action, and its line
abbrev did_set : ℕ → ℕ → List ℕ → List ℕ → List Output
did_set line number name value = runs line word.Setprop (name ∷ value ∷ []) ∷ put number name value ∷ ok ∷ []

abbrev triggers_boot : List Output
triggers_boot =
    event (codes "early-init") ∷ event (codes "init") ∷ event (codes "late-init") ∷ action 1
    ∷ runs 2 word.Trigger (codes "boot" ∷ []) ∷ ok ∷ []

-- the build file has `true=true`: all three actions of `boot` run
abbrev pub BootEventWithPropertyTest : Type 0
BootEventWithPropertyTest =
    outputs_of (with_pairs (record { name = codes "true"; value = codes "true" } ∷ []) (opening_of three_actions [] []))
    (input.Boot ∷ next ∷ next ∷ next ∷ next ∷ next ∷ next ∷ next ∷ [])
    ≡ (put 1 (codes "true") (codes "true") ∷ [])
    ∷ triggers_boot
    ∷ (event (codes "boot") ∷ action 3 ∷ action 6 ∷ action 9 ∷ did_set 4 2 a one)
    ∷ did_set 5 3 b (codes "2")
    ∷ did_set 7 4 (codes "c") one
    ∷ did_set 8 5 (codes "d") (codes "2")
    ∷ did_set 10 6 (codes "e") one
    ∷ did_set 11 7 (codes "f") (codes "2")
    ∷ []

-- the property gets its value later: the action doesn't wait for it
abbrev pub EventActionDoesNotWait : Type 0
EventActionDoesNotWait =
    outputs_of (opening_of three_actions [] [])
    (input.Boot ∷ next ∷ next ∷ sets 1 (codes "true") (codes "true") ∷ next ∷ next ∷ next ∷ next ∷ sets 1 (codes "true") (codes "true") ∷ next ∷ [])
    ≡ []
    ∷ triggers_boot
    ∷ (event (codes "boot") ∷ action 3 ∷ action 9 ∷ did_set 4 1 a one)
    ∷ (put 2 (codes "true") (codes "true") ∷ accepted 2 ∷ [])
    ∷ did_set 5 3 b (codes "2")
    ∷ did_set 10 4 (codes "e") one
    ∷ did_set 11 5 (codes "f") (codes "2")
    ∷ (output.AllProperties ∷ idle ∷ [])
    ∷ (put 6 (codes "true") (codes "true") ∷ accepted 6 ∷ [])
    ∷ (output.Change (codes "true") (codes "true") ∷ idle ∷ [])
    ∷ []

-- ---- a trigger of two properties

abbrev two_tests : Opening
two_tests =
    opening_of (with_test b one (on_property 1 a one (command 2 word.Setprop (codes "c" ∷ codes "${a}${b}" ∷ []) ∷ [])) ∷ []) [] []

abbrev sets_c : ℕ → List Output
sets_c number = output.Change a one ∷ action 1 ∷ did_set 2 number (codes "c") (codes "11")

abbrev changes_c : List Output
changes_c = output.Change (codes "c") (codes "11") ∷ idle ∷ []

-- it runs when the last of its properties changes, and again when one is set to its old value
abbrev pub TwoPropertyTrigger : Type 0
TwoPropertyTrigger =
    outputs_of two_tests (input.Boot ∷ next ∷ sets 1 b one ∷ next ∷ sets 1 a one ∷ next ∷ next ∷ sets 1 a one ∷ next ∷ next ∷ [])
    ≡ []
    ∷ boots
    ∷ (put 1 b one ∷ accepted 1 ∷ [])
    ∷ (output.Change b one ∷ idle ∷ [])
    ∷ (put 2 a one ∷ accepted 2 ∷ [])
    ∷ sets_c 3
    ∷ changes_c
    ∷ (put 4 a one ∷ accepted 4 ∷ [])
    ∷ sets_c 5
    ∷ changes_c
    ∷ []

-- the other test is held against what the property is when the event is taken
abbrev pub OtherTestsAtTake : Type 0
OtherTestsAtTake =
    outputs_of two_tests (input.Boot ∷ next ∷ sets 1 b one ∷ next ∷ sets 1 a one ∷ sets 1 b (codes "0") ∷ next ∷ [])
    ≡ []
    ∷ boots
    ∷ (put 1 b one ∷ accepted 1 ∷ [])
    ∷ (output.Change b one ∷ idle ∷ [])
    ∷ (put 2 a one ∷ accepted 2 ∷ [])
    ∷ (put 3 b (codes "0") ∷ accepted 3 ∷ [])
    ∷ (output.Change a one ∷ output.Change b (codes "0") ∷ idle ∷ [])
    ∷ []

-- ---- a device that charges

-- the last pair of a name holds, and `charger` comes in the place of `late-init`
abbrev pub ChargerBoot : Type 0
ChargerBoot =
    outputs_of
    (with_pairs (record { name = codes "ro.bootmode"; value = codes "y" } ∷ record { name = codes "ro.bootmode"; value = codes "charger" } ∷ []) (opening_of [] [] []))
    (input.Boot ∷ next ∷ [])
    ≡ (put 1 (codes "ro.bootmode") (codes "charger") ∷ [])
    ∷ (event (codes "early-init") ∷ event (codes "init") ∷ event (codes "charger") ∷ output.AllProperties ∷ idle ∷ [])
    ∷ []

-- ---- expansion

-- `a` is 1, and `e` is empty
abbrev known : List ℕ → Option (List ℕ)
known name = if bytes_eq name (codes "a") then Some one else if bytes_eq name (codes "e") then Some [] else None

abbrev pub ExpansionForms : Type 0
ExpansionForms =
    (expand known (codes "x${a}${e:-d}$$") ≡ Ok (codes "x1d$"))
    × (expand known (codes "${e}") ≡ Err (cause.Absent (codes "e")))
    × (expand known (codes "$a") ≡ Err (cause.BadForm 0))
    × (expand known (codes "x${a") ≡ Err (cause.BadForm 1))
    × (expand known (codes "${}") ≡ Err (cause.BadForm 0))

-- ---- the first histories

-- an empty root file
abbrev pub EmptyRootIdles : Type 0
EmptyRootIdles = outputs_of (opening_of [] [] []) (input.Boot ∷ next ∷ []) ≡ [] ∷ boots ∷ []

abbrev pub TriggerReachesSecondAction : Type 0
TriggerReachesSecondAction =
    outputs_of
    (opening_of (on 1 (codes "late-init") (command 2 word.Trigger (codes "boot" ∷ []) ∷ []) ∷ on 3 (codes "boot") (setprop 4 a one ∷ []) ∷ []) [] [])
    (input.Boot ∷ next ∷ next ∷ next ∷ [])
    ≡ []
    ∷ triggers_boot
    ∷ (event (codes "boot") ∷ action 3 ∷ did_set 4 1 a one)
    ∷ (output.AllProperties ∷ idle ∷ [])
    ∷ []
