-- Sets of clients: the policy, the area, and the persistent store.
use Rattle.std.specs.Prelude.{◌≡◌, ℕ, true, false, List, [], ◌∷◌, ◌++◌, codes}
use Rattle.init_machine.specs.Policy.{PolicyLines, context_of}
use Rattle.init_machine.specs.State.{Opening}
use Rattle.init_machine.specs.History.{after}
use Rattle.init_machine.specs.Typed.{is_typed}
use Rattle.init_machine.specs.declared.input.Input.{Input}
use Rattle.init_machine.specs.declared.input.Input.TheVariants as input
use Rattle.init_machine.specs.declared.output.Output.{Output}
use Rattle.init_machine.specs.declared.output.Output.TheVariants as output
use Rattle.init_machine.specs.declared.output.SetRefusal.{SetRefusal}
use Rattle.init_machine.specs.declared.output.SetRefusal.TheVariants as refusal
use Rattle.init_machine.specs.declared.type_kind.TypeKind.TheVariants as kind
use Rattle.init_machine.specs.declared.word.Word.TheVariants as word
use Rattle.machine_examples.specs.Run.{opening_of, outputs_of, with_store, with_policy}
use Rattle.machine_examples.specs.Trace.{on, command, runs, begins, put, ok, next, sets, accepted}

abbrev refused : SetRefusal → List Output
refused why = output.Refused why ∷ []

-- ---- the policy

-- contexts `* default_prop` and `ro.x x_prop exact string`; `shell` may set both
abbrev two_labels : PolicyLines
two_labels = record {
  default = record { label = codes "default_prop"; kind = kind.Any };
  exact = record { name = codes "ro.x"; context = record { label = codes "x_prop"; kind = kind.Any } } ∷ [];
  prefixes = [];
  allows = record { domain = codes "shell"; label = codes "default_prop" } ∷ record { domain = codes "shell"; label = codes "x_prop" } ∷ [];
}

abbrev pub PolicyRefusals : Type 0
PolicyRefusals =
    outputs_of (with_policy two_labels (codes "shell" ∷ codes "guest" ∷ []) (opening_of [] [] []))
    (sets 1 (codes "ro.x") (codes "1") ∷ sets 1 (codes "ro.x") (codes "2") ∷ sets 2 (codes "ro.x") (codes "2") ∷ sets 2 (codes "ro..x") (codes "1")
    ∷ sets 1 (codes "ctl.bounce") (codes "s") ∷ sets 1 (codes "ctl.start") (codes "s") ∷ [])
    ≡ (put 1 (codes "ro.x") (codes "1") ∷ accepted 1 ∷ [])
    ∷ refused (refusal.ReadOnly 1)
    ∷ refused (refusal.Denied (codes "x_prop"))
    ∷ refused refusal.InvalidName
    ∷ refused refusal.UnknownControl
    ∷ refused refusal.NoSuchService
    ∷ []

-- ---- the area

abbrev long : List ℕ
long = codes "abcdefghijklmnopq.abcdefghijklmnopq"

-- 64 words: 16 for the head, 19 for `a`, and 29 for the long name
abbrev pub AreaFull : Type 0
AreaFull =
    outputs_of (record (opening_of [] [] []) { capacity = 64 })
    (sets 1 (codes "a") (codes "1") ∷ sets 1 long (codes "1") ∷ sets 1 (codes "b") (codes "1") ∷ sets 1 (codes "a") (codes "2") ∷ [])
    ≡ (put 1 (codes "a") (codes "1") ∷ accepted 1 ∷ [])
    ∷ (put 2 long (codes "1") ∷ accepted 2 ∷ [])
    ∷ refused (refusal.AreaFull 64 19)
    ∷ (put 3 (codes "a") (codes "2") ∷ accepted 3 ∷ [])
    ∷ []

-- ---- the persistent store

abbrev store_inputs : List Input
store_inputs = input.Boot ∷ next ∷ sets 1 (codes "persist.b") [] ∷ []

abbrev with_loading : Opening
with_loading =
    with_store (record { name = codes "persist.a"; value = codes "10" } ∷ [])
    (opening_of (on 1 (codes "early-init") (command 2 word.LoadPersistProps [] ∷ []) ∷ []) [] [])

-- the store's pairs are set, and a persistent set is stored from then on
abbrev pub PersistentStore : Type 0
PersistentStore =
    (outputs_of with_loading store_inputs
    ≡ []
    ∷ (begins 1 ++ runs 2 word.LoadPersistProps [] ∷ put 1 (codes "persist.a") (codes "10") ∷ ok ∷ [])
    ∷ (put 2 (codes "persist.b") [] ∷ output.Stored (codes "persist.b") ∷ accepted 2 ∷ [])
    ∷ [])
    × ((after with_loading store_inputs).saved
    ≡ record { name = codes "persist.a"; value = codes "10" } ∷ record { name = codes "persist.b"; value = [] } ∷ [])

-- ---- contexts and types

abbrev labels : PolicyLines
labels = record {
  default = record { label = codes "d"; kind = kind.Any };
  exact = record { name = codes "ro.build.x"; context = record { label = codes "e"; kind = kind.Enum (codes "on" ∷ codes "off" ∷ []) } } ∷ [];
  prefixes =
      record { name = codes "ro."; context = record { label = codes "r"; kind = kind.Any } }
      ∷ record { name = codes "ro.build."; context = record { label = codes "b"; kind = kind.Any } }
      ∷ [];
  allows = [];
}

abbrev pub ContextsAndTypes : Type 0
ContextsAndTypes =
    ((context_of labels (codes "ro.build.x")).label ≡ codes "e")
    × ((context_of labels (codes "ro.build.y")).label ≡ codes "b")
    × ((context_of labels (codes "ro.z")).label ≡ codes "r")
    × ((context_of labels (codes "a")).label ≡ codes "d")
    × (is_typed (context_of labels (codes "ro.build.x")).kind (codes "on") ≡ true)
    × (is_typed (context_of labels (codes "ro.build.x")).kind (codes "On") ≡ false)
    × (is_typed (context_of labels (codes "ro.build.x")).kind [] ≡ true)
