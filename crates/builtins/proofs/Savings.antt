-- Saved properties that are set one after another.
use Rattle.std.proofs.Common.{◌≡◌, ℕ, List, [], Option, sym, subst}
use Rattle.init_machine.specs.Changes.{each}
use Rattle.init_machine.specs.Effect.{set_saved}
use Rattle.init_machine.specs.Props.{Props}
use Rattle.init_machine.specs.declared.config.Pair.{Pair}
use Rattle.init_machine.specs.declared.output.Output.{Output}
use Rattle.outputs.specs.Joins.{Joins}
use Rattle.machine_parts.specs.Parts.{Does, rules_of, state_of}
use Rattle.machine_parts.specs.declared.parts.Parts.{Parts}
use Rattle.machine_parts.proofs.Doing.{does_nothing}

-- what is left decides: what it does to the parts as they are is what all of it did to the first ones
abbrev pub Left : {S O : Type 0} → (S → Props) → (S → Option (List (List ℕ × List ℕ))) → (O → O → List Output → Type 0) → Parts S O → Parts S O → List Pair → List Pair → Type 0
Left {S} {O} meaning told adds first now all left =
    (new : Parts S O) → Does meaning told adds now new (each (set_saved (rules_of now)) left (state_of meaning now))
    → Does meaning told adds first new (each (set_saved (rules_of first)) all (state_of meaning first))

-- none is left
pub ends : {S O : Type 0} (meaning : S → Props) (told : S → Option (List (List ℕ × List ℕ))) {adds : O → O → List Output → Type 0} (joins : Joins adds) (first now : Parts S O) (pairs left : List Pair) → left ≡ []
    → Left meaning told adds first now pairs left → Does meaning told adds first now (each (set_saved (rules_of first)) pairs (state_of meaning first))
ends {S} {O} meaning told {adds = adds} joins first now pairs left none all =
    let P : List Pair → Type 0 = λ ps. Does meaning told adds now now (each (set_saved (rules_of now)) ps (state_of meaning now)) in
    all now (subst P (sym none) (does_nothing joins now))
