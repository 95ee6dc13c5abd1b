-- The loading of the saved properties, where a relation allows that saved pairs are forgotten and that saving is turned on.
use Rattle.std.proofs.Common.{◌≡◌, ℕ, true, List, [], Option, Some, None}
use Rattle.init_machine.specs.Changes.{nothing, and_then, each}
use Rattle.init_machine.specs.Effect.{keep_saved, set_saved, save_from_now, load_saved}
use Rattle.init_machine.specs.Pairs.{without_name}
use Rattle.init_machine.specs.Setting.{set_property}
use Rattle.init_machine.specs.State.{State, Rules}
use Rattle.init_machine.specs.declared.config.Pair.{Pair}
use Rattle.init_machine.specs.declared.output.Output.{Output}
use Rattle.init_machine.specs.declared.output.SetRefusal.{SetRefusal}
use Rattle.machine_laws.proofs.Relation.{By, Sets, either, ended_by, and_then_by, each_by}
use Rattle.machine_laws.proofs.Setting.{set_property_by, unset_by}

-- what a relation needs for the loading of the saved properties
pub record Saves (R : State → List Output → State → Type 0) : Type 0 where
  pub forgotten : (s : State) (name : List ℕ) → R s [] (record s { saved = without_name s.saved name })
  pub turned_on : (s : State) → R s [] (record s { saving = true })

module _ (rules : Rules) (R : State → List Output → State → Type 0) (sets : Sets rules R) (saves : Saves R) where
  -- a saved pair stays, or is forgotten
  kept_by : (refused : Option SetRefusal) (name : List ℕ) (s : State) → R s [] (record s { saved = keep_saved refused name s.saved })
  kept_by None name s = sets.none s
  kept_by (Some why) name s = saves.forgotten s name

  set_saved_by : (saved : Pair) (s : State) → By R s (set_saved rules saved s)
  set_saved_by saved s =
      let answer = set_property rules s None saved.name saved.value in
      let by = set_property_by rules R sets None saved.name saved.value s in
      let now = answer.done.state in
      let after : State = record now { saved = keep_saved answer.refused saved.name now.saved } in
      unset_by rules R sets s after answer.done.lines saved.name answer.refused by.text
      (ended_by rules R sets s now after answer.done.lines by.did (kept_by answer.refused saved.name now))

  pub loaded_by : (s : State) → s.over ≡ None → By R s (load_saved rules s)
  loaded_by s on =
      either R s s.saving (nothing s) (and_then (each (set_saved rules) s.saved s) save_from_now) (λ saving. sets.none s)
      (λ off. and_then_by rules R sets s (each (set_saved rules) s.saved s) save_from_now
      (each_by rules R sets (set_saved rules) (λ saved t still. set_saved_by saved t) s.saved s on) (λ t still. saves.turned_on t))
