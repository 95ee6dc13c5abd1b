-- What an input does, from what its function does.
use Rattle.std.proofs.Common.{◌≡◌, ℕ, true, false, List, [], ◌∷◌, ◌++◌, Option, sym, subst}
use Rattle.init_base.specs.declared.units.ClientId.{ClientId}
use Rattle.init_machine.specs.Props.{Props}
use Rattle.init_machine.specs.Step.{boot, next, tick, exit, file, ask, domain_of, respond}
use Rattle.init_machine.specs.declared.config.Config.{Config}
use Rattle.init_machine.specs.declared.input.Input.{Input}
use Rattle.init_machine.specs.declared.input.Input.TheVariants as input
use Rattle.init_machine.specs.declared.output.Output.{Output}
use Rattle.init_machine.specs.declared.output.Output.TheVariants as output
use Rattle.outputs.specs.Joins.{Joins}
use Rattle.machine_parts.specs.Parts.{Does, state_of, rules_of}
use Rattle.machine_parts.specs.declared.parts.Parts.{Parts}
use Rattle.init_core.specs.internal.Down.{is_down}
use Rattle.init_core.proofs.Nexts.{is_up, is_down as tells_down}

not_down : (over : Option (List ℕ)) (i j : Input) → i ≡ j → false ≡ is_down over i → false ≡ is_down over j
not_down over i j is up = subst (λ (x : Input). false ≡ is_down over x) is up

module _ {S O : Type 0} {meaning : S → Props} {told : S → Option (List (List ℕ × List ℕ))} {adds : O → O → List Output → Type 0} (joins : Joins adds) (config : Config) (old new : Parts S O) (i : Input) where
  pub does_boot : i ≡ input.Boot → Does meaning told adds old new (boot config.pairs (rules_of old) (state_of meaning old)) → Does meaning told adds old new (respond config (rules_of old) i (state_of meaning old))
  unfolding respond
  does_boot is done = subst (λ (j : Input). Does meaning told adds old new (respond config (rules_of old) j (state_of meaning old))) (sym is) done

  pub does_set : (who : ClientId) (name value : List ℕ) → i ≡ input.Set who name value
      → Does meaning told adds old new (ask (rules_of old) (domain_of config.domains who) name value (state_of meaning old)) → Does meaning told adds old new (respond config (rules_of old) i (state_of meaning old))
  unfolding respond
  does_set who name value is done = subst (λ (j : Input). Does meaning told adds old new (respond config (rules_of old) j (state_of meaning old))) (sym is) done

  pub does_next : i ≡ input.Next → false ≡ is_down old.over i → Does meaning told adds old new (next config.actions (rules_of old) (state_of meaning old))
      → Does meaning told adds old new (respond config (rules_of old) i (state_of meaning old))
  unfolding respond
  does_next is up done =
      subst (λ (j : Input). Does meaning told adds old new (respond config (rules_of old) j (state_of meaning old))) (sym is)
      (is_up joins old new old.over (next config.actions (rules_of old)) (not_down old.over i input.Next is up) done)

  pub does_tick : (ms : ℕ) → i ≡ input.Tick ms → false ≡ is_down old.over i → Does meaning told adds old new (tick (rules_of old) ms (state_of meaning old))
      → Does meaning told adds old new (respond config (rules_of old) i (state_of meaning old))
  unfolding respond
  does_tick ms is up done =
      subst (λ (j : Input). Does meaning told adds old new (respond config (rules_of old) j (state_of meaning old))) (sym is)
      (is_up joins old new old.over (tick (rules_of old) ms) (not_down old.over i (input.Tick ms) is up) done)

  pub does_exit : (name : List ℕ) (status : ℕ) → i ≡ input.Exit name status → false ≡ is_down old.over i → Does meaning told adds old new (exit (rules_of old) name status (state_of meaning old))
      → Does meaning told adds old new (respond config (rules_of old) i (state_of meaning old))
  unfolding respond
  does_exit name status is up done =
      subst (λ (j : Input). Does meaning told adds old new (respond config (rules_of old) j (state_of meaning old))) (sym is)
      (is_up joins old new old.over (exit (rules_of old) name status) (not_down old.over i (input.Exit name status) is up) done)

  pub does_file : (path content : List ℕ) → i ≡ input.File path content → false ≡ is_down old.over i → Does meaning told adds old new (file path content (state_of meaning old))
      → Does meaning told adds old new (respond config (rules_of old) i (state_of meaning old))
  unfolding respond
  does_file path content is up done =
      subst (λ (j : Input). Does meaning told adds old new (respond config (rules_of old) j (state_of meaning old))) (sym is)
      (is_up joins old new old.over (file path content) (not_down old.over i (input.File path content) is up) done)

-- an input of a machine that is over
pub does_down : {S O : Type 0} {meaning : S → Props} {told : S → Option (List (List ℕ × List ℕ))} {adds : O → O → List Output → Type 0} (joins : Joins adds) (config : Config) (old : Parts S O) (outputs : O) (i : Input)
    → true ≡ is_down old.over i → adds old.outputs outputs (output.Down ∷ [])
    → Does meaning told adds old (record old { outputs = outputs }) (respond config (rules_of old) i (state_of meaning old))
unfolding respond
does_down joins config old outputs input.Boot is line = absurd (cc)
does_down joins config old outputs input.Next is line = tells_down joins old outputs old.over (next config.actions (rules_of old)) is line
does_down joins config old outputs (input.Tick ms) is line = tells_down joins old outputs old.over (tick (rules_of old) ms) is line
does_down joins config old outputs (input.Exit name status) is line = tells_down joins old outputs old.over (exit (rules_of old) name status) is line
does_down joins config old outputs (input.File path content) is line = tells_down joins old outputs old.over (file path content) is line
does_down joins config old outputs (input.Set who name value) is line = absurd (cc)
