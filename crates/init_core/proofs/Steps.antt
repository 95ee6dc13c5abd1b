-- What an input leaves of a core.
use Rattle.std.proofs.Common.{◌≡◌, ℕ, Bool, List, [], Option, ap, ◌∙◌, subst}
use Rattle.init_machine.specs.History.{sets_in}
use Rattle.init_machine.specs.Props.{Props, more_sets}
use Rattle.init_machine.specs.State.{Rules}
use Rattle.init_machine.specs.Step.{step}
use Rattle.init_machine.specs.declared.config.Config.{Config}
use Rattle.init_machine.specs.declared.config.Pair.{Pair}
use Rattle.init_machine.specs.declared.input.Input.{Input}
use Rattle.init_machine.specs.declared.output.Output.{Output}
use Rattle.machine_parts.specs.Parts.{Does, state_of}
use Rattle.machine_parts.specs.declared.parts.Parts.{Parts}
use Rattle.init_core.specs.Core.{CoreView, config_of, step_of}

-- a core of these parts
abbrev pub shown : {S O : Type 0} → (S → Props) → List Pair → List (List ℕ) → Bool → Parts S O → CoreView S
shown meaning pairs domains spent p = record {
  config = config_of pairs domains p;
  policy = p.policy;
  state = state_of meaning p;
  store = p.store;
  spent = spent;
}

-- What a core is after an input, where it was this one before.
pub record Steps {S O : Type 0} (meaning : S → Props) (tells : S → Option (List (List ℕ × List ℕ))) (adds : O → O → List Output → Type 0) (pairs : List Pair) (domains : List (List ℕ)) (core : CoreView S) (i : Input) (before : O) (new : Parts S O) : Type 0 where
  pub config : config_of pairs domains new ≡ core.config
  pub policy : new.policy ≡ core.policy
  pub state : state_of meaning new ≡ (step_of core i).state
  pub outputs : adds before new.outputs (step_of core i).lines
  pub told : tells new.store ≡ more_sets (tells core.store) (sets_in (step_of core i).lines)

pub steps : {S O : Type 0} {meaning : S → Props} {told : S → Option (List (List ℕ × List ℕ))} {adds : O → O → List Output → Type 0} (pairs : List Pair) (domains : List (List ℕ)) (spent : Bool) (core : CoreView S) (i : Input)
    (old new : Parts S O) (before : O) → shown meaning pairs domains spent old ≡ core
    → Does meaning told adds (record old { outputs = before }) new (step (config_of pairs domains old) old.policy (state_of meaning old) i)
    → Steps meaning told adds pairs domains core i before new
steps {S} {O} {meaning} {told} {adds} pairs domains spent core i old new before is done =
    record {
      config =
          (λ j. let config : Config = record {
            actions = done.actions j;
            services = (done.rules j).services;
            pairs = pairs;
            saved = [];
            plans = (done.rules j).plans;
            domains = domains;
          } in config)
          ∙ ap (λ (v : CoreView S). v.config) is;
      policy = ap (λ (rules : Rules). rules.policy) done.rules ∙ ap (λ (v : CoreView S). v.policy) is;
      state = done.state ∙ ap (λ (v : CoreView S). (step_of v i).state) is;
      outputs = subst (λ (v : CoreView S). adds before new.outputs (step_of v i).lines) is done.lines;
      told = done.sets ∙ ap (λ (v : CoreView S). more_sets (told v.store) (sets_in (step_of v i).lines)) is;
    }
