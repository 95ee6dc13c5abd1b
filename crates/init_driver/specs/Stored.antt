-- What a keeper is given in a run: at each entry with a `stored` output, the version 2 text, under the policy, of the
-- pairs that are saved then.
pub use Rattle.machine_laws.specs.Saved.{has_stored, is_stored}
use Rattle.std.specs.Prelude.{◌≡◌, ℕ, ⊤, List, [], ◌∷◌, ◌++◌, Option, Some, None, if◌then◌else◌}
use Rattle.init_machine.specs.Changes.{Change}
use Rattle.init_machine.specs.Policy.{PolicyLines}
use Rattle.init_machine.specs.State.{State}
use Rattle.init_machine.specs.Step.{step}
use Rattle.init_machine.specs.declared.config.Config.{Config}
use Rattle.init_machine.specs.declared.input.Input.{Input}
use Rattle.persist_file.specs.Store.{store_text}
use Rattle.script_lang.specs.Script.{last_or}

-- the text that is given at one input
abbrev pub given_at : PolicyLines → Change → List (List ℕ)
given_at policy c = if has_stored c.lines then store_text policy c.state.saved ∷ [] else []

-- the texts that are given at inputs, from a state on
abbrev pub given_from : Config → PolicyLines → State → List Input → List (List ℕ)
given_from config policy s [] = []
given_from config policy s (i ∷ inputs) =
    given_at policy (step config policy s i) ++ given_from config policy (step config policy s i).state inputs

-- a keeper that tells what it holds holds the last of the texts that it was given, or else what it held
abbrev pub Keeps : Option (List ℕ) → Option (List ℕ) → List (List ℕ) → Type 0
Keeps None now given = ⊤
Keeps (Some held) now given = now ≡ Some (last_or held given)
