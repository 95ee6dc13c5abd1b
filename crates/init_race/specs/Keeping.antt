-- What the keeper is given behind a race.
use Rattle.std.specs.Prelude.{ℕ, Bool, true, false, List, [], ◌∷◌, Result, Ok, Err, if◌then◌else◌}
use Rattle.std.specs.List.{list_any}
use Rattle.init_driver.specs.Keeper.{KeeperView, Risks, Took}
use Rattle.init_machine.specs.Policy.{PolicyLines}
use Rattle.init_machine.specs.declared.config.Pair.{Pair}
use Rattle.init_machine.specs.declared.report.Entry.{Entry}
use Rattle.machine_laws.specs.Saved.{has_stored}
use Rattle.persist_file.specs.Store.{store_text}
use Rattle.init_race.specs.declared.refusal.RaceRefusal.{RaceRefusal}
use Rattle.init_race.specs.declared.refusal.RaceRefusal.TheVariants as refusal

-- whether some entry stores a property
abbrev pub stored_in : List Entry → Bool
stored_in history = list_any (λ e. has_stored e.outputs) history

-- the texts that the keeper is given behind a history, where these pairs are saved then
abbrev pub given_behind : List Entry → PolicyLines → List Pair → List (List ℕ)
given_behind history policy saved = if stored_in history then store_text policy saved ∷ [] else []

-- the keeper may or may not have taken them
abbrev pub GivesNot : List (List ℕ) → KeeperView → KeeperView → Type 0
GivesNot texts old new = old.TellsCrash → Risks old new [] texts

-- the keeper was given these texts
abbrev pub Gives : {T : Type 0} → List (List ℕ) → KeeperView → KeeperView → Result T RaceRefusal → Type 0
Gives texts old new (Ok value) = Took old new texts
Gives texts old new (Err e) = GivesNot texts old new

-- whether the keeper's call failed
abbrev pub has_failed : {T : Type 0} → Result T RaceRefusal → Bool
has_failed (Ok value) = false
has_failed (Err refusal.Keeper) = true
has_failed (Err refusal.NoMemory) = false
