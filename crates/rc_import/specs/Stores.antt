-- What a load leaves of the store in which it looks properties up.
use Rattle.std.specs.Prelude.{◌≡◌, ℕ, List, Option}
use Rattle.init_machine.specs.Props.{Props}

-- nothing that the meaning of a store has was changed, and what stands beside the map is the same
pub record IsKept {S : Type 0} (meaning : S → Props) (told : S → Option (List (List ℕ × List ℕ))) (spare : S → ℕ) (Beside : S → S → Type 0) (old new : S) : Type 0 where
  pub same : meaning new ≡ meaning old
  pub told_is : told new ≡ told old
  pub spare_is : spare new ≡ spare old
  pub beside : Beside old new
