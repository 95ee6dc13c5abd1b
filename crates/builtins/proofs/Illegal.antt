-- A wait for a property whose name is out of form.
use Rattle.std.proofs.Common.{◌≡◌, ℕ, Bool, true, false, List, refl}
use Rattle.init_base.specs.Name.{is_legal_name}
use Rattle.init_machine.specs.Effect.{fails, wait_for_property}
use Rattle.init_machine.specs.State.{State}
use Rattle.init_machine.specs.declared.output.Cause.TheVariants as cause

is_false : (b : Bool) → (b ≡ true → ⊥) → b ≡ false
is_false true never = absurd (never refl)
is_false false never = refl

pub illegal : (name value : List ℕ) (s : State) → (is_legal_name name ≡ true → ⊥) → wait_for_property name value s ≡ fails (cause.BadArgument 1) s
illegal name value s never = rw (is_false (is_legal_name name) never) refl
