-- Inputs that ask first whether the machine is over.
use Rattle.std.specs.Prelude.{ℕ, Bool, false, List, Option, is_some}
use Rattle.init_machine.specs.declared.input.Input.{Input}
use Rattle.init_machine.specs.declared.input.Input.TheVariants as input

-- whether the machine is over, and the input asks for that
abbrev pub is_down : Option (List ℕ) → Input → Bool
is_down over input.Boot = false
is_down over input.Next = is_some over
is_down over (input.Tick ms) = is_some over
is_down over (input.Exit name status) = is_some over
is_down over (input.File path content) = is_some over
is_down over (input.Set who name value) = false
