-- The tests of an action's properties.
use Rattle.std.specs.Prelude.{ℕ, Bool, List, Option, Some, None}
use Rattle.init_machine.specs.Matches.{holds_at_change, holds_now}
use Rattle.init_machine.specs.declared.action.PropTest.{PropTest}
use Rattle.init_machine.specs.declared.config.Pair.{Pair}

-- whether a test holds when this property was changed, or none
abbrev pub holds_after : (List ℕ → Option (List ℕ)) → Option Pair → PropTest → Bool
holds_after look_up None = holds_now look_up
holds_after look_up (Some pair) = holds_at_change look_up pair.name pair.value
