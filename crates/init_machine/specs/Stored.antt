-- Which outputs store a property.
use Rattle.std.specs.Prelude.{Bool, true, false, List}
use Rattle.std.specs.List.{list_any}
use Rattle.init_machine.specs.declared.output.Output.{Output}
use Rattle.init_machine.specs.declared.output.Output.TheVariants as output

-- it tells that a property is stored
abbrev pub is_stored : Output → Bool
is_stored (output.Stored name) = true
is_stored _ = false

-- a property is stored
abbrev pub has_stored : List Output → Bool
has_stored outputs = list_any is_stored outputs
