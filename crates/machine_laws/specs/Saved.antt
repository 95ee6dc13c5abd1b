-- Which pairs can be printed as the text of a persistent store.
pub use Rattle.init_machine.specs.Stored.{has_stored, is_stored}
use Rattle.std.specs.Prelude.{Bool, ◌&&◌}
use Rattle.init_base.specs.Name.{is_legal_name}
use Rattle.init_base.specs.Value.{is_short_value}
use Rattle.init_machine.specs.Policy.{PolicyLines, context_of}
use Rattle.init_machine.specs.Setting.{is_persistent}
use Rattle.init_machine.specs.Typed.{is_typed}
use Rattle.init_machine.specs.declared.config.Pair.{Pair}

-- the name is legal and begins with `persist.`, and the value is legal under it
abbrev pub can_be_printed : Pair → Bool
can_be_printed p = is_legal_name p.name && is_persistent p.name && is_short_value p.value

-- the value passes the type of its name's context
abbrev pub is_typed_under : PolicyLines → Pair → Bool
is_typed_under policy p = is_typed (context_of policy p.name).kind p.value
