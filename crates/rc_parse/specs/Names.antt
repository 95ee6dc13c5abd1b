-- The names of the services that were read so far.
use Rattle.std.specs.Prelude.{◌≡◌, ℕ, Bool, List}
use Rattle.std.specs.List.{list_any}
use Rattle.std.specs.Str.{bytes_eq}
use Rattle.init_machine.specs.declared.service.ServiceDef.{ServiceDef}
use Rattle.rc_parse.specs.Kept.{is_named}
use Rattle.rc_parse.specs.declared.names.Names.{Names}

-- whether a name is one of these
abbrev pub knows : List (List ℕ) → List ℕ → Bool
knows names name = list_any (bytes_eq name) names

-- the names of these services
abbrev pub AreNamesOf : Names → List ServiceDef → Type 0
AreNamesOf names services = (name : List ℕ) → knows names.names name ≡ list_any (is_named name) services
