-- Which services stay, where several have one name (AOSP, init's README, "Services", `override`).
use Rattle.std.specs.Prelude.{◌≡◌, ℕ, Bool, not, ◌&&◌, if◌then◌else◌, List, [], ◌∷◌, ◌++◌, filter}
use Rattle.std.specs.List.{list_any}
use Rattle.std.specs.Str.{bytes_eq}
use Rattle.init_machine.specs.declared.diagnostic.DiagKind.TheVariants.{ServiceAgain}
use Rattle.init_machine.specs.declared.diagnostic.Diagnostic.{Diagnostic}
use Rattle.init_machine.specs.declared.service.ServiceDef.{ServiceDef}
use Rattle.rc_parse.specs.Readings.{diagnostic}

abbrev pub is_named : List ℕ → ServiceDef → Bool
is_named name service = bytes_eq service.name name

-- a service that takes the place of those of this name before it
abbrev pub is_override_of : List ℕ → ServiceDef → Bool
is_override_of name service = is_named name service && service.overrides

-- whether no later service takes this one's place
abbrev pub is_not_overridden : List ServiceDef → ServiceDef → Bool
is_not_overridden later service = not (list_any (is_override_of service.name) later)

-- whether a service is a second one of its name, without `override`
abbrev pub is_again : List ServiceDef → ServiceDef → Bool
is_again before service = list_any (is_named service.name) before && not service.overrides

-- The services that stay of these, which were read behind others. Of one name that is the last one with `override`, or
-- else the first one. They stand in the order in which they were read.
abbrev pub kept_behind : List ServiceDef → List ServiceDef → List ServiceDef
kept_behind before [] = []
kept_behind before (service ∷ later) =
    if not (is_again before service) && is_not_overridden later service
    then service ∷ kept_behind (before ++ service ∷ []) later
    else kept_behind (before ++ service ∷ []) later

-- the services that stay of all that were read
abbrev pub kept : List ServiceDef → List ServiceDef
kept services = kept_behind [] services

-- the services that stay where later ones are read
abbrev pub not_overridden : List ServiceDef → List ServiceDef → List ServiceDef
not_overridden later services = filter (is_not_overridden later) services

-- the services that stay of some, and of others that are read behind them
abbrev pub merged : List ServiceDef → List ServiceDef → List ServiceDef
merged services later = not_overridden later services ++ kept_behind services later

-- the diagnostics of services that were read behind others
abbrev pub agains_behind : List ServiceDef → List ServiceDef → List Diagnostic
agains_behind before [] = []
agains_behind before (service ∷ later) =
    if is_again before service
    then diagnostic service.file service.line ServiceAgain ∷ agains_behind (before ++ service ∷ []) later
    else agains_behind (before ++ service ∷ []) later

-- the last of these services that has `override`, or else the first
abbrev pub chosen_behind : ServiceDef → List ServiceDef → ServiceDef
chosen_behind chosen [] = chosen
chosen_behind chosen (service ∷ later) = if service.overrides then chosen_behind service later else chosen_behind chosen later

abbrev pub chosen : List ServiceDef → List ServiceDef
chosen [] = []
chosen (service ∷ later) = chosen_behind service later ∷ []

-- Kept: all services that were read leave these, in the order in which they were read, and of each name one
pub record Kept (services : List ServiceDef) (kept_services : List ServiceDef) : Type 0 where
  pub kept_are : kept_services ≡ kept services
  pub one_of_a_name : (name : List ℕ) → filter (is_named name) kept_services ≡ chosen (filter (is_named name) services)
