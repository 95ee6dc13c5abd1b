-- What was recorded of an opening gives the opening back; and who may ask by it.
use Rattle.std.proofs.Common.{◌≡◌, List, [], ◌∷◌, map, Option, Some, refl, ap}
use Rattle.init_core.specs.Core.{IsDeclared, without_saved}
use Rattle.init_machine.specs.Policy.{ContextLine}
use Rattle.init_machine.specs.State.{Opening}
use Rattle.init_machine.specs.declared.config.Config.{Config}
use Rattle.init_machine.specs.declared.input.Input.{Input}
use Rattle.init_machine.specs.declared.input.Input.TheVariants.{Boot, Next, Tick, Exit, File, Set}
use Rattle.property_area.specs.Readers.{asker_of, line_of}
use Rattle.property_area.specs.declared.view.LogOpening.{LogOpening}
use Rattle.property_service.specs.Record.{recorded, context_line, opening_in}
use Rattle.property_service.specs.Service.{IsNoSet, MayAsk}

lines_read : (lines : List ContextLine) → map context_line (map line_of lines) ≡ lines
lines_read [] = refl
lines_read (line ∷ lines) = ap (λ (rest : List ContextLine). line ∷ rest) (lines_read lines)

-- the opening that was recorded
pub opening_read : (o : Opening) → opening_in (Some (recorded o)) ≡ o
opening_read o = λ j. record {
  config = o.config;
  policy = record {
    default = o.policy.default;
    exact = lines_read o.policy.exact j;
    prefixes = lines_read o.policy.prefixes j;
    allows = o.policy.allows;
  };
  capacity = o.capacity;
}

pub may_declared : (o : Opening) (i : Input) → MayAsk (Some (recorded o)) i → IsDeclared o.config i
may_declared o Boot may = may
may_declared o Next may = may
may_declared o (Tick ms) may = may
may_declared o (Exit name status) may = may
may_declared o (File path content) may = may
may_declared o (Set who name value) may = may

pub declared_plain : (config : Config) (i : Input) → IsDeclared config i → IsDeclared (without_saved config) i
declared_plain config Boot declared = declared
declared_plain config Next declared = declared
declared_plain config (Tick ms) declared = declared
declared_plain config (Exit name status) declared = declared
declared_plain config (File path content) declared = declared
declared_plain config (Set who name value) declared = declared

pub no_set_may : (opening : Option LogOpening) (i : Input) → IsNoSet i → MayAsk opening i
no_set_may opening Boot none = none
no_set_may opening Next none = none
no_set_may opening (Tick ms) none = none
no_set_may opening (Exit name status) none = none
no_set_may opening (File path content) none = none
no_set_may opening (Set who name value) none = absurd none

pub no_set_asker : (i : Input) → IsNoSet i → asker_of i ≡ 0
no_set_asker Boot none = refl
no_set_asker Next none = refl
no_set_asker (Tick ms) none = refl
no_set_asker (Exit name status) none = refl
no_set_asker (File path content) none = refl
no_set_asker (Set who name value) none = absurd none
