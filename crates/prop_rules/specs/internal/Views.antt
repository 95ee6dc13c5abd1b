-- A view that is made pair by pair from the last one on, with the names that are decided.
use Rattle.std.specs.Prelude.{◌≡◌, ℕ, ◌&&◌, if◌then◌else◌, List, is_some}
use Rattle.std.specs.List.{list_any}
use Rattle.std.specs.Str.{bytes_eq}
use Rattle.init_base.specs.Name.{is_legal_name}
use Rattle.init_base.specs.Value.{is_legal_value}
use Rattle.init_machine.specs.Props.{Props, value_in, with_set}
use Rattle.init_machine.specs.declared.config.Pair.{Pair}
use Rattle.prop_rules.specs.View.{last_pair, view}

-- the store and the names that are decided are those of the pairs that were taken
pub record Shows (decided : List (List ℕ)) (props : Props) (taken : List Pair) : Type 0 where
  pub names : (name : List ℕ) → list_any (bytes_eq name) decided ≡ is_some (last_pair taken name)
  pub values : (name : List ℕ) → value_in props name ≡ view taken name

-- the store with the property of a pair, where the pair is legal
abbrev pub with_legal : Props → Pair → Props
with_legal props p = if is_legal_name p.name && is_legal_value p.name p.value then with_set props p.name p.value else props
