-- A variable that is given a value.
use Rattle.std.proofs.Common.{◌≡◌, ℕ, true, false, List, [], ◌∷◌, refl, sym, ap, if◌then◌else◌}
use Rattle.std.specs.Str.{bytes_eq}
use Rattle.indexmap.specs.IndexMap.{insert_entry}
use Rattle.init_machine.specs.Pairs.{pair, with_variable}
use Rattle.init_machine.specs.declared.config.Pair.{Pair}
use Rattle.init_machine.proofs.DistinctSums.{same_bytes, bytes_eq-sym}
use Rattle.machine_parts.specs.Environment.{variable, variables}

pub with_inserted : (entries : List (List ℕ × List ℕ)) (name value : List ℕ) → variables (insert_entry bytes_eq entries name value) ≡ with_variable (variables entries) name value
with_inserted [] name value = refl
with_inserted (e ∷ es) name value =
    rw (bytes_eq-sym e.0 name) (elim (bytes_eq name e.0) as (λ b. bytes_eq name e.0 ≡ b → variables (if b then (e.0, value) ∷ es else e ∷ insert_entry bytes_eq es name value)
    ≡ (if b then pair name value ∷ variables es else variable e ∷ with_variable (variables es) name value)) [
      | true ↦ λ t. ap (λ (n : List ℕ). pair n value ∷ variables es) (sym (same_bytes name e.0 t))
      | false ↦ λ f. ap (λ (ps : List Pair). variable e ∷ ps) (with_inserted es name value)
    ] refl)
