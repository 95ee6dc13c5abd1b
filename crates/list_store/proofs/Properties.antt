-- The properties that the entries of the store are: what a look-up finds, and what an insert does.
use Rattle.std.proofs.Common.{◌≡◌, ℕ, ◌+◌, ◌≤◌, length, true, false, List, [], ◌∷◌, Option, Some, None, cond, is_none, refl, sym, ap, ◌∙◌, subst, if◌then◌else◌}
use Rattle.std.specs.List.{flat_map}
use Rattle.init_base.specs.Value.{max_value_len}
use Rattle.init_machine.specs.internal.Nodes.{SameMembers, words_beyond}
use Rattle.init_machine.specs.Words.{prefixes_of, cell_words, need_of}
use Rattle.init_machine.proofs.Needs.{need_beyond, held_needs}
use Rattle.init_machine.proofs.Sets.{names-sizes, not_among, is_held_among}
use Rattle.list_store.proofs.Puts.{fits_found}
use Rattle.std.specs.Option.{option_map}
use Rattle.std.specs.Str.{bytes_eq}
use Rattle.std.specs.Map.{lookup}
use Rattle.indexmap.specs.IndexMap.{insert_entry}
use Rattle.list_store.specs.internal.Stored.{AreKnown, EachFits, properties, property_of}
use Rattle.init_machine.specs.Props.{lookup_in, put_in, is_absent, sizes_of}
use Rattle.init_machine.proofs.DistinctSums.{same_bytes, bytes_eq-sym}

abbrev Entry : Type 0
Entry = List ℕ × (List ℕ × ℕ)

pub lookup_property : (es : List Entry) (name : List ℕ)
    → lookup_in (properties es) name ≡ option_map (λ held. property_of (name, held)) (lookup (bytes_eq name) es)
lookup_property [] name = refl
lookup_property (e ∷ es) name =
    rw (bytes_eq-sym e.0 name) (elim (bytes_eq name e.0) as (λ b. bytes_eq name e.0 ≡ b → (if b then Some (property_of e) else lookup_in (properties es) name)
    ≡ option_map (λ held. property_of (name, held)) (cond b (Some e.1) (lookup (bytes_eq name) es))) [
      | true ↦ λ t. ap (λ n. Some (property_of (n, e.1))) (sym (same_bytes name e.0 t))
      | false ↦ λ f. lookup_property es name
    ] refl)

absent_mapped : (name : List ℕ) (found : Option (List ℕ × ℕ)) → is_absent (option_map (λ held. property_of (name, held)) found) ≡ is_none found
absent_mapped name None = refl
absent_mapped name (Some held) = refl

pub absent_property : (es : List Entry) (name : List ℕ) → is_absent (lookup_in (properties es) name) ≡ is_none (lookup (bytes_eq name) es)
absent_property es name = ap is_absent (lookup_property es name) ∙ absent_mapped name (lookup (bytes_eq name) es)

pub put_property : (es : List Entry) (name : List ℕ) (held : List ℕ × ℕ)
    → properties (insert_entry bytes_eq es name held) ≡ put_in (properties es) (property_of (name, held))
put_property [] name held = refl
put_property (e ∷ es) name held =
    rw (bytes_eq-sym e.0 name) (elim (bytes_eq name e.0) as (λ b. bytes_eq name e.0 ≡ b → properties (if b then (e.0, held) ∷ es else e ∷ insert_entry bytes_eq es name held)
    ≡ (if b then property_of (name, held) ∷ properties es else property_of e ∷ put_in (properties es) (property_of (name, held)))) [
      | true ↦ λ t. ap (λ n. property_of (n, held) ∷ properties es) (sym (same_bytes name e.0 t))
      | false ↦ λ f. ap (λ ps. property_of e ∷ ps) (put_property es name held)
    ] refl)

-- what a name needs that is absent, and one that is held
pub need_absent : (es : List Entry) (name : List ℕ) (len : ℕ) (known : List (List ℕ)) → is_absent (lookup_in (properties es) name) ≡ true → AreKnown known (properties es)
    → cell_words len + words_beyond known (prefixes_of name) ≡ need_of (sizes_of (properties es)) name len
need_absent es name len known absent same =
    need_beyond (sizes_of (properties es)) name len known (not_among (properties es) name absent)
    (subst (λ (ns : List (List ℕ)). SameMembers known (flat_map prefixes_of ns)) (sym (names-sizes (properties es))) same)

pub need_held : (es : List Entry) (name : List ℕ) (len : ℕ) → is_absent (lookup_in (properties es) name) ≡ false → 0 ≡ need_of (sizes_of (properties es)) name len
need_held es name len held = sym (held_needs (sizes_of (properties es)) name len (is_held_among (properties es) name held))

-- what is found fits its name
pub fits_entry : (es : List Entry) (name : List ℕ) (held : List ℕ × ℕ) → EachFits (properties es) → lookup (bytes_eq name) es ≡ Some held → length held.0 ≤ max_value_len name
fits_entry es name held fits is =
    fits_found (properties es) name (property_of (name, held)) fits (lookup_property es name ∙ ap (option_map (λ (h : List ℕ × ℕ). property_of (name, h))) is)
