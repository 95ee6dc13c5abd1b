-- A map of contexts as the list of its lines.
use Rattle.std.proofs.Common.{◌≡◌, ℕ, Bool, true, false, ◌||◌, not, cond, is_some, Option, Some, None, List, [], ◌∷◌, ◌++◌, map, refl, ap, sym, ◌∙◌, IsTrue}
use Rattle.std.specs.Map.{lookup}
use Rattle.indexmap.specs.IndexMap.{insert_entry}
use Rattle.std.specs.Str.{bytes_eq}
use Rattle.init_machine.specs.Policy.{ContextLine}
use Rattle.init_machine.specs.declared.policy.Context.{Context}
use Rattle.prop_contexts.specs.NameLines.{named, has_name}

abbrev pub entry_lines : List (List ℕ × Context) → List ContextLine
entry_lines entries = map (λ entry. named entry.0 entry.1) entries

pub looked_up : (entries : List (List ℕ × Context)) (name : List ℕ)
    → is_some (lookup (λ k. bytes_eq name k) entries) ≡ has_name (entry_lines entries) name
looked_up [] name = refl
looked_up (entry ∷ entries) name =
    elim (bytes_eq name entry.0) as (λ v. is_some (cond v (Some entry.1) (lookup (λ k. bytes_eq name k) entries)) ≡ (v || has_name (entry_lines entries) name)) [
      | true ↦ refl
      | false ↦ looked_up entries name
    ]

pub put_behind : (entries : List (List ℕ × Context)) (key : List ℕ) (context : Context) → lookup (λ k. bytes_eq key k) entries ≡ None
    → entry_lines (insert_entry (λ x y. bytes_eq x y) entries key context) ≡ entry_lines entries ++ named key context ∷ []
put_behind [] key context none = refl
put_behind (entry ∷ entries) key context none =
    let rest : List (List ℕ × Context) = insert_entry (λ x y. bytes_eq x y) entries key context in
    (elim (bytes_eq key entry.0) as (λ v. cond v (Some entry.1) (lookup (λ k. bytes_eq key k) entries) ≡ None
    → entry_lines (cond v ((entry.0, context) ∷ entries) (entry ∷ rest)) ≡ entry_lines (entry ∷ entries) ++ named key context ∷ []) [
      | true ↦ λ h. absurd (cc h)
      | false ↦ λ h. ap (λ lines. named entry.0 entry.1 ∷ lines) (put_behind entries key context h)
    ]) none

-- what `insert` tells of the name that it was given
pub put_fresh : (entries : List (List ℕ × Context)) (key : List ℕ) (old : Option Context) (fresh : Bool)
    → old ≡ lookup (λ k. bytes_eq key k) entries → is_some old ≡ not fresh → fresh ≡ not (has_name (entry_lines entries) key)
put_fresh entries key old true same none = ap not (sym none ∙ ap is_some same ∙ looked_up entries key)
put_fresh entries key old false same some = ap not (sym some ∙ ap is_some same ∙ looked_up entries key)

pub put_added : (entries new : List (List ℕ × Context)) (key : List ℕ) (context : Context) (old : Option Context) (fresh : Bool)
    → old ≡ lookup (λ k. bytes_eq key k) entries → is_some old ≡ not fresh
    → new ≡ insert_entry (λ x y. bytes_eq x y) entries key context → IsTrue fresh
    → entry_lines new ≡ entry_lines entries ++ named key context ∷ []
put_added entries new key context None fresh same none there added = ap entry_lines there ∙ put_behind entries key context (sym same)
put_added entries new key context (Some old) true same none there added = cc
put_added entries new key context (Some old) false same none there added = absurd (cc added)
