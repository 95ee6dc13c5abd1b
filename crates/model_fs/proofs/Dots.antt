-- A text without a dot has no part of dots.
use Rattle.std.proofs.Common.{◌≡◌, ℕ, Bool, true, false, cond, ◌||◌, ◌&&◌, ◌==◌, nat_lt, List, [], ◌∷◌, length, filter, refl, sym, ap, ◌∙◌}
use Rattle.std.specs.List.{list_any, onto_first, slice_split}
use Rattle.std.specs.Str.{bytes_eq}
use Rattle.init_machine.specs.FileTree.{is_dots, parts_of}
use Rattle.model_fs.proofs.Parts.{split_some}

abbrev has_dot : List ℕ → Bool
has_dot = list_any (λ byte. byte == 46)

neither : (a b : Bool) → (a || b) ≡ false → (a ≡ false) × (b ≡ false)
neither true b none = absurd (cc)
neither false b none = (refl, none)

-- no part has one
onto_none : (x : ℕ) (parts : List (List ℕ)) → (first : List ℕ) (rest : List (List ℕ)) → parts ≡ first ∷ rest → x == 46 ≡ false → list_any has_dot parts ≡ false
    → list_any has_dot (onto_first x parts) ≡ false
onto_none x parts first rest is other none =
    ap (λ ps. list_any has_dot (onto_first x ps)) is
    ∙ ap (λ b. (b || has_dot first) || list_any has_dot rest) other
    ∙ sym (ap (list_any has_dot) is) ∙ none

split_none : (text : List ℕ) → has_dot text ≡ false → list_any has_dot (slice_split (λ byte. byte == 47) text) ≡ false
split_none [] none = refl
split_none (x ∷ text) none =
    let both = neither (x == 46) (has_dot text) none in
    let rest = split_none text both.1 in
    let some = split_some (λ byte. byte == 47) text in
    elim (x == 47) as (λ b. list_any has_dot (cond b ([] ∷ slice_split (λ byte. byte == 47) text) (onto_first x (slice_split (λ byte. byte == 47) text))) ≡ false) [
      | true ↦ rest
      | false ↦ onto_none x (slice_split (λ byte. byte == 47) text) some.0 some.1 some.2 both.0 rest
    ]

part_none : (part : List ℕ) → has_dot part ≡ false → is_dots part ≡ false
part_none [] none = refl
part_none (x ∷ part) none =
    let other = (neither (x == 46) (has_dot part) none).0 in
    ap (λ b. (b && bytes_eq part []) || (b && bytes_eq part (46 ∷ []))) other

filter_none : (parts : List (List ℕ)) → list_any has_dot parts ≡ false → list_any is_dots (filter (λ part. nat_lt 0 (length part)) parts) ≡ false
filter_none [] none = refl
filter_none (part ∷ parts) none =
    let both = neither (has_dot part) (list_any has_dot parts) none in
    let rest = filter_none parts both.1 in
    elim (nat_lt 0 (length part)) as (λ b. list_any is_dots (cond b (part ∷ filter (λ part. nat_lt 0 (length part)) parts) (filter (λ part. nat_lt 0 (length part)) parts)) ≡ false) [
      | true ↦ ap (λ b. b || list_any is_dots (filter (λ part. nat_lt 0 (length part)) parts)) (part_none part both.0) ∙ rest
      | false ↦ rest
    ]

pub no_dots : (text : List ℕ) → list_any (λ byte. byte == 46) text ≡ false → list_any is_dots (parts_of text) ≡ false
no_dots text none = filter_none (slice_split (λ byte. byte == 47) text) (split_none text none)
