-- The fronts of a name, and the parts behind them.
use Rattle.std.proofs.Common.{◌≡◌, ◌≢◌, ℕ, zero, suc, ◌+◌, ◌<◌, ◌≤◌, Bool, true, false, ◌==◌, List, [], ◌∷◌, ◌++◌, take, drop, length, Option, Some, None, not, cond, ◌⊎◌, inl, inr, ⊎_elim, sym, refl, ap, ◌∙◌, subst, arith, if◌then◌else◌}
use Rattle.std.specs.Prelude.{slice_index}
use Rattle.std.proofs.Common.{eq-eqb}
use Rattle.std.proofs.lemmas.List.{take-take, drop-take, length-drop, length-take-le, get_or-take}
use Rattle.std.specs.Option.{unwrap_or}
use Rattle.std.specs.Str.{bytes_eq}
use Rattle.std.proofs.lemmas.Bool.{cases_Bool}
use Rattle.std.proofs.lemmas.Slice.Eq.{bytes_eq-Decides}
use Rattle.property_trie.specs.Parts.{onto_first, parts_of, parts_behind}
use Rattle.property_trie.specs.Levels.{front_of, front_parts, BeginsPart}
use Rattle.property_trie.proofs.Names.{HasFirstPart, first_part, same_name}
use Rattle.property_trie.proofs.PartsLeft.{dot_at, part_to_dot}

abbrev Parts : Type 0
Parts = List (List ℕ)

onto_append : (b : ℕ) (ps qs : Parts) → HasFirstPart ps → onto_first b (ps ++ qs) ≡ onto_first b ps ++ qs
onto_append b ps qs f = subst (λ (x : Parts). onto_first b (x ++ qs) ≡ onto_first b x ++ qs) (sym f.2) refl

-- a dot parts a text
pub split_at : (text : List ℕ) (n : ℕ) → n < length text → slice_index text n ≡ 46 → parts_of text ≡ parts_of (take n text) ++ parts_of (drop (suc n) text)
split_at [] n low dot = absurd (omega (arith, low))
split_at (b ∷ rest) zero low dot = ap (λ (t : Bool). if t then [] ∷ parts_of rest else onto_first b (parts_of rest)) (eq-eqb b 46 dot)
split_at (b ∷ rest) (suc n) low dot =
    let more = split_at rest n (omega (arith, low)) dot in
    elim (b == 46) as (λ t. (if t then [] ∷ parts_of rest else onto_first b (parts_of rest))
    ≡ (if t then [] ∷ parts_of (take n rest) else onto_first b (parts_of (take n rest))) ++ parts_of (drop (suc n) rest)) [
      | true ↦ ap (λ (ps : Parts). [] ∷ ps) more
      | false ↦ ap (onto_first b) more ∙ onto_append b (parts_of (take n rest)) (parts_of (drop (suc n) rest)) (first_part (take n rest))
    ]

-- the parts of a name are those of a front and those behind it
pub parts_at : (name : List ℕ) (from : ℕ) → from ≤ length name → BeginsPart name from → parts_of name ≡ front_parts (front_of from name) ++ parts_of (drop from name)
parts_at name zero within begins = refl
parts_at name (suc n) within begins = split_at name n (omega (arith, within)) begins

no_parts : (front : List ℕ) → parts_of front ≡ [] → ⊥
no_parts front e = let f = first_part front in let g = sym f.2 ∙ e in cc

-- fronts are told by their parts
pub same_front : (a b : Option (List ℕ)) → front_parts a ≡ front_parts b → a ≡ b
same_front None None e = refl
same_front None (Some b) e = absurd (no_parts b (sym e))
same_front (Some a) None e = absurd (no_parts a e)
same_front (Some a) (Some b) e = ap Some (same_name a b e)

-- a text up to its first dot is one part
one_part : (rest : List ℕ) → parts_of (take (dot_at rest) rest) ≡ take (dot_at rest) rest ∷ []
one_part [] = refl
one_part (b ∷ rest) =
    let d : ℕ = dot_at rest in
    elim (b == 46) as (λ t. (b == 46) ≡ t → parts_of (take (cond (not t) (1 + d) 0) (b ∷ rest)) ≡ take (cond (not t) (1 + d) 0) (b ∷ rest) ∷ []) [
      | true ↦ λ e. refl
      | false ↦ λ e.
          let one : suc d ≡ 1 + d = omega arith in
          subst (λ (k : ℕ). parts_of (take k (b ∷ rest)) ≡ take k (b ∷ rest) ∷ []) one
          (ap (λ (t : Bool). if t then [] ∷ parts_of (take d rest) else onto_first b (parts_of (take d rest))) e ∙ ap (onto_first b) (one_part rest))
    ] refl

first_of_parts : (p q : List ℕ) (ps qs : Parts) → p ∷ ps ≡ q ∷ qs → p ≡ q
first_of_parts p q ps qs e = cc

-- the first part of a text is one part
pub first_alone : (rest : List ℕ) (n : ℕ) (qs : Parts) → n ≤ length rest → parts_of rest ≡ take n rest ∷ qs → parts_of (take n rest) ≡ take n rest ∷ []
first_alone rest n qs within is =
    let first : take (dot_at rest) rest ≡ take n rest = first_of_parts (take (dot_at rest) rest) (take n rest) (parts_behind (dot_at rest) rest) qs (sym (part_to_dot rest (dot_at rest) refl) ∙ is) in
    subst (λ (x : List ℕ). parts_of x ≡ x ∷ []) first (one_part rest)

-- with the part that begins there the front is longer by it
pub next_front : (name : List ℕ) (from n : ℕ) (qs : Parts) → from + n ≤ length name → BeginsPart name from → parts_of (drop from name) ≡ take n (drop from name) ∷ qs
    → parts_of (take (from + n) name) ≡ front_parts (front_of from name) ++ take n (drop from name) ∷ []
next_front name zero n qs within begins is =
    let here : n ≡ 0 + n = omega arith in
    subst (λ (k : ℕ). parts_of (take k name) ≡ take n name ∷ []) here (first_alone name n qs (omega (arith, within)) is)
next_front name (suc k) n qs within begins is =
    let long = length-take-le (suc k + n) name within in
    let dot : slice_index (take (suc k + n) name) k ≡ 46 = get_or-take (suc k + n) name k 0 (omega arith) ∙ begins in
    let parted = split_at (take (suc k + n) name) k (omega (arith, long)) dot in
    let front : take k (take (suc k + n) name) ≡ take k name = take-take k (suc k + n) name (omega arith) in
    let behind : drop (suc k) (take (suc k + n) name) ≡ take n (drop (suc k) name) = drop-take (suc k) n name in
    let room = length-drop (suc k) name in
    parted ∙ (λ i. parts_of (front i) ++ parts_of (behind i))
    ∙ ap (λ (ps : Parts). parts_of (take k name) ++ ps) (first_alone (drop (suc k) name) n qs (omega (arith, room, within)) is)

-- fronts are one or two
pub one_or_two : (a b : Option (List ℕ)) → (a ≡ b) ⊎ (a ≢ b)
one_or_two None None = inl refl
one_or_two None (Some b) = inr (λ e. cc)
one_or_two (Some a) None = inr (λ e. cc)
one_or_two (Some a) (Some b) = ⊎_elim
    (λ (same : bytes_eq a b ≡ true). inl (ap Some ((bytes_eq-Decides a b).0 same)))
    (λ (other : bytes_eq a b ≡ false). inr (λ e. let same = (bytes_eq-Decides a b).1 (ap (λ (o : Option (List ℕ)). unwrap_or o a) e) in absurd (cc)))
    (cases_Bool (bytes_eq a b))
