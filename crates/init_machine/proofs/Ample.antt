-- Where words are left for any name, only the numbers of sets can be used up.
use Rattle.std.proofs.Common.{◌≡◌, ℕ, suc, ◌+◌, ◌*◌, ◌≤◌, Bool, true, false, not, ◌&&◌, ◌==◌, nat_lt, List, [], ◌∷◌, ◌++◌, length, Option, Some, refl, ap, ◌∙◌, ⊎_elim, arith, length-append, if◌then◌else◌}
use Rattle.std.proofs.lemmas.Bool.{cases_Bool}
use Rattle.std.specs.List.{flat_map}
use Rattle.init_machine.specs.internal.Nodes.{words_beyond}
use Rattle.init_machine.specs.Room.{numbers_full}
use Rattle.init_machine.specs.Props.{Props, full_for, is_absent, lookup_in, sizes_of, used_in}
use Rattle.init_machine.specs.declared.store.Full.{Full}
use Rattle.init_machine.specs.declared.store.Full.TheVariants.{Words}
use Rattle.init_machine.specs.Words.{is_among, last_part_from, Sized, names_in, cell_words, need_of, node_words, prefixes_from, prefixes_of}
use Rattle.init_machine.proofs.Needs.{need_beyond, held_needs}

part_within : (n : ℕ) (name : List ℕ) → last_part_from n name ≤ n + length name
part_within n [] = omega arith
part_within n (b ∷ rest) =
    let at_dot = part_within 0 rest in
    let past = part_within (n + 1) rest in
    elim (b == 46) as (λ dot. (if dot then last_part_from 0 rest else last_part_from (n + 1) rest) ≤ n + suc (length rest)) [
      | true ↦ omega (arith, at_dot)
      | false ↦ omega (arith, past)
    ]

node_within : (known : Bool) (prefix : List ℕ) → length prefix ≤ 255 → (if known then 0 else node_words prefix) ≤ 37
node_within true prefix short = omega arith
node_within false prefix short = let part = part_within 0 prefix in omega (arith, part, short)

beyond_within : (known : List (List ℕ)) (front rest : List ℕ) → length front + length rest ≤ 255
    → words_beyond known (prefixes_from front rest) ≤ 37 * (1 + length rest)
beyond_within known front [] short =
    let node = node_within (is_among known front) front (omega (arith, short)) in
    omega (arith, node)
beyond_within known front (b ∷ rest) short =
    let node = node_within (is_among known front) front (omega (arith, short)) in
    let longer = beyond_within known (front ++ b ∷ []) rest (omega (arith, short, length-append front (b ∷ []))) in
    elim (b == 46) as (λ dot. words_beyond known (if dot then front ∷ prefixes_from (front ++ b ∷ []) rest else prefixes_from (front ++ b ∷ []) rest) ≤ 37 * (1 + suc (length rest))) [
      | true ↦ omega (arith, node, longer)
      | false ↦ omega (arith, longer)
    ]

need_within : (sized : List Sized) (name : List ℕ) (len : ℕ) → length name ≤ 255 → need_of sized name len ≤ 9472 + cell_words len
need_within sized name len short = ⊎_elim
    (λ (held : is_among (names_in sized) name ≡ true). let none = held_needs sized name len held in omega (arith, none))
    (λ (absent : is_among (names_in sized) name ≡ false).
    let need = need_beyond sized name len (flat_map prefixes_of (names_in sized)) absent (λ z. refl) in
    let beyond = beyond_within (flat_map prefixes_of (names_in sized)) [] name (omega (arith, short)) in
    omega (arith, need, beyond, short))
    (cases_Bool (is_among (names_in sized) name))

-- with so many words left, a set has room while there are numbers
pub room_for_any : (p : Props) (used : ℕ) (name : List ℕ) (len : ℕ) → length name ≤ 255 → used ≡ used_in p
    → not (nat_lt p.capacity (used + (9472 + cell_words len))) ≡ true → full_for p name len ≡ numbers_full p.count
room_for_any p used name len short is left =
    let need = need_within (sizes_of p.held) name len short in
    let fits : nat_lt p.capacity (used_in p + need_of (sizes_of p.held) name len) ≡ false = grind (arith, need, left, is) in
    let full : Option Full = Some (Words (used_in p) (need_of (sizes_of p.held) name len)) in
    ap (λ b. if is_absent (lookup_in p.held name) && b then full else numbers_full p.count) fits
    ∙ elim (is_absent (lookup_in p.held name)) as (λ b. (if b && false then full else numbers_full p.count) ≡ numbers_full p.count) [
      | true ↦ refl
      | false ↦ refl
    ]
