-- What a set does to the names that are held, and to the words that they take.
use Rattle.std.proofs.Common.{◌≡◌, ℕ, ◌+◌, ◌/◌, ◌≤◌, Bool, true, false, not, ◌&&◌, ◌||◌, ◌==◌, nat_le, nat_lt, List, [], ◌∷◌, ◌++◌, length, Option, Some, None, refl, sym, ap, ◌∙◌, arith, if◌then◌else◌}
use Rattle.std.specs.Str.{bytes_eq}
use Rattle.init_machine.specs.Props.{Property, Props, lookup_in, put_in, names_of, sizes_of, is_absent, full_for, used_in, with_set, last_number}
use Rattle.init_machine.specs.declared.store.Full.{Full}
use Rattle.init_machine.specs.declared.store.Full.TheVariants.{Words, Numbers}
use Rattle.std.proofs.lemmas.Bool.{eqb-false}
use Rattle.init_machine.specs.Words.{is_among, node_words, nodes_of, names_in, cell_words, cells_of, used_of, need_of}
use Rattle.init_machine.proofs.DistinctSums.{same_bytes, total}
use Rattle.init_machine.proofs.Needs.{used-total, used_end}

inside : (b : Bool) (n : List ℕ) (xs ys : List (List ℕ)) → n ∷ (if b then xs else ys) ≡ (if b then n ∷ xs else n ∷ ys)
inside true n xs ys = refl
inside false n xs ys = refl

-- a set of a held name keeps the names, and one of an absent name adds it at the end
pub names-put : (xs : List Property) (new : Property) → names_of (put_in xs new) ≡ (if is_absent (lookup_in xs new.name) then names_of xs ++ new.name ∷ [] else names_of xs)
names-put [] new = refl
names-put (h ∷ rest) new =
    elim (bytes_eq h.name new.name) as (λ b. bytes_eq h.name new.name ≡ b → names_of (if b then new ∷ rest else h ∷ put_in rest new)
    ≡ (if is_absent (if b then Some h else lookup_in rest new.name) then h.name ∷ names_of rest ++ new.name ∷ [] else h.name ∷ names_of rest)) [
      | true ↦ λ t. ap (λ n. n ∷ names_of rest) (sym (same_bytes h.name new.name t))
      | false ↦ λ f. ap (λ ns. h.name ∷ ns) (names-put rest new) ∙ inside (is_absent (lookup_in rest new.name)) h.name (names_of rest ++ new.name ∷ []) (names_of rest)
    ] refl

pub names-sizes : (xs : List Property) → names_in (sizes_of xs) ≡ names_of xs
names-sizes [] = refl
names-sizes (h ∷ rest) = ap (λ ns. h.name ∷ ns) (names-sizes rest)

absent_or : (b : Bool) (h : Property) (found : Option Property) → is_absent (if b then Some h else found) ≡ (not b && is_absent found)
absent_or true h found = refl
absent_or false h found = refl

not-or : (a b : Bool) → not (a || b) ≡ (not a && not b)
not-or true b = refl
not-or false b = refl

-- a name is absent exactly where it isn't among the names
pub absent-among : (xs : List Property) (name : List ℕ) → is_absent (lookup_in xs name) ≡ not (is_among (names_of xs) name)
absent-among [] name = refl
absent-among (h ∷ rest) name =
    absent_or (bytes_eq h.name name) h (lookup_in rest name)
    ∙ ap (λ b. not (bytes_eq h.name name) && b) (absent-among rest name)
    ∙ sym (not-or (bytes_eq h.name name) (is_among (names_of rest) name))

among-by : (b : Bool) → not b ≡ true → b ≡ false
among-by true e = absurd cc
among-by false e = refl

among-held : (b : Bool) → not b ≡ false → b ≡ true
among-held true e = refl
among-held false e = absurd cc

pub not_among : (xs : List Property) (name : List ℕ) → is_absent (lookup_in xs name) ≡ true → is_among (names_in (sizes_of xs)) name ≡ false
not_among xs name absent = ap (λ ns. is_among ns name) (names-sizes xs) ∙ among-by (is_among (names_of xs) name) (sym (absent-among xs name) ∙ absent)

pub is_held_among : (xs : List Property) (name : List ℕ) → is_absent (lookup_in xs name) ≡ false → is_among (names_in (sizes_of xs)) name ≡ true
is_held_among xs name held = ap (λ ns. is_among ns name) (names-sizes xs) ∙ among-held (is_among (names_of xs) name) (sym (absent-among xs name) ∙ held)

-- a set of an absent name adds it at the end, with its length
sizes-put : (xs : List Property) (new : Property) → is_absent (lookup_in xs new.name) ≡ true → sizes_of (put_in xs new) ≡ sizes_of xs ++ (new.name, length new.value) ∷ []
sizes-put [] new = λ absent. refl
sizes-put (h ∷ rest) new =
    elim (bytes_eq h.name new.name) as (λ b. is_absent (if b then Some h else lookup_in rest new.name) ≡ true
    → sizes_of (if b then new ∷ rest else h ∷ put_in rest new) ≡ (h.name, length h.value) ∷ sizes_of rest ++ (new.name, length new.value) ∷ []) [
      | true ↦ λ absent. absurd cc
      | false ↦ λ absent. ap (λ ss. (h.name, length h.value) ∷ ss) (sizes-put rest new absent)
    ]

-- where the old value's cell has as many words, the cells stay
cells-put : (xs : List Property) (new old : Property) → lookup_in xs new.name ≡ Some old → cell_words (length old.value) ≡ cell_words (length new.value)
    → cells_of (sizes_of (put_in xs new)) ≡ cells_of (sizes_of xs)
cells-put [] new old = λ there same. absurd cc
cells-put (h ∷ rest) new old =
    elim (bytes_eq h.name new.name) as (λ b. (if b then Some h else lookup_in rest new.name) ≡ Some old → cell_words (length old.value) ≡ cell_words (length new.value)
    → cells_of (sizes_of (if b then new ∷ rest else h ∷ put_in rest new)) ≡ cells_of (sizes_of (h ∷ rest))) [
      | true ↦ λ there same. let is : h ≡ old = cc in ap (λ n. n + cells_of (sizes_of rest)) (sym same ∙ ap (λ (p : Property). cell_words (length p.value)) (sym is))
      | false ↦ λ there same. ap (λ n. cell_words (length h.value) + n) (cells-put rest new old there same)
    ]

-- a set of an absent name takes the words that it needs
pub used_put_new : (xs : List Property) (new : Property) → is_absent (lookup_in xs new.name) ≡ true
    → used_of (sizes_of (put_in xs new)) ≡ used_of (sizes_of xs) + need_of (sizes_of xs) new.name (length new.value)
used_put_new xs new absent =
    ap (λ ss. used_of ss) (sizes-put xs new absent) ∙ used_end (sizes_of xs) new.name (length new.value) (not_among xs new.name absent)

absent_of : (found : Option Property) (old : Property) → found ≡ Some old → is_absent found ≡ false
absent_of None old there = absurd cc
absent_of (Some h) old there = refl

-- and one of a held name takes none, where the old value's cell has as many words
pub used_put_held : (xs : List Property) (new old : Property) → lookup_in xs new.name ≡ Some old → cell_words (length old.value) ≡ cell_words (length new.value)
    → used_of (sizes_of (put_in xs new)) ≡ used_of (sizes_of xs)
used_put_held xs new old there same =
    let names : names_in (sizes_of (put_in xs new)) ≡ names_in (sizes_of xs) = names-sizes (put_in xs new) ∙ names-put xs new
    ∙ ap (λ (b : Bool). if b then names_of xs ++ new.name ∷ [] else names_of xs) (absent_of (lookup_in xs new.name) old there) ∙ sym (names-sizes xs) in
    let cells = cells-put xs new old there same in
    used-total (sizes_of (put_in xs new)) ∙ ap (λ ns. 16 + total node_words (nodes_of ns) + cells_of (sizes_of (put_in xs new))) names
    ∙ ap (λ n. 16 + total node_words (nodes_of (names_in (sizes_of xs))) + n) cells ∙ sym (used-total (sizes_of xs))

pub short_cell : (len : ℕ) → len ≤ 91 → cell_words len ≡ 13
short_cell len short = let is : nat_le len 91 ≡ true = grind (arith, short) in ap (λ (b : Bool). if b then 13 else 2 + (len + 7) / 8) is

pub short_cells : (len other : ℕ) → len ≤ 91 → other ≤ 91 → cell_words len ≡ cell_words other
short_cells len other short short' = short_cell len short ∙ sym (short_cell other short')

left_after : (b : Bool) (full : Full) (count : ℕ) → (if b then Some full else (if count == last_number then Some (Numbers count) else None)) ≡ None
    → count ≤ last_number → count + 1 ≤ last_number
left_after true full count room within = absurd cc
left_after false full count room within =
    elim (count == last_number) as (λ t. (count == last_number) ≡ t → (if t then Some (Numbers count) else None) ≡ None → count + 1 ≤ last_number) [
      | true ↦ λ t none. absurd cc
      | false ↦ λ f none. let other : count ≡ last_number → ⊥ = eqb-false count last_number f in omega arith
    ] refl room

-- where there is room for a set, a number is left for it
pub number_left : (p : Props) (name : List ℕ) (len : ℕ) → full_for p name len ≡ None → p.count ≤ last_number → p.count + 1 ≤ last_number
number_left p name len room within =
    left_after (is_absent (lookup_in p.held name) && nat_lt p.capacity (used_in p + need_of (sizes_of p.held) name len))
    (Words (used_in p) (need_of (sizes_of p.held) name len)) p.count room within

pub absent_takes : (p : Props) (name value : List ℕ) → is_absent (lookup_in p.held name) ≡ true
    → used_in (with_set p name value) ≡ used_in p + need_of (sizes_of p.held) name (length value)
absent_takes p name value absent = used_put_new p.held (record { name = name; value = value; number = p.count + 1 }) absent

pub held_takes : (p : Props) (name value : List ℕ) (old : Property) → lookup_in p.held name ≡ Some old → length old.value ≤ 91 → length value ≤ 91
    → used_in (with_set p name value) ≡ used_in p
held_takes p name value old there short short' =
    used_put_held p.held (record { name = name; value = value; number = p.count + 1 }) old there (short_cells (length old.value) (length value) short short')
