-- What a set keeps of the plain store: values that fit their names, the words in use, and the known prefixes.
use Rattle.std.proofs.Common.{◌≡◌, ℕ, ◌+◌, ◌≤◌, ◌<◌, ◌^◌, Bool, true, false, ◌&&◌, ◌||◌, nat_lt, List, [], ◌∷◌, ◌++◌, length, Option, Some, None, refl, sym, ap, ◌∙◌, subst, ⊎_elim, arith, if◌then◌else◌}
use Rattle.std.specs.List.{flat_map}
use Rattle.std.specs.Str.{bytes_eq}
use Rattle.std.proofs.lemmas.Bool.{cases_Bool}
use Rattle.std.proofs.lemmas.List.Concat.{flat_map-append}
use Rattle.init_base.specs.Name.{is_read_only}
use Rattle.init_base.specs.Value.{max_value_len}
use Rattle.init_machine.specs.internal.Nodes.{SameMembers}
use Rattle.init_machine.specs.Props.{Property, Props, lookup_in, put_in, names_of, sizes_of, is_absent, full_for, used_in, MayBeSet}
use Rattle.init_machine.specs.Words.{is_among, prefixes_of, used_of, need_of}
use Rattle.init_machine.specs.declared.store.Full.{Full}
use Rattle.init_machine.proofs.DistinctSums.{among-append, same_bytes}
use Rattle.init_machine.proofs.Needs.{held_needs}
use Rattle.init_machine.proofs.Sets.{is_held_among, names-put, short_cells, used_put_held, used_put_new}
use Rattle.list_store.specs.internal.Stored.{AreKnown, EachFits}

-- each value is legal under its name, as far as its length tells
pub fits_found : (xs : List Property) (name : List ℕ) (old : Property) → EachFits xs → lookup_in xs name ≡ Some old → length old.value ≤ max_value_len name
fits_found [] name old fits = λ there. absurd cc
fits_found (h ∷ rest) name old fits =
    elim (bytes_eq h.name name) as (λ b. bytes_eq h.name name ≡ b → (if b then Some h else lookup_in rest name) ≡ Some old → length old.value ≤ max_value_len name) [
      | true ↦ λ t there. let is : h ≡ old = cc in
          subst (λ (x : Property). length x.value ≤ max_value_len name) is (subst (λ (n : List ℕ). length h.value ≤ max_value_len n) (same_bytes h.name name t) fits.0)
      | false ↦ λ f there. fits_found rest name old fits.1 there
    ] refl

pub fits_put : (xs : List Property) (new : Property) → EachFits xs → length new.value ≤ max_value_len new.name → EachFits (put_in xs new)
fits_put [] new fits fit = (fit, tt)
fits_put (h ∷ rest) new fits fit =
    elim (bytes_eq h.name new.name) as (λ b. EachFits (if b then new ∷ rest else h ∷ put_in rest new)) [
      | true ↦ (fit, fits.1)
      | false ↦ (fits.0, fits_put rest new fits.1 fit)
    ]

plain_len : (name : List ℕ) → is_read_only name ≡ false → max_value_len name ≡ 91
plain_len name plain = ap (λ (b : Bool). if b then 8191 else 91) plain

found_in : (found : Option Property) → is_absent found ≡ false → (old : Property) × (found ≡ Some old)
found_in None held = absurd cc
found_in (Some h) held = (h, refl)

has_words : (a b : Bool) (full : Full) (rest : Option Full) → a ≡ true → (if a && b then Some full else rest) ≡ None → b ≡ false
has_words a b full rest is room =
    elim b as (λ t. (if a && t then Some full else rest) ≡ None → t ≡ false) [
      | true ↦ λ none. let now : (if true && true then Some full else rest) ≡ None = subst (λ x. (if x && true then Some full else rest) ≡ None) is none in absurd cc
      | false ↦ λ none. refl
    ] room

-- where there is room, the words in use after a set are a number of the machine
pub words_fit : (p : Props) (name : List ℕ) (len used words : ℕ) → full_for p name len ≡ None → used ≡ used_in p → words ≡ need_of (sizes_of p.held) name len
    → p.capacity < 2 ^ 64 → used < 2 ^ 64 → used + words < 2 ^ 64
words_fit p name len used words room is more small fits = ⊎_elim
    (λ (absent : is_absent (lookup_in p.held name) ≡ true).
    let inside = has_words (is_absent (lookup_in p.held name)) (nat_lt p.capacity (used_in p + need_of (sizes_of p.held) name len)) _ _ absent room in
    let low : used_in p + need_of (sizes_of p.held) name len ≤ p.capacity = grind (arith, inside) in
    omega arith)
    (λ (held : is_absent (lookup_in p.held name) ≡ false). let none = held_needs (sizes_of p.held) name len (is_held_among p.held name held) in omega arith)
    (cases_Bool (is_absent (lookup_in p.held name)))

-- the words in use after a set
pub counted_put : (used words : ℕ) (p : Props) (ys : List Property) (new : Property) → used ≡ used_of (sizes_of p.held) → ys ≡ put_in p.held new
    → EachFits p.held → length new.value ≤ max_value_len new.name → MayBeSet p new.name
    → words ≡ need_of (sizes_of p.held) new.name (length new.value) → used + words ≡ used_of (sizes_of ys)
counted_put used words p ys new was set fits fit once more =
    let now : used_of (sizes_of ys) ≡ used_of (sizes_of (put_in p.held new)) = ap (λ hs. used_of (sizes_of hs)) set in
    ⊎_elim
    (λ (absent : is_absent (lookup_in p.held new.name) ≡ true). let put = used_put_new p.held new absent in omega arith)
    (λ (held : is_absent (lookup_in p.held new.name) ≡ false).
    let old = found_in (lookup_in p.held new.name) held in
    let plain = plain_len new.name (once held) in
    let short = fits_found p.held new.name old.0 fits old.1 in
    let none = held_needs (sizes_of p.held) new.name (length new.value) (is_held_among p.held new.name held) in
    let put = used_put_held p.held new old.0 old.1 (short_cells (length old.0.value) (length new.value) (omega arith) (omega arith)) in
    omega arith)
    (cases_Bool (is_absent (lookup_in p.held new.name)))

or-behind : (a b : Bool) → (a || b) ≡ (b || (a || false))
or-behind true true = refl
or-behind true false = refl
or-behind false true = refl
or-behind false false = refl

with_last : (names known now : List (List ℕ)) (name : List ℕ) → SameMembers known (flat_map prefixes_of names) → SameMembers now (prefixes_of name ++ known)
    → SameMembers now (flat_map prefixes_of (names ++ name ∷ []))
with_last names known now name same more z =
    more z
    ∙ among-append (prefixes_of name) known z
    ∙ ap (λ b. is_among (prefixes_of name) z || b) (same z)
    ∙ or-behind (is_among (prefixes_of name) z) (is_among (flat_map prefixes_of names) z)
    ∙ ap (λ b. is_among (flat_map prefixes_of names) z || b) (sym (among-append (prefixes_of name) [] z))
    ∙ sym (among-append (flat_map prefixes_of names) (prefixes_of name ++ []) z)
    ∙ ap (λ ps. is_among ps z) (sym (flat_map-append prefixes_of names (name ∷ [])))

-- the known prefixes after a set of an absent name, and of a held one
pub known_with_new : (xs ys : List Property) (new : Property) (known now : List (List ℕ)) → is_absent (lookup_in xs new.name) ≡ true → ys ≡ put_in xs new
    → AreKnown known xs → SameMembers now (prefixes_of new.name ++ known) → AreKnown now ys
known_with_new xs ys new known now absent put same more z =
    with_last (names_of xs) known now new.name same more z
    ∙ ap (λ ns. is_among (flat_map prefixes_of ns) z) (sym (ap names_of put ∙ names-put xs new ∙ ap (λ b. if b then names_of xs ++ new.name ∷ [] else names_of xs) absent))

pub known_with_held : (xs ys : List Property) (new : Property) (known : List (List ℕ)) → is_absent (lookup_in xs new.name) ≡ false → ys ≡ put_in xs new
    → AreKnown known xs → AreKnown known ys
known_with_held xs ys new known held put same z =
    same z
    ∙ ap (λ ns. is_among (flat_map prefixes_of ns) z) (sym (ap names_of put ∙ names-put xs new ∙ ap (λ b. if b then names_of xs ++ new.name ∷ [] else names_of xs) held))
