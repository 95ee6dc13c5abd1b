-- The store that the sets mean: its count, its names, its words, and the last set of each name.
use Rattle.std.proofs.Common.{◌≡◌, ◌≢◌, ℕ, zero, suc, ◌+◌, ◌<◌, ◌≤◌, ◌⊎◌, List, [], ◌∷◌, ◌++◌, length, drop, Option, Some, None, Bool, true, false, not, nat_lt, ◌&&◌, ◌==◌, if◌then◌else◌, sym, refl, ap, ◌∙◌, subst, inl, inr, ⊎_elim, arith, ne_eqb, ◌^◌}
use Rattle.std.specs.Str.{bytes_eq}
use Rattle.std.proofs.lemmas.Bool.{cases_Bool}
use Rattle.std.proofs.lemmas.Slice.Eq.{bytes_eq-Decides}
use mathlib.Core.Logic.{dite}
use native.Mathlib.Decide.{dec_le}
use Rattle.std.specs.Prelude.{map, sum, filter}
use Rattle.std.proofs.lemmas.Bool.{cond-false}
use Rattle.std.proofs.lemmas.List.{append_assoc, append-nil}
use Rattle.atomic_table.proofs.Lists.{at_longer, at_last}
use Rattle.init_machine.specs.Sets.{Set, NoneBetween, LastSet}
use Rattle.init_machine.specs.Props.{Property, Props, lookup_in, put_in, is_absent, with_set, used_in, names_of as held_names, sizes_of as held_sizes, full_for, last_number, MayBeSet}
use Rattle.init_base.specs.Name.{is_read_only}
use Rattle.init_base.specs.Value.{max_value_len}
use Rattle.init_machine.specs.Words.{is_among, Sized, names_in, cell_words, nodes_of, node_words, prefixes_of, need_of}
use Rattle.init_machine.proofs.Needs.{held_needs, need_by_new_nodes}
use Rattle.init_machine.proofs.Sets.{names-put, names-sizes, absent-among, absent_takes, held_takes, number_left}
use Rattle.init_machine.specs.Room.{full_with}
use Rattle.init_machine.specs.declared.store.Full.{Full}
use Rattle.init_machine.specs.declared.store.Full.TheVariants.{Words, Numbers}
use Rattle.std.proofs.lemmas.Bool.Decides.{nat_tests}
use Rattle.atomic_table.specs.Seated.{TableId}
use Rattle.serial_value.specs.Cell.{HasShortCell}
use Rattle.serial_value.specs.Steps.{HasCell}
use Rattle.serial_value.specs.impl_laws.Places.{at_below}
use Rattle.serial_value.specs.impl_laws.Sets.{none_more, first_last, last_behind, last_once, last_at}
use Rattle.property_trie.specs.Parts.{parts_of}
use Rattle.property_trie.specs.Tree.{Trie, find, node_sizes, each_once_from, each_once}
use Rattle.property_trie.specs.TrieSteps.{sizes_of, tree_of}
use Rattle.property_trie.specs.Additions.{mark_of, new_place}
use Rattle.property_trie.proofs.Marks.{trie_is, need_parts}
use Rattle.property_trie.proofs.Lies.{cell_wide}
use Rattle.property_trie.proofs.Tries.{finds_its_names}
use Rattle.property_trie.proofs.Placed.{trie_more}
use Rattle.property_area.specs.Meaning.{props_from, props_of}
use Rattle.property_area.specs.impl_laws.Making.{name_eq, name_differs, same_or_other}
use Rattle.property_area.specs.Area.{SetsFit}
use Rattle.property_area.specs.Room.{some_need}
use Rattle.property_area.specs.impl_laws.Sets.{names_end, no_set}
use Rattle.property_area.specs.impl_laws.Trees.{trie_same}

-- a set more
pub props_more : (p : Props) (sets : List Set) (name value : List ℕ) → props_from p (sets ++ (name, value) ∷ []) ≡ with_set (props_from p sets) name value
props_more p [] name value = refl
props_more p (s ∷ sets) name value = props_more (with_set p s.0 s.1) sets name value

pub props_count : (p : Props) (sets : List Set) → (props_from p sets).count ≡ p.count + length sets
props_count p [] = omega arith
props_count p (s ∷ sets) = props_count (with_set p s.0 s.1) sets ∙ omega arith

pub props_capacity : (p : Props) (sets : List Set) → (props_from p sets).capacity ≡ p.capacity
props_capacity p [] = refl
props_capacity p (s ∷ sets) = props_capacity (with_set p s.0 s.1) sets

-- the names that are held are those of the sets, each once
props_names : (p : Props) (once : List Sized) (sets : List Set) → held_names p.held ≡ names_in once → held_names (props_from p sets).held ≡ names_in (each_once_from once (sizes_of sets))
props_names p once [] same = same
props_names p once (s ∷ sets) same =
    let new : Property = record { name = s.0; value = s.1; number = p.count + 1 } in
    let sized : Sized = (s.0, length s.1) in
    let next : List Sized = if is_among (names_in once) s.0 then once else once ++ sized ∷ [] in
    let put : held_names (put_in p.held new) ≡ names_in next =
    names-put p.held new
    ∙ (ap (λ (b : Bool). if b then held_names p.held ++ s.0 ∷ [] else held_names p.held) (absent-among p.held s.0 ∙ ap (λ (n : List (List ℕ)). not (is_among n s.0)) same)
    ∙ (ap (λ (names : List (List ℕ)). if not (is_among (names_in once) s.0) then names ++ s.0 ∷ [] else names) same
    ∙ turned (is_among (names_in once) s.0) once sized)) in
    props_names (with_set p s.0 s.1) next sets put
  where
    turned : (b : Bool) (once : List Sized) (s : Sized) → (if not b then names_in once ++ s.0 ∷ [] else names_in once) ≡ names_in (if b then once else once ++ s ∷ [])
    turned true once s = refl
    turned false once s = sym (names_end once s)

pub names_are : (words : ℕ) (sets : List Set) → held_names (props_of words sets).held ≡ names_in (each_once (sizes_of sets))
names_are words sets = props_names (record { held = []; count = 0; capacity = words }) [] sets refl

pub lookup-put : (held : List Property) (new : Property) (q : List ℕ) → lookup_in (put_in held new) q ≡ (if bytes_eq new.name q then Some new else lookup_in held q)
lookup-put [] new q = refl
lookup-put (h ∷ held) new q = ⊎_elim
    (λ (same : h.name ≡ new.name).
    let t : bytes_eq h.name new.name ≡ true = name_eq h.name new.name same in
    let o : bytes_eq h.name q ≡ bytes_eq new.name q = ap (λ (n : List ℕ). bytes_eq n q) same in
    ap (λ (b : Bool). lookup_in (if b then new ∷ held else h ∷ put_in held new) q) t
    ∙ sym (ap (λ (b : Bool). if bytes_eq new.name q then Some new else (if b then Some h else lookup_in held q)) o ∙ twice (bytes_eq new.name q) (Some new) (Some h) (lookup_in held q)))
    (λ (other : h.name ≢ new.name).
    let f : bytes_eq h.name new.name ≡ false = name_differs h.name new.name other in
    ap (λ (b : Bool). lookup_in (if b then new ∷ held else h ∷ put_in held new) q) f
    ∙ (ap (λ (o : Option Property). if bytes_eq h.name q then Some h else o) (lookup-put held new q)
    ∙ swaps h new q other))
    (same_or_other h.name new.name)
  where
    twice : (b : Bool) (x y z : Option Property) → (if b then x else (if b then y else z)) ≡ (if b then x else z)
    twice true x y z = refl
    twice false x y z = refl

    chosen : (b c : Bool) (h new : Property) (z : Option Property) → (b ≡ true → c ≡ false) → (if b then Some h else (if c then Some new else z)) ≡ (if c then Some new else (if b then Some h else z))
    chosen true c h new z e = let f = e refl in subst (λ (d : Bool). Some h ≡ (if d then Some new else Some h)) (sym f) refl
    chosen false true h new z e = refl
    chosen false false h new z e = refl

    swaps : (h new : Property) (q : List ℕ) → h.name ≢ new.name
        → (if bytes_eq h.name q then Some h else (if bytes_eq new.name q then Some new else lookup_in held q)) ≡ (if bytes_eq new.name q then Some new else (if bytes_eq h.name q then Some h else lookup_in held q))
    swaps h new q other = chosen (bytes_eq h.name q) (bytes_eq new.name q) h new (lookup_in held q)
        (λ t. name_differs new.name q (λ is. other ((bytes_eq-Decides h.name q).0 t ∙ sym is)))

-- what is held of a name: of its last set, or where it has none what was held before
LookedUp : Props → List Set → List ℕ → Type 0
LookedUp p sets name =
    (NoneBetween sets name 0 (length sets) × (lookup_in (props_from p sets).held name ≡ lookup_in p.held name))
    ⊎ ((number : ℕ) × (value : List ℕ) × LastSet sets (length sets) name number value
    × (lookup_in (props_from p sets).held name ≡ Some (record { name = name; value = value; number = p.count + number })))

looked_up : (p : Props) (sets : List Set) (name : List ℕ) → LookedUp p sets name
unfolding LookedUp
looked_up p [] name = inl ((λ k value above below e. omega arith), refl)
looked_up p (s ∷ sets) name =
    let new : Property = record { name = s.0; value = s.1; number = p.count + 1 } in
    let next = with_set p s.0 s.1 in
    ⊎_elim
    (λ (t : NoneBetween sets name 0 (length sets) × (lookup_in (props_from next sets).held name ≡ lookup_in (put_in p.held new) name)). ⊎_elim
    (λ (same : s.0 ≡ name). inr (
      1,
      s.1,
      first_last s sets name same t.0,
      t.1 ∙ (lookup-put p.held new name ∙ (ap (λ (b : Bool). if b then Some new else lookup_in p.held name) (name_eq s.0 name same)
          ∙ (λ i. Some (record { name = same i; value = s.1; number = p.count + 1 })))),
    ))
    (λ (other : s.0 ≢ name). inl (
      (λ k value above below. none_more s sets name (length sets) other t.0 k value above (omega arith)),
      t.1 ∙ (lookup-put p.held new name ∙ ap (λ (b : Bool). if b then Some new else lookup_in p.held name) (name_differs s.0 name other)),
    ))
    (same_or_other s.0 name))
    (λ (t : (number : ℕ) × (value : List ℕ) × LastSet sets (length sets) name number value
    × (lookup_in (props_from next sets).held name ≡ Some (record { name = name; value = value; number = p.count + 1 + number }))).
    let sum : p.count + 1 + t.0 ≡ p.count + (t.0 + 1) = omega arith in
    inr (
      t.0 + 1,
      t.1,
      last_behind s sets name t.0 t.1 t.2,
      t.3 ∙ (λ i. Some (record { name = name; value = t.1; number = sum i })),
    ))
    (looked_up next sets name)

-- a name that has a set
pub lookup_last : (words : ℕ) (sets : List Set) (name : List ℕ) (number : ℕ) (value : List ℕ) → LastSet sets (length sets) name number value
    → lookup_in (props_of words sets).held name ≡ Some (record { name = name; value = value; number = number })
unfolding LookedUp
lookup_last words sets name number value last =
    let p : Props = record { held = []; count = 0; capacity = words } in
    ⊎_elim
    (λ (t : NoneBetween sets name 0 (length sets) × (lookup_in (props_from p sets).held name ≡ None)).
    let on = last.numbered in let e = on.number_is in let early = last.early in absurd (t.0 on.place value (omega arith) (omega arith) on.set_is))
    (λ (t : (number' : ℕ) × (value' : List ℕ) × LastSet sets (length sets) name number' value'
    × (lookup_in (props_from p sets).held name ≡ Some (record { name = name; value = value'; number = 0 + number' }))).
    let same = last_once sets (length sets) name t.0 number t.1 value t.2 last in
    let plain : 0 + t.0 ≡ t.0 = omega arith in
    t.3 ∙ (λ i. Some (record { name = name; value = t.1; number = plain i })) ∙ (λ i. Some (record { name = name; value = same.1 i; number = same.0 i })))
    (looked_up p sets name)

-- a name that has none
pub lookup_none : (words : ℕ) (sets : List Set) (name : List ℕ) → find (tree_of sets) (parts_of name) ≡ 0 → lookup_in (props_of words sets).held name ≡ None
unfolding LookedUp
lookup_none words sets name none =
    let p : Props = record { held = []; count = 0; capacity = words } in
    ⊎_elim
    (λ (t : NoneBetween sets name 0 (length sets) × (lookup_in (props_from p sets).held name ≡ None)). t.1)
    (λ (t : (number' : ℕ) × (value' : List ℕ) × LastSet sets (length sets) name number' value'
    × (lookup_in (props_from p sets).held name ≡ Some (record { name = name; value = value'; number = 0 + number' }))).
    let on = t.2.numbered in let e = on.number_is in let early = t.2.early in
    absurd (no_set sets name (length sets) none on.place t.1 (omega arith) (omega arith) on.set_is))
    (looked_up p sets name)

-- a name is held where it has a cell
held_found : (words : ℕ) (sets : List Set) (name : List ℕ) → is_absent (lookup_in (props_of words sets).held name) ≡ not (is_among (names_in (each_once (sizes_of sets))) name)
held_found words sets name = absent-among (props_of words sets).held name ∙ ap (λ (n : List (List ℕ)). not (is_among n name)) (names_are words sets)

-- a name that isn't held has no cell, and one that is held has one
pub no_cell : (words : ℕ) (sets : List Set) (name : List ℕ) → lookup_in (props_of words sets).held name ≡ None → find (tree_of sets) (parts_of name) ≡ 0
no_cell words sets name none =
    (finds_its_names (sizes_of sets) name).1 (not_so (is_among (names_in (each_once (sizes_of sets))) name) (sym (held_found words sets name) ∙ ap is_absent none))
  where
    not_so : (b : Bool) → not b ≡ true → b ≡ false
    not_so true e = absurd (cc)
    not_so false e = refl

pub has_cell : (words : ℕ) (sets : List Set) (name : List ℕ) → is_absent (lookup_in (props_of words sets).held name) ≡ false → find (tree_of sets) (parts_of name) ≢ 0
has_cell words sets name held none = let absent = ap is_absent (lookup_none words sets name none) in absurd (cc)

-- the words that a name needs hang on the names alone
need_same : (words : ℕ) (sets : List Set) (name : List ℕ) (len : ℕ) → need_of (held_sizes (props_of words sets).held) name len ≡ need_of (each_once (sizes_of sets)) name len
need_same words sets name len =
    let held = (props_of words sets).held in
    let once : List Sized = each_once (sizes_of sets) in
    let names : names_in (held_sizes held) ≡ names_in once = names-sizes held ∙ names_are words sets in
    let among : is_among (names_in (held_sizes held)) name ≡ is_among (names_in once) name = ap (λ (n : List (List ℕ)). is_among n name) names in
    ⊎_elim
    (λ (there : is_among (names_in once) name ≡ true). held_needs (held_sizes held) name len (among ∙ there) ∙ sym (held_needs once name len there))
    (λ (absent : is_among (names_in once) name ≡ false).
    need_by_new_nodes (held_sizes held) name len (among ∙ absent)
    ∙ (ap (λ (n : List (List ℕ)). cell_words len + sum (map node_words (filter (λ prefix. not (is_among (nodes_of n) prefix)) (prefixes_of name)))) names
    ∙ sym (need_by_new_nodes once name len absent)))
    (cases_Bool (is_among (names_in once) name))

-- the words that a name needs which has no cell
need_is : (sets : List Set) (name : List ℕ) (len : ℕ) → is_among (names_in (each_once (sizes_of sets))) name ≡ false
    → mark_of sets + need_of (each_once (sizes_of sets)) name len ≡ new_place sets name + cell_words len
need_is sets name len absent =
    let need = need_parts (each_once (sizes_of sets)) name len absent in
    let deep = (trie_is (sizes_of sets)).depths name in
    let sizes = ap (λ (k : ℕ). node_sizes (drop k (parts_of name))) deep in
    omega arith

-- the first free word after a set
pub mark_added : (sets : List Set) (name value : List ℕ) → find (tree_of sets) (parts_of name) ≡ 0 → mark_of (sets ++ (name, value) ∷ []) ≡ new_place sets name + cell_words (length value)
mark_added sets name value none = ap (λ (t : Trie). t.mark) (trie_more sets name value none)

-- where a new cell comes to lie, there is room for it
pub new_cell_fits : (table : TableId) (sets : List Set) (name : List ℕ) (place len : ℕ) → table.words ≤ 1048576 → place ≡ new_place sets name
    → new_place sets name + cell_words len ≤ table.words → HasCell table place
new_cell_fits table sets name place len small is room =
    let above = (trie_is (sizes_of sets)).above in
    let wide = cell_wide len in
    (omega (arith, above, is), omega (arith, room, wide, is), omega (arith, room, small, is))

pub mark_kept : (sets : List Set) (name value : List ℕ) → find (tree_of sets) (parts_of name) ≢ 0 → mark_of (sets ++ (name, value) ∷ []) ≡ mark_of sets
mark_kept sets name value there = ap (λ (t : Trie). t.mark) (trie_same sets name value there)

-- what holds of some first sets, and of each set more, holds of all
by_sets : (P : List Set → Type 0) (front sets : List Set) → P front → ((some_sets : List Set) (set : Set) → P some_sets → P (some_sets ++ set ∷ [])) → P (front ++ sets)
by_sets P front [] p step = subst P (sym (append-nil front)) p
by_sets P front (s ∷ sets) p step = subst P (append_assoc front (s ∷ []) sets) (by_sets P (front ++ s ∷ []) sets (step front s p) step)

-- the sets before the last one
fit_front : (sets more : List Set) → SetsFit (sets ++ more) → SetsFit sets
fit_front sets more fit = record {
  fits = λ i set e. fit.fits i set (at_longer sets more i set e);
  once = λ i j name long other e e' many. fit.once i j name long other (at_longer sets more i (name, long) e) (at_longer sets more j (name, other) e') many;
}

module _ (words : ℕ) where
  UsesMark : List Set → Type 0
  UsesMark sets = SetsFit sets → used_in (props_of words sets) ≡ mark_of sets

  start : Props
  start = record { held = []; count = 0; capacity = words }

  -- a set of a name that is held, of which each value is short
  uses_held : (sets : List Set) (name value : List ℕ) (number : ℕ) (old : List ℕ) → SetsFit (sets ++ (name, value) ∷ []) → LastSet sets (length sets) name number old
      → used_in (props_of words sets) ≡ mark_of sets → used_in (props_of words (sets ++ (name, value) ∷ [])) ≡ mark_of (sets ++ (name, value) ∷ [])
  uses_held sets name value number old fit last same =
      let p = props_of words sets in
      let on = last.numbered in
      let there = at_longer sets ((name, value) ∷ []) on.place (name, old) on.set_is in
      let new = at_last sets (name, value) (length sets) refl in
      let below = at_below sets on.place (name, old) on.set_is in
      let short : length old ≤ 91 = dite (dec_le (length old) 91) (λ (s : length old ≤ 91). s) (λ long. let e = fit.once on.place (length sets) name old value there new (omega arith) in absurd (omega arith)) in
      let short' : length value ≤ 91 = dite (dec_le (length value) 91) (λ (s : length value ≤ 91). s) (λ long. let e = fit.once (length sets) on.place name value old new there (omega arith) in absurd (omega arith)) in
      let looked = lookup_last words sets name number old last in
      let some : find (tree_of sets) (parts_of name) ≢ 0 = λ none. let e = lookup_none words sets name none in absurd (cc) in
      ap used_in (props_more (record { held = []; count = 0; capacity = words }) sets name value)
      ∙ (held_takes p name value (record { name = name; value = old; number = number }) looked short short' ∙ (same ∙ sym (mark_kept sets name value some)))

  -- a set of a new name
  uses_new : (sets : List Set) (name value : List ℕ) → is_absent (lookup_in (props_of words sets).held name) ≡ true
      → used_in (props_of words sets) ≡ mark_of sets → used_in (props_of words (sets ++ (name, value) ∷ [])) ≡ mark_of (sets ++ (name, value) ∷ [])
  uses_new sets name value absent same =
      let p = props_of words sets in
      let among : is_among (names_in (each_once (sizes_of sets))) name ≡ false = not_true (is_among (names_in (each_once (sizes_of sets))) name) (sym absent ∙ held_found words sets name) in
      let none = (finds_its_names (sizes_of sets) name).1 among in
      let takes = absent_takes p name value absent in
      let need = need_same words sets name (length value) in
      let place = need_is sets name (length value) among in
      let added = mark_added sets name value none in
      ap used_in (props_more (record { held = []; count = 0; capacity = words }) sets name value) ∙ omega arith
    where
      not_true : (b : Bool) → true ≡ not b → b ≡ false
      not_true true e = absurd (cc)
      not_true false e = refl

  uses_more : (sets : List Set) (set : Set) → UsesMark sets → UsesMark (sets ++ set ∷ [])
  unfolding UsesMark LookedUp
  uses_more sets set before fit =
      let name = set.0 in
      let same = before (fit_front sets (set ∷ []) fit) in
      ⊎_elim
      (λ (t : NoneBetween sets name 0 (length sets) × (lookup_in (props_of words sets).held name ≡ None)). uses_new sets name set.1 (ap is_absent t.1) same)
      (λ (t : (number : ℕ) × (value : List ℕ) × LastSet sets (length sets) name number value
      × (lookup_in (props_of words sets).held name ≡ Some (record { name = name; value = value; number = 0 + number }))).
      uses_held sets name set.1 t.0 t.1 fit t.2 same)
      (looked_up (record { held = []; count = 0; capacity = words }) sets name)

  uses_none : UsesMark []
  unfolding UsesMark
  uses_none fit = sym (trie_is []).mark

  -- the words in use are the mark of the trie
  pub props_used : (sets : List Set) → SetsFit sets → used_in (props_of words sets) ≡ mark_of sets
  unfolding UsesMark
  props_used sets = by_sets UsesMark [] sets uses_none uses_more

-- whether there is room, by the words that the name needs
pub room_is : (words : ℕ) (sets : List Set) (name : List ℕ) (len : ℕ) → SetsFit sets
    → full_with (some_need (need_of (each_once (sizes_of sets)) name len)) (mark_of sets) words (length sets) ≡ full_for (props_of words sets) name len
room_is words sets name len fit =
    let p = props_of words sets in
    let q : Props = record { held = []; count = 0; capacity = words } in
    let count : p.count ≡ length sets = props_count q sets ∙ omega arith in
    let capacity : p.capacity ≡ words = props_capacity q sets in
    let used : used_in p ≡ mark_of sets = props_used words sets fit in
    let once : List Sized = each_once (sizes_of sets) in
    let need = need_same words sets name len in
    let absent = held_found words sets name in
    chosen (is_among (names_in once) name) (need_of once name len) (mark_of sets) words (length sets)
    (λ there. held_needs once name len there)
    (λ none. let n = need_parts once name len none in let wide = cell_wide len in omega arith)
    ∙ sym (λ i. if absent i && nat_lt (capacity i) (used i + need i) then Some (Words (used i) (need i)) else (if count i == last_number then Some (Numbers (count i)) else None))
  where
    chosen : (b : Bool) (need used capacity count : ℕ) → (b ≡ true → need ≡ 0) → (b ≡ false → 0 < need)
        → full_with (some_need need) used capacity count ≡ (if not b && nat_lt capacity (used + need) then Some (Words used need) else (if count == last_number then Some (Numbers count) else None))
    chosen true need used capacity count held new = ap (λ (n : ℕ). full_with (some_need n) used capacity count) (held refl)
    chosen false zero used capacity count held new = let n = new refl in absurd (omega arith)
    chosen false (suc need) used capacity count held new = refl

is_some : (n : ℕ) → n ≢ 0 → (n == 0) ≡ false
is_some n there = ne_eqb n 0 there

-- where there is room, a new name fits
pub room_fits : (words : ℕ) (sets : List Set) (name : List ℕ) (len : ℕ) → SetsFit sets → full_for (props_of words sets) name len ≡ None → find (tree_of sets) (parts_of name) ≡ 0
    → new_place sets name + cell_words len ≤ words
room_fits words sets name len fit room none =
    let p = props_of words sets in
    let q : Props = record { held = []; count = 0; capacity = words } in
    let absent = (finds_its_names (sizes_of sets) name).0 none in
    let place = need_is sets name len absent in
    let need = need_same words sets name len in
    let used = props_used words sets fit in
    let capacity = props_capacity q sets in
    let fits = fitting (nat_lt p.capacity (used_in p + need_of (held_sizes p.held) name len)) (Words (used_in p) (need_of (held_sizes p.held) name len)) (if p.count == last_number then Some (Numbers p.count) else None)
    (subst (λ (o : Option Property). (if is_absent o && nat_lt p.capacity (used_in p + need_of (held_sizes p.held) name len) then Some (Words (used_in p) (need_of (held_sizes p.held) name len)) else (if p.count == last_number then Some (Numbers p.count) else None)) ≡ None) (lookup_none words sets name none) room) in
    let within = not_past p.capacity (used_in p + need_of (held_sizes p.held) name len) fits in
    omega arith
  where
    fitting : (b : Bool) (full : Full) (other : Option Full) → (if true && b then Some full else other) ≡ None → b ≡ false
    fitting true full other e = absurd (cc)
    fitting false full other e = refl

    not_past : (a b : ℕ) → nat_lt a b ≡ false → b ≤ a
    not_past a b is = grind (arith, nat_tests)

-- where there is room, a number is left
pub room_number : (words : ℕ) (sets : List Set) (name : List ℕ) (len : ℕ) → full_for (props_of words sets) name len ≡ None → length sets < 2 ^ 55 → length sets + 1 < 2 ^ 55
room_number words sets name len room few =
    let q : Props = record { held = []; count = 0; capacity = words } in
    let count = props_count q sets in
    let left = number_left (props_of words sets) name len room (omega arith) in
    omega arith

-- a name that may be set has no cell, or a short one, since only a name that begins with `ro.` may have a long value
pub short_there : (words : ℕ) (sets : List Set) (name : List ℕ) → SetsFit sets → MayBeSet (props_of words sets) name → find (tree_of sets) (parts_of name) ≢ 0
    → (is_read_only name ≡ false) × HasShortCell sets name
short_there words sets name fit may there =
    let held : is_absent (lookup_in (props_of words sets).held name) ≡ false = held_found words sets name
    ∙ ap (λ (b : Bool). not b) (not_false (is_among (names_in (each_once (sizes_of sets))) name) (λ absent. there ((finds_its_names (sizes_of sets) name).1 absent))) in
    let plain = may held in
    let most : max_value_len name ≡ 91 = cond-false (is_read_only name) 8191 91 plain in (
      plain,
      λ value at.
          let last = last_at sets (length sets) (omega arith) name value at in
          let on = last.1.numbered in
          let fits = fit.fits on.place (name, value) on.set_is in
          omega arith,
    )
  where
    not_false : (b : Bool) → (b ≡ false → ⊥) → b ≡ true
    not_false true other = refl
    not_false false other = absurd (other refl)
