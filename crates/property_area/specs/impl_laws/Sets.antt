-- The sets of a name, and the names of the trie.
use Rattle.std.proofs.Common.{◌≡◌, ◌≢◌, ℕ, zero, suc, ◌≤◌, List, [], ◌∷◌, ◌++◌, length, None, Bool, true, false, ◌||◌, sym, refl, ap, ◌∙◌, ⊎_elim, arith, length-append}
use Rattle.std.specs.Prelude.{if◌then◌else◌}
use Rattle.std.specs.Str.{bytes_eq}
use Rattle.std.proofs.lemmas.Bool.{cases_Bool}
use mathlib.Core.Option.{some, some-injective, some-ne-none}
use mathlib.Core.Logic.{dite}
use native.Mathlib.Decide.{dec_lt}
use lib.ListN.{get_elem?}
use Rattle.init_machine.specs.Words.{is_among, Sized, names_in}
use Rattle.init_machine.specs.Sets.{Set, NoneBetween, LastSet, value_at}
use Rattle.serial_value.specs.impl_laws.Places.{at_end, at_below, at_shorter}
use Rattle.serial_value.specs.impl_laws.Sets.{numbered_longer, at_no_set}
use Rattle.property_trie.specs.Parts.{parts_of}
use Rattle.property_trie.specs.Tree.{find, each_once_from, each_once}
use Rattle.property_trie.specs.TrieSteps.{sizes_of, tree_of}
use Rattle.property_trie.proofs.Tries.{finds_its_names}
use Rattle.property_area.specs.impl_laws.Making.{name_eq}

-- a set of one name is none of another's
pub others_none : (sets : List Set) (name value q : List ℕ) → q ≢ name → NoneBetween (sets ++ (name, value) ∷ []) q (length sets) (length (sets ++ (name, value) ∷ []))
others_none sets name value q other k v above below e = ⊎_elim
    (λ old. absurd (let b = at_below sets k (q, v) old in omega arith))
    (λ (t : (k ≡ length sets) × ((name, value) ≡ (q, v))). other (ap (λ (s : Set). s.0) (sym t.1)))
    (at_end sets (name, value) (q, v) k e)

-- the last set of a name stays the last one, where no other comes
pub last_longer : (sets more : List Set) (q : List ℕ) (number : ℕ) (value : List ℕ) → LastSet sets (length sets) q number value
    → NoneBetween (sets ++ more) q (length sets) (length (sets ++ more)) → LastSet (sets ++ more) (length (sets ++ more)) q number value
last_longer sets more q number value last none = record {
  numbered = numbered_longer sets more number q value last.numbered;
  early = let e = last.early in let l = length-append sets more in omega arith;
  last = λ k v above below e. dite (dec_lt k (length sets))
      (λ old. last.last k v above old (at_shorter sets more k (q, v) old e))
      (λ new. none k v (omega arith) below e);
}

among_append : (xs ys : List (List ℕ)) (name : List ℕ) → is_among xs name ≡ true → is_among (xs ++ ys) name ≡ true
among_append [] ys name is = absurd (cc)
among_append (x ∷ xs) ys name is = ⊎_elim
    (λ (same : bytes_eq x name ≡ true). ap (λ (b : Bool). b || is_among (xs ++ ys) name) same)
    (λ (other : bytes_eq x name ≡ false).
    ap (λ (b : Bool). b || is_among (xs ++ ys) name) other
    ∙ among_append xs ys name (ap (λ (b : Bool). b || is_among xs name) (sym other) ∙ is))
    (cases_Bool (bytes_eq x name))

among_last : (xs : List (List ℕ)) (name : List ℕ) → is_among (xs ++ name ∷ []) name ≡ true
among_last [] name = ap (λ (b : Bool). b || false) (name_eq name name refl)
among_last (x ∷ xs) name = ⊎_elim
    (λ (same : bytes_eq x name ≡ true). ap (λ (b : Bool). b || is_among (xs ++ name ∷ []) name) same)
    (λ (other : bytes_eq x name ≡ false). ap (λ (b : Bool). b || is_among (xs ++ name ∷ []) name) other ∙ among_last xs name)
    (cases_Bool (bytes_eq x name))

abbrev next : List Sized → Sized → Bool → List Sized
next held s b = if b then held else held ++ s ∷ []

pub names_end : (held : List Sized) (s : Sized) → names_in (held ++ s ∷ []) ≡ names_in held ++ s.0 ∷ []
names_end [] s = refl
names_end (h ∷ held) s = ap (λ (names : List (List ℕ)). h.0 ∷ names) (names_end held s)

among_stays : (held sized : List Sized) (name : List ℕ) → is_among (names_in held) name ≡ true → is_among (names_in (each_once_from held sized)) name ≡ true
among_stays held [] name is = is
among_stays held (s ∷ sized) name is = among_stays (next held s (is_among (names_in held) s.0)) sized name (⊎_elim
    (λ (t : is_among (names_in held) s.0 ≡ true). ap (λ (b : Bool). is_among (names_in (next held s b)) name) t ∙ is)
    (λ (f : is_among (names_in held) s.0 ≡ false).
    ap (λ (b : Bool). is_among (names_in (next held s b)) name) f
    ∙ (ap (λ (names : List (List ℕ)). is_among names name) (names_end held s) ∙ among_append (names_in held) (s.0 ∷ []) name is))
    (cases_Bool (is_among (names_in held) s.0)))

-- the name of a set is among the names
set_among : (held : List Sized) (sets : List Set) (k : ℕ) (name value : List ℕ) → get_elem? sets k ≡ some (name, value) → is_among (names_in (each_once_from held (sizes_of sets))) name ≡ true
set_among held [] k name value e = absurd (some-ne-none _ (sym e))
set_among held (s ∷ sets) zero name value e =
    let same : s.0 ≡ name = ap (λ (t : Set). t.0) (some-injective _ _ e) in
    let sized : Sized = (s.0, length s.1) in
    among_stays (next held sized (is_among (names_in held) s.0)) (sizes_of sets) name (⊎_elim
    (λ (t : is_among (names_in held) s.0 ≡ true). ap (λ (b : Bool). is_among (names_in (next held sized b)) name) t ∙ (ap (is_among (names_in held)) (sym same) ∙ t))
    (λ (f : is_among (names_in held) s.0 ≡ false).
    ap (λ (b : Bool). is_among (names_in (next held sized b)) name) f
    ∙ (ap (λ (names : List (List ℕ)). is_among names name) (names_end held sized)
    ∙ (ap (λ (n : List ℕ). is_among (names_in held ++ n ∷ []) name) same ∙ among_last (names_in held) name)))
    (cases_Bool (is_among (names_in held) s.0)))
set_among held (s ∷ sets) (suc k) name value e = set_among (next held (s.0, length s.1) (is_among (names_in held) s.0)) sets k name value e

-- a name that has no cell is in no set
pub no_set : (sets : List Set) (name : List ℕ) (count : ℕ) → find (tree_of sets) (parts_of name) ≡ 0 → NoneBetween sets name 0 count
no_set sets name count none k value above below e =
    let absent : is_among (names_in (each_once (sizes_of sets))) name ≡ false = (finds_its_names (sizes_of sets) name).0 none in
    let there : is_among (names_in (each_once (sizes_of sets))) name ≡ true = set_among [] sets k name value e in
    absurd (cc)

pub no_value : (sets : List Set) (name : List ℕ) (count : ℕ) → count ≤ length sets → find (tree_of sets) (parts_of name) ≡ 0 → value_at sets count name ≡ None
no_value sets name count within none = at_no_set sets count within name (no_set sets name count none)
