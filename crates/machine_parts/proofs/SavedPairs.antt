-- Pairs that are put in their places, or taken away.
use Rattle.std.proofs.Common.{◌≡◌, ℕ, ◌+◌, Bool, true, false, not, ◌&&◌, ◌||◌, cond, List, [], ◌∷◌, set, Some, Result, Ok, Err, OnOk, OnErr, refl, sym, ap, ◌∙◌, slice_get, if◌then◌else◌}
use Rattle.std.proofs.Math.Numerals.{one-add}
use Rattle.std.proofs.lemmas.Bool.{and_parts, and_from}
use Rattle.std.specs.List.{insert, list_all, position_or_len}
use Rattle.std.specs.Str.{bytes_eq}
use Rattle.init_machine.specs.Pairs.{is_before, pair, with_saved, without_name}
use Rattle.init_machine.specs.Setting.{is_persistent}
use Rattle.init_machine.specs.declared.config.Pair.{Pair}

-- whether a pair has a name, or one that the name is before
abbrev pub is_not_before : List ℕ → Pair → Bool
is_not_before name p = bytes_eq p.name name || is_before name p.name

-- the place of the first such pair
abbrev pub place : List ℕ → List Pair → ℕ
place name pairs = position_or_len (is_not_before name) pairs

-- the pair that stands there has the name
pub replaced : (pairs : List Pair) (name value : List ℕ) (held : Pair) → slice_get pairs (place name pairs) ≡ Some held → bytes_eq held.name name ≡ true
    → set pairs (place name pairs) (pair name value) ≡ with_saved pairs name value
replaced [] name value held at same = absurd (cc)
replaced (p ∷ rest) name value held at same = by (bytes_eq p.name name) (is_before name p.name) refl (replaced rest name value held) at
  where
    by : (has before : Bool) → bytes_eq p.name name ≡ has
        → (slice_get rest (place name rest) ≡ Some held → bytes_eq held.name name ≡ true → set rest (place name rest) (pair name value) ≡ with_saved rest name value)
        → slice_get (p ∷ rest) (cond (not (has || before)) (1 + place name rest) 0) ≡ Some held
        → set (p ∷ rest) (cond (not (has || before)) (1 + place name rest) 0) (pair name value)
        ≡ (if has then pair name value ∷ rest else (if before then pair name value ∷ p ∷ rest else p ∷ with_saved rest name value))
    by true before is more there = refl
    by false true is more there = let held_is : p ≡ held = cc there in absurd (cc (is, same, ap (λ (q : Pair). bytes_eq q.name name) held_is))
    by false false is more there =
        let behind : slice_get rest (place name rest) ≡ Some held = ap (slice_get (p ∷ rest)) (sym (one-add (place name rest))) ∙ there in
        ap (λ n. set (p ∷ rest) n (pair name value)) (one-add (place name rest)) ∙ ap (λ ps. p ∷ ps) (more behind same)

-- none that stands there has the name
pub inserted : (pairs : List Pair) (name value : List ℕ) → ((held : Pair) → slice_get pairs (place name pairs) ≡ Some held → bytes_eq held.name name ≡ false)
    → insert pairs (place name pairs) (pair name value) ≡ with_saved pairs name value
inserted [] name value other = refl
inserted (p ∷ rest) name value other = by (bytes_eq p.name name) (is_before name p.name) refl (inserted rest name value) other
  where
    by : (has before : Bool) → bytes_eq p.name name ≡ has
        → (((held : Pair) → slice_get rest (place name rest) ≡ Some held → bytes_eq held.name name ≡ false) → insert rest (place name rest) (pair name value) ≡ with_saved rest name value)
        → ((held : Pair) → slice_get (p ∷ rest) (cond (not (has || before)) (1 + place name rest) 0) ≡ Some held → bytes_eq held.name name ≡ false)
        → insert (p ∷ rest) (cond (not (has || before)) (1 + place name rest) 0) (pair name value)
        ≡ (if has then pair name value ∷ rest else (if before then pair name value ∷ p ∷ rest else p ∷ with_saved rest name value))
    by true before is more other = absurd (cc (is, other p refl))
    by false true is more other = refl
    by false false is more other =
        let there : (held : Pair) → slice_get rest (place name rest) ≡ Some held → bytes_eq held.name name ≡ false =
        λ held at. other held (ap (slice_get (p ∷ rest)) (one-add (place name rest)) ∙ at) in
        ap (λ n. insert (p ∷ rest) n (pair name value)) (one-add (place name rest)) ∙ ap (λ ps. p ∷ ps) (more there)

abbrev pub are_persistent : List Pair → Bool
are_persistent pairs = list_all (λ p. is_persistent p.name) pairs

-- what is saved stays persistent
pub put_persistent : (pairs : List Pair) (name value : List ℕ) → are_persistent pairs ≡ true → is_persistent name ≡ true → are_persistent (with_saved pairs name value) ≡ true
put_persistent [] name value all this = and_from (is_persistent name) true this refl
put_persistent (p ∷ rest) name value all this =
    let parts = and_parts (is_persistent p.name) (are_persistent rest) all in
    by (bytes_eq p.name name) (is_before name p.name) parts.1
    (and_from (is_persistent p.name) (are_persistent (with_saved rest name value)) parts.0 (put_persistent rest name value parts.1 this))
  where
    by : (has before : Bool) → are_persistent rest ≡ true → are_persistent (p ∷ with_saved rest name value) ≡ true
        → are_persistent (if has then pair name value ∷ rest else (if before then pair name value ∷ p ∷ rest else p ∷ with_saved rest name value)) ≡ true
    by true before others more = and_from (is_persistent name) (are_persistent rest) this others
    by false true others more = and_from (is_persistent name) (are_persistent (p ∷ rest)) this all
    by false false others more = more

pub without_persistent : (pairs : List Pair) (name : List ℕ) → are_persistent pairs ≡ true → are_persistent (without_name pairs name) ≡ true
without_persistent [] name all = refl
without_persistent (p ∷ rest) name all =
    let parts = and_parts (is_persistent p.name) (are_persistent rest) all in
    let others = without_persistent rest name parts.1 in
    by (bytes_eq p.name name) others (and_from (is_persistent p.name) (are_persistent (without_name rest name)) parts.0 others)
  where
    by : (has : Bool) → are_persistent (without_name rest name) ≡ true → are_persistent (p ∷ without_name rest name) ≡ true
        → are_persistent (cond (not has) (p ∷ without_name rest name) (without_name rest name)) ≡ true
    by true others more = others
    by false others more = more

-- one pair in the place of another, or in a place of its own
pub replaces : (pairs new : List Pair) (name value given with : List ℕ) (at : ℕ) (held : Pair) → given ≡ name → with ≡ value → at ≡ place name pairs
    → Some held ≡ slice_get pairs at → bytes_eq held.name name ≡ true → new ≡ set pairs at (pair given with) → new ≡ with_saved pairs name value
replaces pairs new name value given with at held named valued there found same is =
    is ∙ ap (λ (p : Pair). set pairs at p) (λ i. pair (named i) (valued i)) ∙ ap (λ n. set pairs n (pair name value)) there
    ∙ replaced pairs name value held (ap (slice_get pairs) (sym there) ∙ sym found) same

pub inserts : (pairs new : List Pair) (name value given with : List ℕ) (at : ℕ) → given ≡ name → with ≡ value → at ≡ place name pairs
    → ((held : Pair) → Some held ≡ slice_get pairs at → bytes_eq held.name name ≡ false) → new ≡ insert pairs at (pair given with) → new ≡ with_saved pairs name value
inserts pairs new name value given with at named valued there other is =
    is ∙ ap (λ (p : Pair). insert pairs at p) (λ i. pair (named i) (valued i)) ∙ ap (λ n. insert pairs n (pair name value)) there
    ∙ inserted pairs name value (λ held found. other held (sym found ∙ ap (slice_get pairs) (sym there)))

-- a pair was put, or nothing was done
pub put_or_same : {T E : Type 0} (r : Result T E) (old new : List Pair) (name value : List ℕ) → OnOk r (new ≡ with_saved old name value) → OnErr r (new ≡ old)
    → are_persistent old ≡ true → is_persistent name ≡ true → are_persistent new ≡ true
put_or_same (Ok done) old new name value ok err all this = ap are_persistent ok ∙ put_persistent old name value all this
put_or_same (Err why) old new name value ok err all this = ap are_persistent err ∙ all
