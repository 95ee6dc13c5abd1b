-- The value that a name has after some sets, set by set.
use Rattle.std.proofs.Common.{◌≡◌, ◌+◌, ◌-◌, ◌<◌, ◌≤◌, ℕ, zero, suc, Bool, true, false, cond, ◌&&◌, not, List, [], ◌∷◌, ◌++◌, length, take, drop, get_or, Option, Some, None, refl, sym, ap, ◌∙◌, subst, arith, inl, inr}
use Rattle.std.specs.List.{list_any}
use Rattle.std.proofs.lemmas.Bool.{cases_lt}
use Rattle.std.proofs.lemmas.Slice.Eq.{bytes_eq-Decides}
use mathlib.Core.Option.{some}
use lib.ListN.{get_elem?}
use Rattle.std.specs.Str.{bytes_eq}
use Rattle.std.proofs.Math.Numerals.{add-one}
use Rattle.std.proofs.Math.Seq.{drop-cons, take-length, take-suc}
use Rattle.std.proofs.lemmas.List.{length-drop}
use Rattle.init_machine.specs.Facts.{IsSerialOf}
use Rattle.init_machine.specs.Serial.{number_in}
use Rattle.init_machine.specs.Sets.{Set, LaterSet, NoneBetween, Numbered, last_value, value_at}
use Rattle.init_machine.specs.declared.report.Reading.{Reading}
use Rattle.init_machine.specs.declared.report.Reading.TheVariants as reading
use Rattle.trace_audit.specs.Lists.{is_lowest, is_no_higher, rises}

last_one : (sets : List Set) (s : Set) (name : List ℕ) (value : Option (List ℕ))
    → last_value (sets ++ s ∷ []) name value ≡ cond (bytes_eq s.0 name) (Some s.1) (last_value sets name value)
last_one [] s name value = refl
last_one (x ∷ sets) s name value = last_one sets s name (cond (bytes_eq x.0 name) (Some x.1) value)

-- after one set more the name has its value, where it is of the name
pub value_step : (sets : List Set) (k n : ℕ) (s : Set) (name : List ℕ) → k < length sets → s ≡ get_or sets k s → n ≡ k + 1
    → value_at sets n name ≡ cond (bytes_eq s.0 name) (Some s.1) (value_at sets k name)
value_step sets k n s name within is next =
    ap (λ (m : ℕ). value_at sets m name) (next ∙ add-one k)
    ∙ ap (λ (first : List Set). last_value first name None) (take-suc sets k s within ∙ ap (λ (x : Set). take k sets ++ x ∷ []) (sym is))
    ∙ last_one (take k sets) s name None

-- what is left of readings, one by one
pub rises_on : (readings : List Reading) (k : ℕ) (told : Reading) (name : List ℕ) (number first second : ℕ) (whole : Bool)
    → k < length readings → told ≡ get_or readings k told → told ≡ reading.Again name number first second
    → list_any (is_no_higher name second) (drop (k + 1) readings) ≡ false
    → rises (drop k readings) ≡ whole → rises (drop (k + 1) readings) ≡ whole
rises_on readings k told name number first second whole within is again none so_far =
    let behind : List Reading = drop (k + 1) readings in
    let split : drop k readings ≡ told ∷ behind =
    drop-cons readings k told within ∙ ap (λ (x : Reading). x ∷ drop (suc k) readings) (sym is) ∙ ap (λ (m : ℕ). told ∷ drop m readings) (sym (add-one k)) in
    let high : is_lowest told behind ≡ true =
    ap (λ (x : Reading). is_lowest x behind) again ∙ ap (λ (b : Bool). not b) none in
    ap (λ (b : Bool). b && rises behind) (sym high) ∙ ap (λ (xs : List Reading). rises xs) (sym split) ∙ so_far

set_is : (s : Set) (name : List ℕ) (a b : Option (List ℕ)) (own : Bool) → bytes_eq s.0 name ≡ own
    → cond (bytes_eq s.0 name) a b ≡ cond own a b
set_is s name a b own is = ap (λ (o : Bool). cond o a b) is

pub value_found : (sets : List Set) (k n : ℕ) (s : Set) (name : List ℕ) → k < length sets → s ≡ get_or sets k s → n ≡ k + 1
    → s.0 ≡ name → Some s.1 ≡ value_at sets n name
value_found sets k n s name within is next own =
    sym (value_step sets k n s name within is next ∙ set_is s name (Some s.1) (value_at sets k name) true ((bytes_eq-Decides s.0 name).1 own))

not_true : (b c : Bool) → b ≡ c → (b ≡ true → ⊥) → b ≡ false
not_true b true is never = absurd (never is)
not_true b false is never = is

no_bytes : (a b : List ℕ) → (a ≡ b → ⊥) → bytes_eq a b ≡ false
no_bytes a b other = not_true (bytes_eq a b) (bytes_eq a b) refl (λ (same : bytes_eq a b ≡ true). other ((bytes_eq-Decides a b).0 same))

pub value_passed : (sets : List Set) (k n : ℕ) (s : Set) (name : List ℕ) → k < length sets → s ≡ get_or sets k s → n ≡ k + 1
    → (s.0 ≡ name → ⊥) → value_at sets k name ≡ value_at sets n name
value_passed sets k n s name within is next other =
    sym (value_step sets k n s name within is next ∙ set_is s name (Some s.1) (value_at sets k name) false (no_bytes s.0 name other))

-- ---- a set by its place

pub set_at : (sets : List Set) (k : ℕ) (s : Set) → k < length sets → s ≡ get_or sets k s → get_elem? sets k ≡ some s
set_at [] k s within is = absurd (omega arith)
set_at (x ∷ sets) zero s within is = ap (λ (t : Set). some t) (sym is)
set_at (x ∷ sets) (suc k) s within is = set_at sets k s (omega arith) is

pub at_set : (sets : List Set) (k : ℕ) (s t : Set) → get_elem? sets k ≡ some s → t ≡ get_or sets k t → s ≡ t
at_set [] k s t is at = cc
at_set (x ∷ sets) zero s t is at = cc
at_set (x ∷ sets) (suc k) s t is at = at_set sets k s t is at

pub set_within : (sets : List Set) (k : ℕ) (s : Set) → get_elem? sets k ≡ some s → k < length sets
set_within [] k s is = cc
set_within (x ∷ sets) zero s is = omega arith
set_within (x ∷ sets) (suc k) s is = let rest : k < length sets = set_within sets k s is in omega arith

pub none_more : (sets : List Set) (at low : ℕ) (s : Set) (name : List ℕ) → s ≡ get_or sets at s → (s.0 ≡ name → ⊥)
    → NoneBetween sets name low at → NoneBetween sets name low (at + 1)
none_more sets at low s name is other none =
    λ (k : ℕ) (value : List ℕ) (above : low ≤ k) (below : k < at + 1) (there : get_elem? sets k ≡ some (name, value)).
    elim (cases_lt k at) [
      | inl before ↦ none k value above before there
      | inr past ↦
          let here : k ≡ at = omega arith in
          let same : (name, value) ≡ s = at_set sets at (name, value) s (subst (λ (m : ℕ). get_elem? sets m ≡ some (name, value)) here there) is in
          other (sym (ap (λ (t : Set). t.0) same))
    ]

pub later_none : (sets : List Set) (name : List ℕ) (low : ℕ) → NoneBetween sets name low (length sets) → LaterSet sets name low → ⊥
later_none sets name low none later =
    none later.0 later.1 later.2 (set_within sets later.0 (name, later.1) later.3) later.3

pub later_past : (sets : List Set) (name : List ℕ) (low : ℕ) → (low ≤ length sets → ⊥) → LaterSet sets name low → ⊥
later_past sets name low past later =
    let within : later.0 < length sets = set_within sets later.0 (name, later.1) later.3 in
    let above : low ≤ later.0 = later.2 in
    past (omega arith)

-- ---- the set with a number

pub numbered_at : (sets : List Set) (number k : ℕ) (name : List ℕ) (s : Set) → number ≡ k + 1 → k < length sets → s ≡ get_or sets k s → s.0 ≡ name
    → Numbered sets number name s.1
numbered_at sets number k name s is within at own = record {
  place = k;
  number_is = is;
  set_is = set_at sets k s within at ∙ ap (λ (n : List ℕ). some (n, s.1)) own;
}

pub number_within : (sets : List Set) (number : ℕ) (name value : List ℕ) → Numbered sets number name value → number ≤ length sets
number_within sets number name value n =
    let within : n.place < length sets = set_within sets n.place (name, value) n.set_is in
    let is : number ≡ n.place + 1 = n.number_is in
    omega arith

pub numbered_is : (sets : List Set) (number k : ℕ) (name value : List ℕ) (s : Set) → number ≡ k + 1 → s ≡ get_or sets k s
    → Numbered sets number name value → (name, value) ≡ s
numbered_is sets number k name value s is at n =
    let next : number ≡ n.place + 1 = n.number_is in
    let here : n.place ≡ k = omega arith in
    at_set sets k (name, value) s (subst (λ (m : ℕ). get_elem? sets m ≡ some (name, value)) here n.set_is) at

-- ---- serials

pub no_number : (sets : List Set) (name : List ℕ) (word : ℕ) → ((value : List ℕ) → ¬ Numbered sets (number_in word) name value)
    → IsSerialOf sets None name word → ⊥
no_number sets name word none s = none s.value s.numbered

-- what stands behind a place
pub rest_is : {A : Type 0} (xs : List A) (n : ℕ) → take (length xs - n) (drop n xs) ≡ drop n xs
rest_is xs n = ap (λ (m : ℕ). take m (drop n xs)) (sym (length-drop n xs)) ∙ take-length (drop n xs)
