-- The places of each name's sets.
use Rattle.std.proofs.Common.{◌≡◌, ◌+◌, ◌-◌, ◌<◌, ◌≤◌, ℕ, zero, suc, Bool, true, false, not, List, [], ◌∷◌, ◌++◌, length, get_or, set, Option, Some, None, refl, sym, ap, ◌∙◌, subst, arith, inl, inr, get_or-set_other}
use Rattle.std.specs.Prelude.{position, Result, Ok, Err, IsTrue}
use Rattle.std.specs.Result.{OnOk}
use Rattle.std.specs.List.{position_or_len}
use Rattle.std.specs.Str.{bytes_eq}
use Rattle.std.proofs.lemmas.Bool.{cases_lt}
use Rattle.std.proofs.lemmas.Grind.{common_steps}
use Rattle.std.proofs.lemmas.List.Folds.{position_or_len_push}
use Rattle.std.proofs.lemmas.List.Sums.{passes_at_first, prefix_len-le-length}
use Rattle.std.proofs.lemmas.Slice.Eq.{bytes_eq-Decides}
use Rattle.std.proofs.lemmas.List.{get_or_append_left}
use Rattle.std.proofs.Math.Numerals.{add-one}
use Rattle.std.proofs.Math.Seq.{get_or-append_seam}
use mathlib.Core.Option.{some}
use mathlib.Core.Option.{none as nothing}
use mathlib.Core.Option.{Option as Found}
use lib.ListN.{get_elem?}
use Rattle.init_machine.specs.Sets.{NoneBetween, Set, value_at}
use Rattle.trace_audit.specs.Indexed.{is_of, IsIndexed, IsLastOf, IsListed, IsOwn, SplitsAt, list_at, listed, low_at}
use Rattle.trace_audit.proofs.Values.{at_set, none_more, set_at, value_found, value_passed}

-- ---- a place more

past_or : (xs : List ℕ) (i d : ℕ) → length xs ≤ i → get_or xs i d ≡ d
past_or [] zero d past = refl
past_or [] (suc i) d past = refl
past_or (x ∷ xs) zero d past = absurd (omega arith)
past_or (x ∷ xs) (suc i) d past = past_or xs i d (omega arith)

same_or : (xs : List ℕ) (i d d' : ℕ) → i < length xs → get_or xs i d ≡ get_or xs i d'
same_or [] i d d' within = absurd (omega arith)
same_or (x ∷ xs) zero d d' within = refl
same_or (x ∷ xs) (suc i) d d' within = same_or xs i d d' (omega arith)

longer : (xs : List ℕ) (x : ℕ) → length (xs ++ x ∷ []) ≡ length xs + 1
longer [] x = refl
longer (y ∷ xs) x = let rest : length (xs ++ x ∷ []) ≡ length xs + 1 = longer xs x in omega arith

-- between a place and itself there is nothing
none_here : (sets : List Set) (name : List ℕ) (low high : ℕ) → high ≤ low → NoneBetween sets name low high
none_here sets name low high none = λ (k : ℕ) (value : List ℕ) (above : low ≤ k) (below : k < high) (there : get_elem? sets k ≡ some (name, value)). omega arith

none_to : (sets : List Set) (name : List ℕ) (low high high' : ℕ) → high ≡ high' → NoneBetween sets name low high → NoneBetween sets name low high'
none_to sets name low high high' same none = subst (λ (h : ℕ). NoneBetween sets name low h) same none

none_from : (sets : List Set) (name : List ℕ) (low low' high : ℕ) → low ≡ low' → NoneBetween sets name low high → NoneBetween sets name low' high
none_from sets name low low' high same none = subst (λ (l : ℕ). NoneBetween sets name l high) same none

low_more : (xs : List ℕ) (k i : ℕ) → i ≤ length xs → low_at xs i ≡ low_at (xs ++ k ∷ []) i
low_more xs k zero within = refl
low_more xs k (suc i) within = ap (λ (p : ℕ). p + 1) (sym (get_or_append_left xs (k ∷ []) 0 i (omega arith)))

-- a set of the name, by its value
pub own_value : (name : List ℕ) (o : Found Set) → IsTrue (is_of name o) → (value : List ℕ) × (o ≡ some (name, value))
own_value name nothing own = cc
own_value name (some s) own =
    (s.1, ap (λ (n : List ℕ). let x : Found Set = some (n, s.1) in x) ((bytes_eq-Decides s.0 name).0 own))

pub own_at : (sets : List Set) (name : List ℕ) (place : ℕ) (s : Set) → get_elem? sets place ≡ some s → s.0 ≡ name → IsOwn sets name place
own_at sets name place s at own =
    ap (λ (o : Found Set). is_of name o) at ∙ (bytes_eq-Decides s.0 name).1 own

own_end : (sets : List Set) (k : ℕ) (name : List ℕ) (xs : List ℕ) → IsListed sets k name xs → (i : ℕ) → i ≤ length xs + 1 → length xs ≤ i
    → NoneBetween sets name (low_at (xs ++ k ∷ []) i) (get_or (xs ++ k ∷ []) i (k + 1))
own_end sets k name xs l i within past =
    elim (cases_lt (length xs) i) [
      | inr here ↦
          let at : i ≡ length xs = omega arith in
          let high : get_or xs i k ≡ get_or (xs ++ k ∷ []) i (k + 1) =
          past_or xs i k past ∙ sym (get_or-append_seam xs k [] (k + 1)) ∙ ap (λ (j : ℕ). get_or (xs ++ k ∷ []) j (k + 1)) (sym at) in
          none_to sets name (low_at (xs ++ k ∷ []) i) (get_or xs i k) (get_or (xs ++ k ∷ []) i (k + 1)) high
          (none_from sets name (low_at xs i) (low_at (xs ++ k ∷ []) i) (get_or xs i k) (low_more xs k i (omega arith)) (l.gaps i (omega arith)))
      | inl behind ↦
          let at : i ≡ suc (length xs) = omega arith in
          let low : low_at (xs ++ k ∷ []) i ≡ k + 1 =
          ap (λ (j : ℕ). low_at (xs ++ k ∷ []) j) at ∙ ap (λ (p : ℕ). p + 1) (get_or-append_seam xs k [] 0) in
          let long = longer xs k in
          let high : get_or (xs ++ k ∷ []) i (k + 1) ≡ k + 1 = past_or (xs ++ k ∷ []) i (k + 1) (omega arith) in
          none_here sets name (low_at (xs ++ k ∷ []) i) (get_or (xs ++ k ∷ []) i (k + 1)) (omega arith)
    ]

own_gap : (sets : List Set) (k : ℕ) (name : List ℕ) (xs : List ℕ) → IsListed sets k name xs → (i : ℕ) → i ≤ length xs + 1
    → NoneBetween sets name (low_at (xs ++ k ∷ []) i) (get_or (xs ++ k ∷ []) i (k + 1))
own_gap sets k name xs l i within =
    elim (cases_lt i (length xs)) [
      | inl before ↦
          let high : get_or xs i k ≡ get_or (xs ++ k ∷ []) i (k + 1) = same_or xs i k (k + 1) before ∙ sym (get_or_append_left xs (k ∷ []) (k + 1) i before) in
          none_to sets name (low_at (xs ++ k ∷ []) i) (get_or xs i k) (get_or (xs ++ k ∷ []) i (k + 1)) high
          (none_from sets name (low_at xs i) (low_at (xs ++ k ∷ []) i) (get_or xs i k) (low_more xs k i (omega arith)) (l.gaps i (omega arith)))
      | inr past ↦ own_end sets k name xs l i within past
    ]

own_own : (sets : List Set) (k : ℕ) (name : List ℕ) (xs : List ℕ) → IsListed sets k name xs → IsOwn sets name k → (i : ℕ) → i < length (xs ++ k ∷ [])
    → (get_or (xs ++ k ∷ []) i 0 < k + 1) × IsOwn sets name (get_or (xs ++ k ∷ []) i 0)
own_own sets k name xs l own i within =
    let long = longer xs k in
    elim (cases_lt i (length xs)) [
      | inl before ↦
          let same : get_or (xs ++ k ∷ []) i 0 ≡ get_or xs i 0 = get_or_append_left xs (k ∷ []) 0 i before in
          let old = l.own i before in
          let low : get_or xs i 0 < k = old.0 in
          (omega arith, subst (λ (p : ℕ). IsOwn sets name p) (sym same) old.1)
      | inr past ↦
          let at : i ≡ length xs = omega arith in
          let same : get_or (xs ++ k ∷ []) i 0 ≡ k = ap (λ (j : ℕ). get_or (xs ++ k ∷ []) j 0) at ∙ get_or-append_seam xs k [] 0 in
          (omega arith, subst (λ (p : ℕ). IsOwn sets name p) (sym same) own)
    ]

-- one more set of the name
pub listed_own : (sets : List Set) (k : ℕ) (name : List ℕ) (xs : List ℕ) → IsListed sets k name xs → IsOwn sets name k → IsListed sets (k + 1) name (xs ++ k ∷ [])
listed_own sets k name xs l own = record {
  own = own_own sets k name xs l own;
  gaps = λ (i : ℕ) (within : i ≤ length (xs ++ k ∷ [])). own_gap sets k name xs l i (let long = longer xs k in omega arith);
}

-- one more set of another name
pub listed_other : (sets : List Set) (k : ℕ) (s : Set) (name : List ℕ) (xs : List ℕ) → IsListed sets k name xs → s ≡ get_or sets k s → (s.0 ≡ name → ⊥)
    → IsListed sets (k + 1) name xs
listed_other sets k s name xs l is other = record {
  own = λ (i : ℕ) (within : i < length xs).
      let old = l.own i within in
      let low : get_or xs i 0 < k = old.0 in
      (omega arith, old.1);
  gaps = λ (i : ℕ) (within : i ≤ length xs).
      elim (cases_lt i (length xs)) [
        | inl before ↦ none_to sets name (low_at xs i) (get_or xs i k) (get_or xs i (k + 1)) (same_or xs i k (k + 1) before) (l.gaps i within)
        | inr past ↦
            none_to sets name (low_at xs i) (k + 1) (get_or xs i (k + 1)) (sym (past_or xs i (k + 1) past))
            (none_more sets k (low_at xs i) s name is other (none_to sets name (low_at xs i) (get_or xs i k) k (past_or xs i k past) (l.gaps i within)))
      ];
}

-- ---- the list of each name

place_within : (names : List (List ℕ)) (name : List ℕ) (id : ℕ) → position (bytes_eq name) names ≡ Some id → id < length names
place_within names name id at = grind (arith, common_steps)

place_is : (names : List (List ℕ)) (name : List ℕ) (id : ℕ) → position (bytes_eq name) names ≡ Some id → position_or_len (bytes_eq name) names ≡ id
place_is names name id at = grind (arith, common_steps)

name_at : (names : List (List ℕ)) (name : List ℕ) (id : ℕ) → position (bytes_eq name) names ≡ Some id → name ≡ get_or names id []
name_at names name id at =
    let is = place_is names name id at in
    let within : position_or_len (bytes_eq name) names < length names = let w = place_within names name id at in omega arith in
    (bytes_eq-Decides name (get_or names id [])).0
    (ap (λ (i : ℕ). bytes_eq name (get_or names i [])) (sym is) ∙ passes_at_first (bytes_eq name) names [] within)

held_at : (names lists : List (List ℕ)) (name other xs : List ℕ) (id : ℕ) → position (bytes_eq name) names ≡ Some id → (other ≡ name → ⊥)
    → (o : Option ℕ) → position (bytes_eq other) names ≡ o → list_at (set lists id xs) o ≡ list_at lists o
held_at names lists name other xs id at apart None is = refl
held_at names lists name other xs id at apart (Some j) is =
    get_or-set_other lists id j xs []
    (λ (same : j ≡ id). apart (name_at names other j is ∙ ap (λ (i : ℕ). get_or names i []) same ∙ sym (name_at names name id at)))

pub held_others : (names lists : List (List ℕ)) (name other xs : List ℕ) (id : ℕ) → position (bytes_eq name) names ≡ Some id → (other ≡ name → ⊥)
    → listed names (set lists id xs) other ≡ listed names lists other
held_others names lists name other xs id at apart = held_at names lists name other xs id at apart (position (bytes_eq other) names) refl

not_true : (b c : Bool) → b ≡ c → (b ≡ true → ⊥) → b ≡ false
not_true b true is never = absurd (never is)
not_true b false is never = is

no_bytes : (a b : List ℕ) → (a ≡ b → ⊥) → bytes_eq a b ≡ false
no_bytes a b other = not_true (bytes_eq a b) (bytes_eq a b) refl (λ (same : bytes_eq a b ≡ true). other ((bytes_eq-Decides a b).0 same))

-- the place of another name stays
place_stays : (names : List (List ℕ)) (name other : List ℕ) → bytes_eq other name ≡ false
    → position (bytes_eq other) (names ++ name ∷ []) ≡ position (bytes_eq other) names
place_stays names name other apart =
    let push = position_or_len_push (bytes_eq other) names name in
    let bound = prefix_len-le-length (λ x. not (bytes_eq other x)) names in
    grind (arith, common_steps)

new_at : (lists : List (List ℕ)) (xs : List ℕ) (names : List (List ℕ)) (other : List ℕ) → length names ≡ length lists → (o : Option ℕ)
    → position (bytes_eq other) names ≡ o → list_at (lists ++ xs ∷ []) o ≡ list_at lists o
new_at lists xs names other long None is = refl
new_at lists xs names other long (Some j) is =
    get_or_append_left lists (xs ∷ []) [] j (let within = place_within names other j is in omega arith)

pub new_others : (names lists : List (List ℕ)) (name other xs : List ℕ) → length names ≡ length lists → (other ≡ name → ⊥)
    → listed (names ++ name ∷ []) (lists ++ xs ∷ []) other ≡ listed names lists other
new_others names lists name other xs long apart =
    ap (λ (o : Option ℕ). list_at (lists ++ xs ∷ []) o) (place_stays names name other (no_bytes other name apart))
    ∙ new_at lists xs names other long (position (bytes_eq other) names) refl

-- ---- the last set of a name

none_less : (sets : List Set) (name : List ℕ) (low high high' : ℕ) → high' ≤ high → NoneBetween sets name low high → NoneBetween sets name low high'
none_less sets name low high high' less none =
    λ (k : ℕ) (value : List ℕ) (above : low ≤ k) (below : k < high'). none k value above (omega arith)

split_gap : (sets : List Set) (n : ℕ) (name places : List ℕ) (number place : ℕ) → IsListed sets n name places → SplitsAt places number place → number ≤ n
    → NoneBetween sets name (low_at places place) number
split_gap sets n name places number place l split within =
    none_less sets name (low_at places place) (get_or places place n) number
    (elim (cases_lt place (length places)) [
      | inl before ↦ let high = split.high before in let same : get_or places place n ≡ get_or places place 0 = same_or places place n 0 before in omega arith
      | inr past ↦ let same : get_or places place n ≡ n = past_or places place n past in omega arith
    ])
    (l.gaps place split.within)

pub none_before : (sets : List Set) (n : ℕ) (name places : List ℕ) (number : ℕ) → IsListed sets n name places → SplitsAt places number 0 → number ≤ n
    → NoneBetween sets name 0 number
none_before sets n name places number l split within = split_gap sets n name places number 0 l split within

pub last_of_name : (sets : List Set) (n : ℕ) (name places : List ℕ) (number i : ℕ) → IsListed sets n name places → SplitsAt places number (i + 1) → number ≤ n
    → IsLastOf sets name number (get_or places i 0)
last_of_name sets n name places number i l split within =
    let at_most : i + 1 ≤ length places = split.within in
    let own = l.own i (omega arith) in
    record {
      before = split.low i refl;
      own = own.1;
      last =
          none_from sets name (low_at places (i + 1)) (get_or places i 0 + 1) number (ap (λ (j : ℕ). low_at places j) (add-one i))
          (split_gap sets n name places number (i + 1) l split within);
    }

or_same : (sets : List Set) (k : ℕ) (d d' : Set) → k < length sets → get_or sets k d ≡ get_or sets k d'
or_same [] k d d' within = absurd (omega arith)
or_same (x ∷ sets) zero d d' within = refl
or_same (x ∷ sets) (suc k) d d' within = or_same sets k d d' (omega arith)

-- where no set of the name comes between, its value stays
value_stays : (sets : List Set) (name : List ℕ) (low d : ℕ) → low + d ≤ length sets → NoneBetween sets name low (low + d)
    → value_at sets (low + d) name ≡ value_at sets low name
value_stays sets name low zero within none = ap (λ (n : ℕ). value_at sets n name) (let e : low + 0 ≡ low = omega arith in e)
value_stays sets name low (suc d) within none =
    let inside : low + d < length sets = omega arith in
    let s : Set = get_or sets (low + d) ([], []) in
    let is : s ≡ get_or sets (low + d) s = or_same sets (low + d) ([], []) s inside in
    let next : low + suc d ≡ low + d + 1 = omega arith in
    let other = λ (own : s.0 ≡ name).
    none (low + d) s.1 (omega arith) (omega arith)
    (set_at sets (low + d) s inside is ∙ ap (λ (m : List ℕ). some (m, s.1)) own) in
    sym (value_passed sets (low + d) (low + suc d) s name inside is next other)
    ∙ value_stays sets name low d (omega arith)
    (λ (k : ℕ) (value : List ℕ) (above : low ≤ k) (below : k < low + d). none k value above (omega arith))

pub value_none : (sets : List Set) (name : List ℕ) (number : ℕ) → number ≤ length sets → NoneBetween sets name 0 number → value_at sets number name ≡ None
value_none sets name number within none =
    let e : 0 + number ≡ number = omega arith in
    ap (λ (n : ℕ). value_at sets n name) (sym e)
    ∙ value_stays sets name 0 number (omega arith) (subst (λ (n : ℕ). NoneBetween sets name 0 n) (sym e) none)

pub value_last : (sets : List Set) (name : List ℕ) (number place : ℕ) (s : Set) → number ≤ length sets → IsLastOf sets name number place
    → s ≡ get_or sets place s → value_at sets number name ≡ Some s.1
value_last sets name number place s within l is =
    let before : place < number = l.before in
    let d : ℕ = number - (place + 1) in
    let e : place + 1 + d ≡ number = omega arith in
    let there = own_value name (get_elem? sets place) l.own in
    let own : (name, there.0) ≡ s = at_set sets place (name, there.0) s there.1 is in
    ap (λ (n : ℕ). value_at sets n name) (sym e)
    ∙ value_stays sets name (place + 1) d (omega arith) (subst (λ (n : ℕ). NoneBetween sets name (place + 1) n) (sym e) l.last)
    ∙ sym (value_found sets place (place + 1) s name (omega arith) is refl (sym (ap (λ (t : Set). t.0) own)))

name_more : (sets : List Set) (k : ℕ) (s : Set) (names lists names' lists' : List (List ℕ)) → k < length sets → s ≡ get_or sets k s
    → IsIndexed sets k names lists
    → listed names' lists' s.0 ≡ listed names lists s.0 ++ k ∷ []
    → ((other : List ℕ) → (other ≡ s.0 → ⊥) → listed names' lists' other ≡ listed names lists other)
    → (name : List ℕ) (own : Bool) → bytes_eq s.0 name ≡ own → IsListed sets (k + 1) name (listed names' lists' name)
name_more sets k s names lists names' lists' within is x own others name true mine =
    let same : s.0 ≡ name = (bytes_eq-Decides s.0 name).0 mine in
    let list : listed names lists name ++ k ∷ [] ≡ listed names' lists' name =
    ap (λ (n : List ℕ). listed names lists n ++ k ∷ []) (sym same) ∙ sym own ∙ ap (λ (n : List ℕ). listed names' lists' n) same in
    subst (λ (places : List ℕ). IsListed sets (k + 1) name places) list
    (listed_own sets k name (listed names lists name) (x.each name) (own_at sets name k s (set_at sets k s within is) same))
name_more sets k s names lists names' lists' within is x own others name false mine =
    let other = λ (same : s.0 ≡ name). let yes : bytes_eq s.0 name ≡ true = (bytes_eq-Decides s.0 name).1 same in let impossible : ⊥ = cc in impossible in
    let list : listed names lists name ≡ listed names' lists' name = sym (others name (λ (same : name ≡ s.0). other (sym same))) in
    subst (λ (places : List ℕ). IsListed sets (k + 1) name places) list
    (listed_other sets k s name (listed names lists name) (x.each name) is other)

-- one more set keeps each name listed
pub indexed_more : (sets : List Set) (k : ℕ) (s : Set) (names lists names' lists' : List (List ℕ)) → k < length sets → s ≡ get_or sets k s
    → IsIndexed sets k names lists → length names' ≡ length lists'
    → listed names' lists' s.0 ≡ listed names lists s.0 ++ k ∷ []
    → ((other : List ℕ) → (other ≡ s.0 → ⊥) → listed names' lists' other ≡ listed names lists other)
    → IsIndexed sets (k + 1) names' lists'
indexed_more sets k s names lists names' lists' within is x long own others = record {
  long = long;
  each = λ (name : List ℕ). name_more sets k s names lists names' lists' within is x own others name (bytes_eq s.0 name) refl;
}

pub on_any : {T E : Type 0} (r : Result T E) (P : Type 0) → P → OnOk r P
on_any (Ok x) P holds = holds
on_any (Err e) P holds = tt
