-- A view that is made pair by pair, from the last one on.
use Rattle.std.proofs.Common.{◌≡◌, ℕ, ◌+◌, ◌-◌, ◌<◌, ◌≤◌, Bool, true, false, ◌&&◌, ◌||◌, cond, if◌then◌else◌, Option, Some, None, is_some, List, [], ◌∷◌, ◌++◌, length, take, get_or, refl, sym, ap, ◌∙◌, append_assoc, arith, position}
use Rattle.std.proofs.lemmas.Bool.{false≢true}
use Rattle.std.proofs.lemmas.List.{take_more, take_all}
use Rattle.std.proofs.lemmas.List.Folds.{list_any-append}
use Rattle.std.proofs.lemmas.Slice.Eq.{bytes_eq-Decides}
use Rattle.std.specs.List.{list_any}
use Rattle.std.specs.Str.{bytes_eq}
use Rattle.init_base.specs.Name.{is_legal_name}
use Rattle.init_base.specs.Value.{is_legal_value}
use Rattle.init_base.proofs.ByBytes.{same_bytes}
use Rattle.init_base.proofs.FirstPlaces.{any_by_place}
use Rattle.init_machine.proofs.ValuePut.{value_put}
use Rattle.init_machine.specs.Props.{Property, Props, is_absent, lookup_in, value_in, value_of, with_set}
use Rattle.init_machine.specs.declared.config.Pair.{Pair}
use Rattle.collections.specs.Texts.{with_text}
use Rattle.prop_rules.specs.View.{found_or, last_pair, legal_value_of}
use Rattle.prop_rules.specs.internal.Views.{Shows, with_legal}

-- ---- places of names

some_if : {A : Type 0} (b : Bool) (x : A) → is_some (cond b (Some x) None) ≡ b
some_if true x = refl
some_if false x = refl

-- a name has a place exactly where it is there
place_any : (names : List (List ℕ)) (name : List ℕ) → is_some (position (bytes_eq name) names) ≡ list_any (bytes_eq name) names
place_any names name = some_if _ _ ∙ any_by_place (bytes_eq name) names

-- ---- names

is_itself : (a : List ℕ) → bytes_eq a a ≡ true
is_itself a = (bytes_eq-Decides a a).1 refl

swapped : (a b : List ℕ) (v : Bool) → bytes_eq a b ≡ v → bytes_eq b a ≡ v
swapped a b true e = ap (λ c. bytes_eq b c) (same_bytes a b e) ∙ is_itself b
swapped a b false e =
    elim (bytes_eq b a) as (λ v. bytes_eq b a ≡ v → v ≡ false) [
      | true ↦ λ same. absurd (false≢true (sym e ∙ ap (λ c. bytes_eq a c) (same_bytes b a same) ∙ is_itself a))
      | false ↦ λ other. refl
    ] refl

none_of : {A : Type 0} (o : Option A) → is_some o ≡ false → o ≡ None
none_of None h = refl
none_of (Some x) h = absurd (false≢true (sym h))

-- ---- the pair before those that were taken

-- it isn't found where a later one has its name
passed_over : (later : List Pair) (p : Pair) (name : List ℕ) (found : Option Pair) (named : Bool) → last_pair later name ≡ found → bytes_eq p.name name ≡ named
    → is_some (last_pair later p.name) ≡ true → found_or found p name ≡ found
passed_over later p name (Some q) named is same there = refl
passed_over later p name None true is same there =
    absurd (false≢true (ap is_some (sym is) ∙ ap (λ n. is_some (last_pair later n)) (sym (same_bytes p.name name same)) ∙ there))
passed_over later p name None false is same there = ap (λ b. if b then Some p else None) same

pub decided_stays : (decided : List (List ℕ)) (props : Props) (p : Pair) → is_some (position (bytes_eq p.name) decided) ≡ true
    → (later : List Pair) → Shows decided props later → Shows decided props (p ∷ later)
decided_stays decided props p there later shows =
    let found : is_some (last_pair later p.name) ≡ true = sym (shows.names p.name) ∙ sym (place_any decided p.name) ∙ there in
    let same : (name : List ℕ) → last_pair (p ∷ later) name ≡ last_pair later name = λ name. passed_over later p name (last_pair later name) (bytes_eq p.name name) refl refl found in
    record {
      names = λ name. shows.names name ∙ ap is_some (sym (same name));
      values = λ name. shows.values name ∙ ap legal_value_of (sym (same name));
    }

-- a name more is decided
name_more : (there named : Bool) (found : Option Pair) (p : Pair) (name : List ℕ) → bytes_eq p.name name ≡ named → there ≡ is_some found
    → (there || (named || false)) ≡ is_some (found_or found p name)
name_more there true (Some q) p name same is = rw is refl
name_more there false (Some q) p name same is = rw is refl
name_more there true None p name same is = rw (is, same) refl
name_more there false None p name same is = rw (is, same) refl

-- what a name's value is now, where the pair is legal and where it isn't
value_more : (legal named : Bool) (p : Pair) (found : Option Pair) (was : Option (List ℕ)) (name : List ℕ) → bytes_eq p.name name ≡ named
    → (is_legal_name p.name && is_legal_value p.name p.value) ≡ legal → (named ≡ true → found ≡ None) → was ≡ legal_value_of found
    → (if legal then (if named then Some p.value else was) else was) ≡ legal_value_of (found_or found p name)
value_more true true p found was name same legal none is = rw (none refl, same, legal) refl
value_more false true p found was name same legal none is = is ∙ rw (none refl, same, legal) refl
value_more true false p None was name same legal none is = is ∙ rw same refl
value_more false false p None was name same legal none is = is ∙ rw same refl
value_more true false p (Some q) was name same legal none is = is
value_more false false p (Some q) was name same legal none is = is

legal_set : (legal : Bool) (props : Props) (p : Pair) (name : List ℕ)
    → value_in (if legal then with_set props p.name p.value else props) name
    ≡ (if legal then (if bytes_eq p.name name then Some p.value else value_in props name) else value_in props name)
legal_set true props p name = value_put props.held (record { name = p.name; value = p.value; number = props.count + 1 }) name
legal_set false props p name = refl

pub decides : (decided new : List (List ℕ)) (props next : Props) (p : Pair) → is_some (position (bytes_eq p.name) decided) ≡ false
    → new ≡ with_text decided p.name → next ≡ with_legal props p → (later : List Pair) → Shows decided props later → Shows new next (p ∷ later)
decides decided new props next p absent added set later shows =
    let out : list_any (bytes_eq p.name) decided ≡ false = sym (place_any decided p.name) ∙ absent in
    let none : last_pair later p.name ≡ None = none_of (last_pair later p.name) (sym (shows.names p.name) ∙ out) in
    let grown : new ≡ decided ++ p.name ∷ [] = added ∙ ap (λ b. if b then decided else decided ++ p.name ∷ []) out in
    record {
      names = λ name.
          ap (λ ns. list_any (bytes_eq name) ns) grown ∙ list_any-append (bytes_eq name) decided (p.name ∷ [])
          ∙ ap (λ b. list_any (bytes_eq name) decided || (b || false)) (swapped p.name name (bytes_eq p.name name) refl)
          ∙ name_more (list_any (bytes_eq name) decided) (bytes_eq p.name name) (last_pair later name) p name refl (shows.names name);
      values = λ name.
          ap (λ q. value_in q name) set ∙ legal_set (is_legal_name p.name && is_legal_value p.name p.value) props p name
          ∙ value_more (is_legal_name p.name && is_legal_value p.name p.value) (bytes_eq p.name name) p (last_pair later name) (value_in props name) name refl refl
          (λ same. ap (λ n. last_pair later n) (sym (same_bytes p.name name same)) ∙ none) (shows.values name);
    }

-- ---- the pairs, from the last one on

pub last_taken : (rest taken all : List Pair) (d : Pair) → 1 ≤ length rest → rest ++ taken ≡ all
    → take (length rest - 1) rest ++ get_or rest (length rest - 1) d ∷ taken ≡ all
last_taken rest taken all d some parted =
    let count : length rest ≡ (length rest - 1) + 1 = omega arith in
    let whole : rest ≡ take (length rest - 1) rest ++ get_or rest (length rest - 1) d ∷ [] =
    sym (take_all (length rest) rest (omega arith)) ∙ ap (λ n. take n rest) count ∙ take_more rest (length rest - 1) d (omega arith) in
    sym (append_assoc (take (length rest - 1) rest) (get_or rest (length rest - 1) d ∷ []) taken) ∙ ap (λ ps. ps ++ taken) (sym whole) ∙ parted

pub all_taken : (rest taken all : List Pair) → length rest < 1 → rest ++ taken ≡ all → taken ≡ all
all_taken [] taken all few parted = parted
all_taken (p ∷ rest) taken all few parted = absurd (omega arith)

pub nothing_shown : (decided : List (List ℕ)) (props : Props) → decided ≡ [] → props.held ≡ [] → Shows decided props []
nothing_shown decided props no_names none = record {
  names = λ name. ap (list_any (bytes_eq name)) no_names;
  values = λ name. ap (λ held. value_of (lookup_in held name)) none;
}

pub illegal_stays : (props : Props) (p : Pair) → is_legal_name p.name ≡ false → props ≡ with_legal props p
illegal_stays props p e = ap (λ b. if b && is_legal_value p.name p.value then with_set props p.name p.value else props) (sym e)

-- ---- a name that isn't decided is absent

no_value : (found : Option Property) → value_of found ≡ None → is_absent found ≡ true
no_value None none = refl
no_value (Some h) none = absurd (false≢true (sym (ap is_some none)))

pub undecided : (decided : List (List ℕ)) (props : Props) (name : List ℕ) → ((taken : List Pair) × Shows decided props taken)
    → is_some (position (bytes_eq name) decided) ≡ false → is_absent (lookup_in props.held name) ≡ true
undecided decided props name shown absent =
    let out : list_any (bytes_eq name) decided ≡ false = sym (place_any decided name) ∙ absent in
    let none : last_pair shown.0 name ≡ None = none_of (last_pair shown.0 name) (sym (shown.1.names name) ∙ out) in
    no_value (lookup_in props.held name) (shown.1.values name ∙ ap legal_value_of none)
