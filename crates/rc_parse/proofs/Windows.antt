-- Windows of `critical` that are the default of a property.
use Rattle.std.proofs.Common.{◌≡◌, ℕ, zero, suc, ◌<◌, ◌-◌, Bool, true, false, ◌&&◌, if◌then◌else◌, List, [], ◌∷◌, Option, Some, None, nat_eq, length, codes, take, drop, refl, sym, ap, ◌∙◌, arith}
use Rattle.std.specs.List.{starts_with, ends_with}
use Rattle.std.proofs.lemmas.Bool.{cond-true, cond-false}
use Rattle.std.specs.Option.{option_and_then}
use Rattle.init_base.specs.Name.{is_legal_name}
use Rattle.rc_parse.specs.Values.{onto_front, parts_at_default, default_between, default_window}

-- whether the text behind so many bytes begins with `:-`
abbrev pub begins_at : List ℕ → ℕ → Bool
begins_at text place = starts_with nat_eq (drop place text) (codes ":-")

pub parts_at_first : (text : List ℕ) (place : ℕ) → ((k : ℕ) → k < place → begins_at text k ≡ false) → begins_at text place ≡ true
    → parts_at_default text ≡ Some (take place text, drop 2 (drop place text))
parts_at_first [] zero before here = cc
parts_at_first [] (suc place) before here = cc
parts_at_first (b ∷ text) zero before here = cond-true _ _ _ here
parts_at_first (b ∷ text) (suc place) before here =
    cond-false _ _ _ (before 0 (omega arith))
    ∙ ap (onto_front b) (parts_at_first text place (λ k below. before (suc k) (omega arith)) here)

pub no_parts : (text : List ℕ) → ((k : ℕ) → k < length text → begins_at text k ≡ false) → parts_at_default text ≡ None
no_parts [] nowhere = refl
no_parts (b ∷ text) nowhere =
    cond-false _ _ _ (nowhere 0 (omega arith))
    ∙ ap (onto_front b) (no_parts text (λ k below. nowhere (suc k) (omega arith)))

-- ---- `${`, a name and `:-`, M and `}`

abbrev either : Bool → List ℕ → Option (List ℕ)
either test text = if test then Some text else None

none_is : (test : Bool) (text : List ℕ) → None ≡ either test text → test ≡ false
none_is true text h = cc
none_is false text h = refl

some_is : (test : Bool) (text name : List ℕ) → Some name ≡ either test text → (test ≡ true) × (name ≡ text)
some_is true text name h = (refl, cc)
some_is false text name h = cc

pub no_opening : (text front back : List ℕ) → parts_at_default text ≡ Some (front, back)
    → None ≡ (if starts_with nat_eq front (codes "${") then Some (drop 2 front) else None) → None ≡ default_window text
no_opening text front back parts none =
    let isnt = none_is (starts_with nat_eq front (codes "${")) (drop 2 front) none in
    sym (ap (option_and_then default_between) parts
    ∙ cond-false _ _ _ (ap (λ (b : Bool). (b && is_legal_name (drop 2 front)) && ends_with nat_eq back (codes "}")) isnt))

pub no_name : (text front back name : List ℕ) → parts_at_default text ≡ Some (front, back)
    → Some name ≡ (if starts_with nat_eq front (codes "${") then Some (drop 2 front) else None) → is_legal_name name ≡ false → None ≡ default_window text
no_name text front back name parts opened illegal =
    let is = some_is (starts_with nat_eq front (codes "${")) (drop 2 front) name opened in
    sym (ap (option_and_then default_between) parts
    ∙ cond-false _ _ _ (ap (λ (b : Bool). (b && is_legal_name (drop 2 front)) && ends_with nat_eq back (codes "}")) is.0
    ∙ ap (λ (n : List ℕ). is_legal_name n && ends_with nat_eq back (codes "}")) (sym is.1)
    ∙ ap (λ (b : Bool). b && ends_with nat_eq back (codes "}")) illegal))

pub at_closing : (text front back name : List ℕ) (result : Option (List ℕ)) → parts_at_default text ≡ Some (front, back)
    → Some name ≡ (if starts_with nat_eq front (codes "${") then Some (drop 2 front) else None) → is_legal_name name ≡ true
    → result ≡ (if ends_with nat_eq back (codes "}") then Some (take (length back - 1) back) else None) → result ≡ default_window text
at_closing text front back name result parts opened legal closed =
    let is = some_is (starts_with nat_eq front (codes "${")) (drop 2 front) name opened in
    closed ∙ sym (ap (option_and_then default_between) parts
    ∙ ap (λ (b : Bool). if (b && is_legal_name (drop 2 front)) && ends_with nat_eq back (codes "}") then Some (take (length back - 1) back) else None) is.0
    ∙ ap (λ (n : List ℕ). if is_legal_name n && ends_with nat_eq back (codes "}") then Some (take (length back - 1) back) else None) (sym is.1)
    ∙ ap (λ (b : Bool). if b && ends_with nat_eq back (codes "}") then Some (take (length back - 1) back) else None) legal)
