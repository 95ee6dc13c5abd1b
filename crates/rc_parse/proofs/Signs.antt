-- The first `=` of a text.
use Rattle.std.proofs.Common.{◌≡◌, ℕ, ◌+◌, Bool, true, false, cond, List, length, take, drop, refl, ap, sym, ◌∙◌, Option, Some, None, nat_lt, IsTrue, ◌↔◌}
use Rattle.std.specs.List.{list_any, position, position_or_len, slice_range}
use Rattle.std.specs.Option.{IsSome, is_some}
use Rattle.std.proofs.Math.Nat.{sub-zero}
use Rattle.init_base.proofs.FirstPlaces.{any_by_place}
use Rattle.rc_parse.specs.internal.Joining.{Parts}
use Rattle.rc_parse.specs.Triggers.{is_equals_sign}
use Rattle.rc_parse.proofs.Firsts.{all_behind}

-- an answer that is there exactly where a test holds
pub some_test : {A : Type 0} (answer : Option A) (b : Bool) → IsSome answer ↔ IsTrue b → is_some answer ≡ b
some_test None true h = let e : false ≡ true = h.1 refl in cc
some_test None false h = refl
some_test (Some value) true h = refl
some_test (Some value) false h = sym (h.0 refl)

found : (t : Bool) (a place : ℕ) → cond t (Some a) None ≡ Some place → (t ≡ true) × (a ≡ place)
found true a place h = (refl, cc)
found false a place h = cc

not_found : (t : Bool) (a : ℕ) → cond t (Some a) None ≡ None → t ≡ false
not_found true a h = cc
not_found false a h = refl

pub parts_sliced : (text name value : List ℕ) (place len : ℕ) → Some place ≡ position is_equals_sign text
    → name ≡ slice_range text 0 place → len ≡ length text → value ≡ slice_range text (place + 1) len → Parts text name value
parts_sliced text name value place len h name_is end value_is =
    let f = found (nat_lt (position_or_len is_equals_sign text) (length text)) (position_or_len is_equals_sign text) place (sym h) in
    record {
      has_sign = sym (any_by_place is_equals_sign text) ∙ f.0;
      name_is = name_is ∙ ap (λ (n : ℕ). take n text) (sub-zero place ∙ sym f.1);
      value_is = value_is ∙ all_behind text (place + 1) len end ∙ ap (λ (n : ℕ). drop (n + 1) text) (sym f.1);
    }

pub no_parts : (text : List ℕ) → None ≡ position is_equals_sign text → list_any is_equals_sign text ≡ false
no_parts text h = sym (any_by_place is_equals_sign text) ∙ not_found _ (position_or_len is_equals_sign text) (sym h)

pub sign_at : (text : List ℕ) (place : ℕ) → Some place ≡ position is_equals_sign text
    → (list_any is_equals_sign text ≡ true) × (position_or_len is_equals_sign text ≡ place)
sign_at text place h =
    let f = found (nat_lt (position_or_len is_equals_sign text) (length text)) (position_or_len is_equals_sign text) place (sym h) in
    (sym (any_by_place is_equals_sign text) ∙ f.0, f.1)
