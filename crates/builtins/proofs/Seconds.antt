-- Times that are out of form.
use Rattle.std.proofs.Common.{◌≡◌, ℕ, ◌+◌, ◌-◌, ◌==◌, Bool, true, false, ◌&&◌, if◌then◌else◌, List, length, take, drop, refl, ap, sym, ◌∙◌, Some, None, nat_le}
use Rattle.std.specs.List.{position}
use Rattle.std.proofs.lemmas.List.{take_rest}
use Rattle.init_machine.specs.Tasks.{fraction, has_fraction, is_seconds, millis_of, whole_part}
use Rattle.init_machine.specs.Typed.{is_decimal}
use Rattle.builtins.proofs.Places.{place_found}

is_out : (t : Bool) (n : ℕ) → None ≡ (if t then Some n else None) → t ≡ false
is_out true n h = cc
is_out false n h = refl

and_false : (a c : Bool) → ((a && false) && c) ≡ false
and_false true c = refl
and_false false c = refl

bad_fraction : (text : List ℕ) (at n : ℕ) → Some at ≡ position (λ b. b == 46) text
    → None ≡ (if is_decimal 9 (take (length text - (at + 1)) (drop (at + 1) text)) then Some n else None) → is_seconds text ≡ false
bad_fraction text at n h none =
    let f = place_found (λ b. b == 46) text at h in
    let same : take (length text - (at + 1)) (drop (at + 1) text) ≡ fraction text = take_rest text (at + 1) ∙ ap (λ (k : ℕ). drop (k + 1) text) f.first in
    let bad : is_decimal 9 (fraction text) ≡ false = sym (ap (is_decimal 9) same) ∙ is_out _ n none in
    let part : (if has_fraction text then is_decimal 9 (fraction text) else true) ≡ false = ap (λ (b : Bool). if b then is_decimal 9 (fraction text) else true) f.passes ∙ bad in
    ap (λ (b : Bool). (is_decimal 7 (whole_part text) && b) && nat_le (millis_of (whole_part text) (fraction text)) 1000000000) part
    ∙ and_false (is_decimal 7 (whole_part text)) _

-- a text whose fraction is out of form is no time
pub no_time : {T : Type 0} (text : List ℕ) (at n : ℕ) (time : T) → Some at ≡ position (λ b. b == 46) text
    → None ≡ (if is_decimal 9 (take (length text - (at + 1)) (drop (at + 1) text)) then Some n else None) → None ≡ (if is_seconds text then Some time else None)
no_time text at n time h none = rw (bad_fraction text at n h none) refl
