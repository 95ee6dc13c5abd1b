-- Names by their beginning, and values without a fault.
use Rattle.std.proofs.Common.{◌≡◌, ℕ, Bool, true, false, ◌&&◌, nat_eq, nat_lt, nat_le, List, ◌++◌, length, drop, codes, Some, None, if◌then◌else◌, refl, ap, subst, arith}
use Rattle.std.proofs.lemmas.Bool.Decides.{Decides-eqb, nat_tests}
use Rattle.std.proofs.lemmas.Slice.Eq.{starts_is}
use Rattle.std.specs.List.{starts_with}
use Rattle.std.specs.Str.{is_utf8}
use Rattle.init_base.specs.Value.{fault_past, is_short_value, value_fault_under}
use Rattle.init_base.specs.declared.value.BadValue.TheVariants.{TooLong, NotUtf8}
use Rattle.init_machine.specs.Setting.{is_control, is_read_only, is_persistent}

begins_with : (name beginning : List ℕ) → starts_with nat_eq name beginning ≡ true → name ≡ beginning ++ drop (length beginning) name
begins_with name beginning begins = (starts_is Decides-eqb name beginning (starts_with nat_eq name beginning) refl).0 begins

pub persistent_is_no_control : (name : List ℕ) → is_persistent name ≡ true → is_control name ≡ false
persistent_is_no_control name begins = ap is_control (begins_with name (codes "persist.") begins)

pub read_only_is_no_control : (name : List ℕ) → is_read_only name ≡ true → is_control name ≡ false
read_only_is_no_control name begins = ap is_control (begins_with name (codes "ro.") begins)

short : (n : ℕ) → nat_lt 91 n ≡ false → nat_le n 91 ≡ true
short n long = grind (arith, nat_tests)

value_by : (long utf8 : Bool) (n : ℕ) → nat_lt 91 n ≡ long → (if long then Some (TooLong n) else (if utf8 then None else Some NotUtf8)) ≡ None → (nat_le n 91 && utf8) ≡ true
value_by true utf8 n is none = absurd (cc)
value_by false true n is none = ap (λ b. b && true) (short n is)
value_by false false n is none = absurd (cc)

pub persistent_is_not_read_only : (name : List ℕ) → is_persistent name ≡ true → is_read_only name ≡ false
persistent_is_not_read_only name begins = ap is_read_only (begins_with name (codes "persist.") begins)

pub value_is_short : (name value : List ℕ) → is_read_only name ≡ false → value_fault_under name value ≡ None → is_short_value value ≡ true
value_is_short name value often none =
    value_by (nat_lt 91 (length value)) (is_utf8 value) (length value) refl (subst (λ b. fault_past (if b then 8191 else 91) value ≡ None) often none)
