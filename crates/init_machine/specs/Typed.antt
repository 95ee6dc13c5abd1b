-- Which values a property of a type may have (after the types of AOSP's property_contexts; that numbers are decimal, and
-- that `double` and `size` aren't checked, is this project's profile). The empty value passes each type.
use Rattle.std.specs.Prelude.{ℕ, ◌+◌, ◌-◌, ◌*◌, ◌^◌, Bool, true, false, ◌&&◌, ◌||◌, ◌==◌, nat_le, nat_lt, if◌then◌else◌, List, [], ◌∷◌, length, codes}
use Rattle.std.specs.List.{fold, list_all, list_any}
use Rattle.std.specs.Str.{bytes_eq}
use Rattle.init_machine.specs.declared.type_kind.TypeKind.{TypeKind}
use Rattle.init_machine.specs.declared.type_kind.TypeKind.TheVariants as kind

abbrev pub is_digit : ℕ → Bool
is_digit b = nat_le 48 b && nat_le b 57

-- what decimal digits mean
abbrev pub number_of : List ℕ → ℕ
number_of digits = fold (λ number b. number * 10 + (b - 48)) 0 digits

-- decimal digits, one at least and so many at most
abbrev pub is_decimal : ℕ → List ℕ → Bool
is_decimal most text = nat_le 1 (length text) && nat_le (length text) most && list_all is_digit text

-- 1 to 20 digits of a number of 64 bits without a sign
abbrev pub is_uint : List ℕ → Bool
is_uint text = is_decimal 20 text && nat_lt (number_of text) (2 ^ 64)

-- an optional `-` (45) and 1 to 19 digits of a number of 64 bits with a sign
abbrev pub is_int : List ℕ → Bool
is_int [] = false
is_int (b ∷ rest) =
    if b == 45 then is_decimal 19 rest && nat_le (number_of rest) (2 ^ 63)
    else is_decimal 19 (b ∷ rest) && nat_lt (number_of (b ∷ rest)) (2 ^ 63)

abbrev pub is_one_of : List (List ℕ) → List ℕ → Bool
is_one_of texts text = list_any (λ one. bytes_eq one text) texts

-- the form of a value that isn't empty; Any stands for the types `string`, `double` and `size`, whose values aren't checked
abbrev pub has_form : TypeKind → List ℕ → Bool
has_form kind.Any value = true
has_form kind.Bool value = is_one_of (codes "0" ∷ codes "1" ∷ codes "false" ∷ codes "true" ∷ []) value
has_form kind.Int value = is_int value
has_form kind.Uint value = is_uint value
has_form (kind.Enum values) value = is_one_of values value

-- whether a property of this type may have this value
unfoldable pub is_typed : TypeKind → List ℕ → Bool
is_typed kind value = length value == 0 || has_form kind value
