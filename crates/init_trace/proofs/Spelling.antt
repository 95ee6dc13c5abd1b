-- What texts and numbers are read as again, and that no space and no LF stands in their spelling.
use Rattle.std.proofs.Common.{◌≡◌, ℕ, ◌+◌, ◌-◌, ◌*◌, ◌/◌, ◌%◌, ◌^◌, ◌<◌, zero, suc, Bool, true, false, ◌&&◌, ◌==◌, cond, nat_lt, List, [], ◌∷◌, ◌++◌, Option, Some, None, refl, ap, ◌∙◌, arith}
use Rattle.std.specs.Fmt.{decimal, digits, digits_onto, digit_glyph}
use Rattle.std.specs.Int.{w64, to_be_bytes, from_be_bytes}
use Rattle.std.specs.List.{flat_map}
use Rattle.std.specs.Str.Parse.{digits_value}
use Rattle.std.proofs.lemmas.Bool.Decides.{nat_tests}
use Rattle.std.proofs.lemmas.Fmt.{decimal_is_IsNumeral}
use Rattle.std.proofs.lemmas.Nat.{from_be_bytes-to_be_bytes_8}
use Rattle.init_trace.specs.Quoted.{is_plain, hex_byte, quoted_byte, quoted, hex16}
use Rattle.init_trace.proofs.Splitting.{is_inner, is_field}

-- the value of a hexadecimal digit
abbrev hex_value : Bool → ℕ → ℕ
hex_value upper c = cond (nat_lt c 58) (c - 48) (cond upper (c - 55) (c - 87))

hex_value-digit_glyph : (upper : Bool) (d : ℕ) → hex_value upper (digit_glyph upper d) ≡ d
hex_value-digit_glyph true d = grind (arith, nat_tests)
hex_value-digit_glyph false d = grind (arith, nat_tests)

-- behind a `%`, and behind its first digit
abbrev unquoted_from : List ℕ → Option (Option ℕ) → List ℕ
unquoted_from [] s = []
unquoted_from (b ∷ rest) None = cond (b == 37) (unquoted_from rest (Some None)) (b ∷ unquoted_from rest None)
unquoted_from (b ∷ rest) (Some None) = unquoted_from rest (Some (Some (hex_value true b)))
unquoted_from (b ∷ rest) (Some (Some high)) = (16 * high + hex_value true b) ∷ unquoted_from rest None

-- the text with this q form
pub unquoted : List ℕ → List ℕ
unquoted form = unquoted_from form None

unquoted_choice : (plain : Bool) (b : ℕ) (rest : List ℕ) → is_plain b ≡ plain → unquoted_from (cond plain (b ∷ []) (37 ∷ hex_byte true b) ++ rest) None ≡ b ∷ unquoted_from rest None
unquoted_choice true b rest h =
    let other : (b == 37) ≡ false = grind (arith, nat_tests) in
    rw other refl
unquoted_choice false b rest h =
    ap (λ v. v ∷ unquoted_from rest None) (rw (hex_value-digit_glyph true (b / 16), hex_value-digit_glyph true (b % 16)) (omega arith))

unquoted-quoted_bytes : (text : List ℕ) → unquoted_from (flat_map quoted_byte text) None ≡ text
unquoted-quoted_bytes [] = refl
unquoted-quoted_bytes (b ∷ rest) =
    unquoted_choice (is_plain b) b (flat_map quoted_byte rest) refl ∙ ap (λ t. b ∷ t) (unquoted-quoted_bytes rest)

pub unquoted-quoted : (text : List ℕ) → unquoted (quoted text) ≡ text
unfolding unquoted quoted
unquoted-quoted [] = refl
unquoted-quoted (b ∷ rest) = unquoted-quoted_bytes (b ∷ rest)

-- the number with these digits
pub number_of : List ℕ → ℕ
number_of field = digits_value 10 field

pub number_of-decimal : (n : ℕ) → n < 2 ^ 64 → number_of (decimal n) ≡ n
unfolding number_of
number_of-decimal n h = (decimal_is_IsNumeral n h).1

abbrev unhexed_from : List ℕ → Option ℕ → List ℕ
unhexed_from [] s = []
unhexed_from (c ∷ rest) None = unhexed_from rest (Some (hex_value false c))
unhexed_from (c ∷ rest) (Some high) = (16 * high + hex_value false c) ∷ unhexed_from rest None

unhexed-hex_bytes : (bytes : List ℕ) → unhexed_from (flat_map (hex_byte false) bytes) None ≡ bytes
unhexed-hex_bytes [] = refl
unhexed-hex_bytes (b ∷ rest) =
    let value : 16 * hex_value false (digit_glyph false (b / 16)) + hex_value false (digit_glyph false (b % 16)) ≡ b =
    rw (hex_value-digit_glyph false (b / 16), hex_value-digit_glyph false (b % 16)) (omega arith) in
    ap (λ v. v ∷ unhexed_from (flat_map (hex_byte false) rest) None) value ∙ ap (λ t. b ∷ t) (unhexed-hex_bytes rest)

-- the serial with these digits
pub serial_of : List ℕ → ℕ
serial_of field = from_be_bytes w64 (unhexed_from field None)

pub serial_of-hex16 : (n : ℕ) → n < 2 ^ 64 → serial_of (hex16 n) ≡ n
unfolding serial_of hex16
serial_of-hex16 n h = ap (from_be_bytes w64) (unhexed-hex_bytes (to_be_bytes w64 n)) ∙ from_be_bytes-to_be_bytes_8 n h

-- no space and no LF
inner_glyph : (upper : Bool) (d : ℕ) → is_inner (digit_glyph upper d) ≡ true
inner_glyph true d = grind (arith, nat_tests)
inner_glyph false d = grind (arith, nat_tests)

is_field-digits_onto : (k n : ℕ) (acc : List ℕ) → is_field acc ≡ true → is_field (digits_onto k 10 false n acc) ≡ true
is_field-digits_onto zero n acc h = h
is_field-digits_onto (suc k) n acc h =
    let more : is_field (digit_glyph false (n % 10) ∷ acc) ≡ true = rw (inner_glyph false (n % 10)) h in
    elim (n / 10 == 0) as (λ v. is_field (cond v (digit_glyph false (n % 10) ∷ acc) (digits_onto k 10 false (n / 10) (digit_glyph false (n % 10) ∷ acc))) ≡ true)
    [ true ↦ more | false ↦ is_field-digits_onto k (n / 10) (digit_glyph false (n % 10) ∷ acc) more ]

pub is_field-decimal : (n : ℕ) → is_field (decimal n) ≡ true
unfolding digits
is_field-decimal n = is_field-digits_onto 64 n [] refl

is_field-append : (a b : List ℕ) → is_field a ≡ true → is_field b ≡ true → is_field (a ++ b) ≡ true
is_field-append [] b h k = k
is_field-append (x ∷ a) b h k =
    elim (is_inner x) as (λ v. (v && is_field a) ≡ true → (v && is_field (a ++ b)) ≡ true) [ true ↦ (λ e. is_field-append a b e k) | false ↦ (λ e. e) ] h

is_field-hex_byte : (upper : Bool) (b : ℕ) → is_field (hex_byte upper b) ≡ true
is_field-hex_byte upper b = rw (inner_glyph upper (b / 16), inner_glyph upper (b % 16)) refl

is_field-choice : (plain : Bool) (b : ℕ) → is_plain b ≡ plain → is_field (cond plain (b ∷ []) (37 ∷ hex_byte true b)) ≡ true
is_field-choice true b h = let inner : is_inner b ≡ true = grind (arith, nat_tests) in rw inner refl
is_field-choice false b h = is_field-hex_byte true b

is_field-quoted_bytes : (text : List ℕ) → is_field (flat_map quoted_byte text) ≡ true
is_field-quoted_bytes [] = refl
is_field-quoted_bytes (b ∷ rest) =
    is_field-append (quoted_byte b) (flat_map quoted_byte rest) (is_field-choice (is_plain b) b refl) (is_field-quoted_bytes rest)

pub is_field-quoted : (text : List ℕ) → is_field (quoted text) ≡ true
unfolding quoted
is_field-quoted [] = refl
is_field-quoted (b ∷ rest) = is_field-quoted_bytes (b ∷ rest)

is_field-hex_bytes : (bytes : List ℕ) → is_field (flat_map (hex_byte false) bytes) ≡ true
is_field-hex_bytes [] = refl
is_field-hex_bytes (b ∷ rest) =
    is_field-append (hex_byte false b) (flat_map (hex_byte false) rest) (is_field-hex_byte false b) (is_field-hex_bytes rest)

pub is_field-hex16 : (n : ℕ) → is_field (hex16 n) ≡ true
unfolding hex16
is_field-hex16 n = is_field-hex_bytes (to_be_bytes w64 n)
