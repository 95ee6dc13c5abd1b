-- A legal value is read from how it is written.
use Rattle.std.proofs.Common.{◌≡◌, ℕ, suc, zero, ◌+◌, ◌/◌, ◌<◌, Bool, true, false, cond, ◌&&◌, nat_lt, List, [], ◌∷◌, Some, None, Result, Ok, Err, refl, ap, sym, ◌∙◌, codes, inl, inr, arith}
use Rattle.std.specs.List.{list_all}
use Rattle.std.specs.Str.{is_utf8, bytes_eq, chars}
use Rattle.std.specs.Cmp.Lexicographic.{same_text, other_text}
use Rattle.std.proofs.lemmas.Bool.{and_parts, ltb-true, lt-ltb}
use Rattle.std.proofs.lemmas.List.Folds.{list_all-append}
use lib.Utf8.{scalar, scalars, scalar_cases, encode, encodes, next}
use Rattle.hex.specs.Hex.{IsBytes, decode_of, encode_lower}
use Rattle.hex.specs.declared.error.FromHexError.{FromHexError}
use Rattle.hex.proofs.HexLemmas.{decode_of-encode_lower}
use Rattle.init_base.specs.Value.{is_short_value}
use Rattle.persist_file.specs.Causes.{as_written, hex_value}
use Rattle.persist_file.specs.Store.{hex_text}

-- ---- a legal value is of bytes

abbrev pub is_byte : ℕ → Bool
is_byte b = nat_lt b 256

abbrev pub are_bytes : List ℕ → Bool
are_bytes xs = list_all is_byte xs

pub join : (a b : Bool) → a ≡ true → b ≡ true → (a && b) ≡ true
join true b h i = i
join false b h i = h

next_byte : (c : ℕ) → is_byte (next c) ≡ true
next_byte c = lt-ltb (next c) 256 (omega arith)

encoded : (c : ℕ) → c < 1114112 → are_bytes (encode c) ≡ true
unfolding encode
encoded c h = by (nat_lt c 128) (nat_lt c 2048) (nat_lt c 65536) refl refl refl
  where
    by : (x y z : Bool) → nat_lt c 128 ≡ x → nat_lt c 2048 ≡ y → nat_lt c 65536 ≡ z
        → are_bytes (cond x (c ∷ []) (cond y ((192 + c / 64) ∷ next c ∷ []) (cond z ((224 + c / 4096) ∷ next (c / 64) ∷ next c ∷ []) ((240 + c / 262144) ∷ next (c / 4096) ∷ next (c / 64) ∷ next c ∷ [])))) ≡ true
    by true y z e f g = join (is_byte c) true (lt-ltb c 256 (omega (arith, ltb-true c 128 e))) refl
    by false true z e f g =
        join (is_byte (192 + c / 64)) (is_byte (next c) && true) (lt-ltb _ 256 (omega (arith, ltb-true c 2048 f))) (join (is_byte (next c)) true (next_byte c) refl)
    by false false true e f g =
        join (is_byte (224 + c / 4096)) (is_byte (next (c / 64)) && (is_byte (next c) && true)) (lt-ltb _ 256 (omega (arith, ltb-true c 65536 g)))
        (join (is_byte (next (c / 64))) (is_byte (next c) && true) (next_byte (c / 64)) (join (is_byte (next c)) true (next_byte c) refl))
    by false false false e f g =
        join (is_byte (240 + c / 262144)) (is_byte (next (c / 4096)) && (is_byte (next (c / 64)) && (is_byte (next c) && true))) (lt-ltb _ 256 (omega (arith, h)))
        (join (is_byte (next (c / 4096))) (is_byte (next (c / 64)) && (is_byte (next c) && true)) (next_byte (c / 4096))
        (join (is_byte (next (c / 64))) (is_byte (next c) && true) (next_byte (c / 64)) (join (is_byte (next c)) true (next_byte c) refl)))

low : (c : ℕ) → scalar c ≡ true → c < 1114112
low c h = elim (scalar_cases c h) [ inl small ↦ omega arith | inr large ↦ large.1 ]

all_encoded : (cs : List ℕ) → scalars cs ≡ true → are_bytes (encodes cs) ≡ true
all_encoded [] h = refl
all_encoded (c ∷ cs) h =
    let parts = and_parts (scalar c) (scalars cs) h in
    list_all-append is_byte (encode c) (encodes cs) ∙ join (are_bytes (encode c)) (are_bytes (encodes cs)) (encoded c (low c parts.0)) (all_encoded cs parts.1)

pub byte_at : (xs : List ℕ) → are_bytes xs ≡ true → IsBytes xs
byte_at [] h i = omega arith
byte_at (x ∷ xs) h zero = ltb-true x 256 (and_parts (is_byte x) (are_bytes xs) h).0
byte_at (x ∷ xs) h (suc i) = byte_at xs (and_parts (is_byte x) (are_bytes xs) h).1 i

pub legal_bytes : (value : List ℕ) → is_short_value value ≡ true → are_bytes value ≡ true
unfolding is_utf8
legal_bytes value h =
    let utf8 = (and_parts _ (is_utf8 value) h).1 in
    let parts = and_parts (scalars (chars value)) (bytes_eq (encodes (chars value)) value) utf8 in
    (sym (ap are_bytes (same_text (encodes (chars value)) value (sym parts.1))) ∙ all_encoded (chars value) parts.0)

-- ---- version 1

pub same_bytes : (xs : List ℕ) → bytes_eq xs xs ≡ true
same_bytes xs = elim (bytes_eq xs xs) as (λ b. b ≡ bytes_eq xs xs → b ≡ true) [ true ↦ λ e. refl | false ↦ λ e. absurd (other_text xs xs e refl) ] refl

digits_read : (digits value : List ℕ) → digits ≡ hex_text value → decode_of digits ≡ Ok value → hex_value digits ≡ Some value
digits_read digits value is decoded = by (bytes_eq digits (codes "-")) refl
  where
    by : (same : Bool) → bytes_eq digits (codes "-") ≡ same → hex_value digits ≡ Some value
    by true e =
        let lone : decode_of (codes "-") ≡ Ok value = sym (ap decode_of (same_text digits (codes "-") (sym e))) ∙ decoded in
        absurd (cc lone)
    by false e = rw (e, decoded, sym is, same_bytes digits) refl

pub hex_read : (value : List ℕ) → is_short_value value ≡ true → hex_value (hex_text value) ≡ Some value
hex_read [] h = refl
hex_read (b ∷ rest) h =
    digits_read (encode_lower (b ∷ rest)) (b ∷ rest) refl (decode_of-encode_lower (b ∷ rest) (byte_at (b ∷ rest) (legal_bytes (b ∷ rest) h)))

as_written_is : (word value : List ℕ) (decoded : Result (List ℕ) FromHexError) → as_written word decoded ≡ Some value → word ≡ hex_text value
as_written_is word value (Err why) h = absurd (cc h)
as_written_is word value (Ok found) h = by (bytes_eq (hex_text found) word) refl h
  where
    by : (same : Bool) → bytes_eq (hex_text found) word ≡ same → cond same (Some found) None ≡ Some value → word ≡ hex_text value
    by true e i = let is : found ≡ value = cc i in sym (same_text (hex_text found) word (sym e)) ∙ ap hex_text is
    by false e i = absurd (cc i)

pub hex_written : (word value : List ℕ) → hex_value word ≡ Some value → word ≡ hex_text value
hex_written word value h = by (bytes_eq word (codes "-")) refl h
  where
    by : (same : Bool) → bytes_eq word (codes "-") ≡ same → cond same (Some []) (as_written word (decode_of word)) ≡ Some value → word ≡ hex_text value
    by true e i = let none : [] ≡ value = cc i in same_text word (codes "-") (sym e) ∙ ap hex_text none
    by false e i = as_written_is word value (decode_of word) i
