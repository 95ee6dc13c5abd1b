-- A serial is read as it is written.
use Rattle.std.proofs.Common.{◌≡◌, ℕ, ◌+◌, ◌-◌, ◌*◌, ◌/◌, ◌%◌, ◌<◌, ◌≤◌, false, ◌&&◌, nat_le, List, [], ◌∷◌, ◌++◌, length, get_or, slice_index, take, drop, append_assoc, Option, Some, None, refl, sym, ap, subst, ◌∙◌, arith, inl, inr, suc, zero}
use Rattle.std.specs.Fmt.{digit_glyph}
use Rattle.std.specs.Int.{w64, to_be_bytes, from_be_bytes}
use Rattle.std.specs.List.{AllByRecursion, flat_map}
use Rattle.std.specs.Option.{option_map}
use Rattle.std.proofs.Math.Seq.{take-length}
use Rattle.std.proofs.lemmas.Bool.{leb-true}
use Rattle.std.proofs.lemmas.Bool.Decides.{nat_tests}
use Rattle.std.proofs.lemmas.Nat.{be_bytes_8, from_be_bytes-to_be_bytes_8}
use Rattle.init_base.specs.Quoted.{hex_byte}
use Rattle.init_trace.specs.Quoted.{hex16}
use Rattle.script_lang.specs.Statements.{with_two}
use Rattle.trace_reader.specs.Held.{Fits64}
use Rattle.trace_reader.specs.Reading.{bind}
use Rattle.trace_reader.specs.Words.{byte_in, bytes_in, digit_in, serial_in, serial_of}
use Rattle.trace_reader.proofs.Choices.{bind_some, both, if_some, two_some}
use Rattle.trace_reader.proofs.Spells.{Spells}

-- ---- digits

digit_complete : (v : ℕ) → v < 16 → digit_in (digit_glyph false v) ≡ Some v
digit_complete v h = grind (arith, nat_tests)

digit_sound : (digit v : ℕ) → digit_in digit ≡ Some v → (v < 16) × (digit ≡ digit_glyph false v)
digit_sound digit v e = elim (if_some (nat_le 48 digit && nat_le digit 57) _ _ v e) [
  | inl is ↦
      let p = both (nat_le 48 digit) (nat_le digit 57) is.0 in
      let low : 48 ≤ digit = leb-true 48 digit p.0 in
      let high : digit ≤ 57 = leb-true digit 57 p.1 in
      let same : digit - 48 ≡ v = let found = is.1 in cc in
      (omega arith, grind (arith, nat_tests))
  | inr isnt ↦ elim (if_some (nat_le 97 digit && nat_le digit 102) _ _ v isnt.1) [
    | inl is ↦
        let p = both (nat_le 97 digit) (nat_le digit 102) is.0 in
        let low : 97 ≤ digit = leb-true 97 digit p.0 in
        let high : digit ≤ 102 = leb-true digit 102 p.1 in
        let same : digit - 97 + 10 ≡ v = let found = is.1 in cc in
        (omega arith, grind (arith, nat_tests))
    | inr isnt ↦ let none = isnt.1 in cc
  ]
]

-- ---- bytes

byte_complete : (b : ℕ) → b < 256 → byte_in (digit_glyph false (b / 16)) (digit_glyph false (b % 16)) ≡ Some b
byte_complete b h =
    let whole : 16 * (b / 16) + b % 16 ≡ b = omega arith in
    ap (λ o. with_two (λ high low. 16 * high + low) o (digit_in (digit_glyph false (b % 16)))) (digit_complete (b / 16) (omega arith))
    ∙ ap (λ o. with_two (λ high low. 16 * high + low) (Some (b / 16)) o) (digit_complete (b % 16) (omega arith))
    ∙ ap (λ v. Some v) whole

bytes_complete : (bytes : List ℕ) → AllByRecursion (λ b. b < 256) bytes → bytes_in (flat_map (hex_byte false) bytes) ≡ Some bytes
bytes_complete [] h = refl
bytes_complete (b ∷ bytes) h =
    ap (λ o. with_two (λ byte bytes. byte ∷ bytes) o (bytes_in (flat_map (hex_byte false) bytes))) (byte_complete b h.0)
    ∙ ap (λ o. with_two (λ byte bytes. byte ∷ bytes) (Some b) o) (bytes_complete bytes h.1)

byte_sound : (high low b : ℕ) → byte_in high low ≡ Some b → (b < 256) × (high ∷ low ∷ [] ≡ hex_byte false b)
byte_sound high low b e =
    let got = two_some (λ high low. 16 * high + low) (digit_in high) (digit_in low) b e in
    let first = digit_sound high got.0 got.2 in
    let second = digit_sound low got.1 got.3 in
    let value : 16 * got.0 + got.1 ≡ b = got.4 in
    let above : got.0 < 16 = first.0 in
    let below : got.1 < 16 = second.0 in
    let upper : got.0 ≡ b / 16 = omega arith in
    let lower : got.1 ≡ b % 16 = omega arith in
    (omega arith, ap (λ h. h ∷ low ∷ []) (first.1 ∙ ap (digit_glyph false) upper) ∙ ap (λ l. digit_glyph false (b / 16) ∷ l ∷ []) (second.1 ∙ ap (digit_glyph false) lower))

bytes_sound : (word bytes : List ℕ) → bytes_in word ≡ Some bytes → (word ≡ flat_map (hex_byte false) bytes) × AllByRecursion (λ b. b < 256) bytes
bytes_sound [] bytes e =
    let none : [] ≡ bytes = cc in
    subst (λ bs. ([] ≡ flat_map (hex_byte false) bs) × AllByRecursion (λ b. b < 256) bs) none (refl, tt)
bytes_sound (high ∷ []) bytes e = cc
bytes_sound (high ∷ low ∷ rest) bytes e =
    let got = two_some (λ byte bytes. byte ∷ bytes) (byte_in high low) (bytes_in rest) bytes e in
    let first = byte_sound high low got.0 got.2 in
    let later = bytes_sound rest got.1 got.3 in
    subst (λ bs. (high ∷ low ∷ rest ≡ flat_map (hex_byte false) bs) × AllByRecursion (λ b. b < 256) bs) got.4
    (ap (λ (ds : List ℕ). ds ++ rest) first.1 ∙ ap (λ t. hex_byte false got.0 ++ t) later.0, (first.0, later.1))

-- a byte more behind those that were read
front_more : (front : List ℕ) (b : ℕ) (o : Option (List ℕ))
    → option_map (λ (more : List ℕ). front ++ more) (with_two (λ byte bytes. byte ∷ bytes) (Some b) o) ≡ option_map (λ (more : List ℕ). (front ++ b ∷ []) ++ more) o
front_more front b None = refl
front_more front b (Some bytes) = ap (λ bs. Some bs) (sym (append_assoc front (b ∷ []) bytes))

pub byte_more : (word front rest : List ℕ) (b : ℕ) → 2 ≤ length rest → byte_in (slice_index rest 0) (slice_index rest 1) ≡ Some b
    → option_map (λ (more : List ℕ). front ++ more) (bytes_in rest) ≡ bytes_in word
    → option_map (λ (more : List ℕ). (front ++ b ∷ []) ++ more) (bytes_in (take (length rest - 2) (drop 2 rest))) ≡ bytes_in word
byte_more word front [] b many e left = absurd (omega arith)
byte_more word front (high ∷ []) b many e left = absurd (omega arith)
byte_more word front (high ∷ low ∷ rest) b many e left =
    let count : length (high ∷ low ∷ rest) - 2 ≡ length rest = omega arith in
    ap (λ n. option_map (λ (more : List ℕ). (front ++ b ∷ []) ++ more) (bytes_in (take n rest))) count
    ∙ ap (λ r. option_map (λ (more : List ℕ). (front ++ b ∷ []) ++ more) (bytes_in r)) (take-length rest)
    ∙ sym (front_more front b (bytes_in rest))
    ∙ sym (ap (λ o. option_map (λ (more : List ℕ). front ++ more) (with_two (λ byte bytes. byte ∷ bytes) o (bytes_in rest))) e)
    ∙ left

-- ---- serials

small_bytes : (bytes : List ℕ) (i : ℕ) → AllByRecursion (λ b. b < 256) bytes → get_or bytes i 0 < 256
small_bytes [] i h = omega arith
small_bytes (b ∷ bytes) zero h = h.0
small_bytes (b ∷ bytes) (suc i) h = small_bytes bytes i h.1

-- the bytes of a serial
record IsSerial (bytes : List ℕ) (n : ℕ) : Type 0 where
  pub value : n ≡ from_be_bytes w64 bytes
  pub len : length bytes ≡ 8
  pub fits : Fits64 n

serial_of_bytes : (bytes : List ℕ) (n : ℕ) → AllByRecursion (λ b. b < 256) bytes → serial_of bytes ≡ Some n → IsSerial bytes n
serial_of_bytes (a ∷ b ∷ c ∷ d ∷ e ∷ f ∷ g ∷ h ∷ []) n all is =
    let same : from_be_bytes w64 (a ∷ b ∷ c ∷ d ∷ e ∷ f ∷ g ∷ h ∷ []) ≡ n = cc in
    let a_small : a < 256 = all.0 in
    let b_small : b < 256 = all.1.0 in
    let c_small : c < 256 = all.1.1.0 in
    let d_small : d < 256 = all.1.1.1.0 in
    let e_small : e < 256 = all.1.1.1.1.0 in
    let f_small : f < 256 = all.1.1.1.1.1.0 in
    let g_small : g < 256 = all.1.1.1.1.1.1.0 in
    let h_small : h < 256 = all.1.1.1.1.1.1.1.0 in
    record { value = sym same; len = refl; fits = omega arith }
serial_of_bytes _ n all is = cc

serial_sound : (word : List ℕ) (n : ℕ) → serial_in word ≡ Some n → (word ≡ hex16 n) × Fits64 n
unfolding hex16
serial_sound word n e =
    let got = bind_some (bytes_in word) serial_of n e in
    let bytes = bytes_sound word got.0 got.1 in
    let is = serial_of_bytes got.0 n bytes.1 got.2 in (
      bytes.0 ∙ ap (flat_map (hex_byte false)) (sym (be_bytes_8 got.0 n is.len (λ i. small_bytes got.0 i bytes.1) is.value)),
      is.fits,
    )

serial_complete : (n : ℕ) → Fits64 n → serial_in (hex16 n) ≡ Some n
unfolding hex16
serial_complete n h =
    ap (λ o. bind o serial_of) (bytes_complete (to_be_bytes w64 n) (omega arith, (omega arith, (omega arith, (omega arith, (omega arith, (omega arith, (omega arith, (omega arith, tt)))))))))
    ∙ ap (λ v. Some v) (from_be_bytes-to_be_bytes_8 n h)

pub serial : Spells ℕ serial_in hex16 Fits64
serial = record { sound = serial_sound; complete = serial_complete }
