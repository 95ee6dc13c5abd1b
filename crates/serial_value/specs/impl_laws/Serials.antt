-- The parts of a serial.
use Rattle.std.proofs.Common.{◌≡◌, ℕ, ◌+◌, ◌*◌, ◌/◌, ◌%◌, ◌^◌, ◌<◌, ◌≤◌, List, length, false, eqb, true, eq-eqb, ne_eqb, add-zero, arith, ap, sym, ◌∙◌}
use mathlib.Core.Logic.{dite}
use native.Mathlib.Decide.{ℕ_discrete}
use Rattle.std.proofs.lemmas.Nat.{div-mul-add, mod-mul-add, shr_split}
use Rattle.std.proofs.Math.Dec.{leb}
use Rattle.std.proofs.lemmas.Bool.{cond-true, le-leb}
use Rattle.init_machine.specs.Serial.{top_byte, clean_serial, dirty_serial, top_in, rank, number_in, is_dirty}

pub top_in-serial : (len number dirt : ℕ) → number < 2 ^ 55 → dirt < 2 → top_in (clean_serial len number + dirt) ≡ len
top_in-serial len number dirt small bit =
    ap (λ (n : ℕ). n / 2 ^ 56) (omega arith) ∙ div-mul-add len (2 ^ 56) (number * 2 + dirt) (omega arith)

pub rank-serial : (len number dirt : ℕ) → number < 2 ^ 55 → dirt < 2 → rank (clean_serial len number + dirt) ≡ number * 2 + dirt
rank-serial len number dirt small bit =
    ap (λ (n : ℕ). n % 2 ^ 56) (omega arith) ∙ mod-mul-add len (2 ^ 56) (number * 2 + dirt) (omega arith)

pub number_in-serial : (len number dirt : ℕ) → number < 2 ^ 55 → dirt < 2 → number_in (clean_serial len number + dirt) ≡ number
number_in-serial len number dirt small bit =
    ap (λ (n : ℕ). n / 2) (rank-serial len number dirt small bit) ∙ div-mul-add number 2 dirt bit

-- bit 0 is the dirt
pub bit-serial : (len number dirt : ℕ) → dirt < 2 → (clean_serial len number + dirt) % 2 ≡ dirt
bit-serial len number dirt bit =
    ap (λ (n : ℕ). n % 2) (omega arith) ∙ mod-mul-add (len * 2 ^ 55 + number) 2 dirt bit

-- a word is known by its length, number and dirt
pub same_serial : (v w : ℕ) → top_in v ≡ top_in w → rank v ≡ rank w → v ≡ w
same_serial v w lengths ranks =
    sym (shr_split v 56) ∙ (ap (λ (n : ℕ). n * 2 ^ 56 + v % 2 ^ 56) lengths ∙ (ap (λ (n : ℕ). w / 2 ^ 56 * 2 ^ 56 + n) ranks ∙ shr_split w 56))

pub layout : (len number : ℕ) → number < 2 ^ 55 → (top_in (clean_serial len number) ≡ len) × (number_in (clean_serial len number) ≡ number) × (is_dirty (clean_serial len number) ≡ false)
layout len number small = (
  ap top_in (sym (add-zero (clean_serial len number))) ∙ top_in-serial len number 0 small (omega arith),
  ap number_in (sym (add-zero (clean_serial len number))) ∙ number_in-serial len number 0 small (omega arith),
  ap (λ (n : ℕ). eqb (n % 2) 1) (sym (add-zero (clean_serial len number))) ∙ ap (λ (n : ℕ). eqb n 1) (bit-serial len number 0 (omega arith)),
)

pub even_when_clean : (w : ℕ) → is_dirty w ≡ false → w % 2 ≡ 0
even_when_clean w clean = dite (ℕ_discrete (w % 2) 1)
    (λ odd. let dirty : is_dirty w ≡ true = eq-eqb (w % 2) 1 odd in absurd (cc))
    (λ even. omega arith)

pub odd_when_dirty : (w : ℕ) → is_dirty w ≡ true → w % 2 ≡ 1
odd_when_dirty w dirty = dite (ℕ_discrete (w % 2) 1)
    (λ odd. odd)
    (λ even. let clean : is_dirty w ≡ false = ne_eqb (w % 2) 1 even in absurd (cc))

pub clean_when_even : (w : ℕ) → w % 2 ≡ 0 → is_dirty w ≡ false
clean_when_even w even = ne_eqb (w % 2) 1 (λ odd. omega arith)

pub dirty_when_odd : (w : ℕ) → w % 2 ≡ 1 → is_dirty w ≡ true
dirty_when_odd w odd = eq-eqb (w % 2) 1 odd

-- a clean serial with bit 0 set is dirty
pub dirtied : (w : ℕ) → is_dirty w ≡ false → is_dirty (dirty_serial w) ≡ true
dirtied w clean = let even = even_when_clean w clean in dirty_when_odd (w + 1) (omega arith)

-- the three parts of a clean serial, and of the dirty one above it
pub rank-clean : (len number : ℕ) → number < 2 ^ 55 → rank (clean_serial len number) ≡ number * 2
rank-clean len number small = ap rank (sym (add-zero (clean_serial len number))) ∙ (rank-serial len number 0 small (omega arith) ∙ add-zero (number * 2))

pub rank-dirty : (len number : ℕ) → number < 2 ^ 55 → rank (dirty_serial (clean_serial len number)) ≡ number * 2 + 1
rank-dirty len number small = rank-serial len number 1 small (omega arith)

pub clean-is_clean : (len number : ℕ) → is_dirty (clean_serial len number) ≡ false
clean-is_clean len number = clean_when_even (clean_serial len number) (ap (λ (n : ℕ). n % 2) (sym (add-zero (clean_serial len number))) ∙ bit-serial len number 0 (omega arith))

pub layout_dirty : (len number : ℕ) → number < 2 ^ 55 → (top_in (dirty_serial (clean_serial len number)) ≡ len) × (number_in (dirty_serial (clean_serial len number)) ≡ number) × (is_dirty (dirty_serial (clean_serial len number)) ≡ true)
layout_dirty len number small = (
  top_in-serial len number 1 small (omega arith),
  number_in-serial len number 1 small (omega arith),
  dirtied (clean_serial len number) (clean-is_clean len number),
)

-- bit 0 of a clean serial is the lowest of its rank
pub rank_dirtied : (w : ℕ) → is_dirty w ≡ false → rank (dirty_serial w) ≡ rank w + 1
rank_dirtied w clean = let even = even_when_clean w clean in omega arith

pub top_byte-short : (value : List ℕ) → length value ≤ 91 → top_byte value ≡ length value
top_byte-short value short = cond-true (leb (length value) 91) (length value) 255 (le-leb (length value) 91 short)
