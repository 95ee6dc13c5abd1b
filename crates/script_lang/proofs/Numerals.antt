-- Numbers in decimal, without leading zeros.
use Rattle.std.proofs.Common.{◌≡◌, ℕ, ◌<◌, ◌≤◌, ◌^◌, Bool, true, false, cond, ◌&&◌, ◌==◌, nat_le, List, [], ◌∷◌, length, get_or, Some, None, refl, sym, ap, ◌∙◌, arith, rules, lit<, inl, inr}
use Rattle.std.specs.Char.{is_ascii_digit}
use Rattle.std.specs.Cmp.Lexicographic.{same_text}
use Rattle.std.specs.Fmt.{decimal}
use Rattle.std.specs.List.{list_all}
use Rattle.std.specs.Str.{bytes_eq}
use Rattle.std.specs.Str.Parse.{digits_value}
use Rattle.std.proofs.lemmas.Bool.{cases_lt, eqb-true, leb-true}
use Rattle.std.proofs.lemmas.Bool.Decides.{nat_tests}
use Rattle.std.proofs.lemmas.Fmt.{decimal_digit, first_decimal, digits_decimal, decimal-digits_value, digits_value-decimal}
use Rattle.std.proofs.lemmas.List.{nil_from_length}
use Rattle.std.proofs.lemmas.Str.Parse.{IsDigitsTest, IsNumeralModel, numerals_by_value}
use Rattle.init_machine.proofs.DistinctSums.{bytes_eq-refl}
use Rattle.script_lang.specs.Statements.{is_canonical, number_in}
use Rattle.std.specs.Cmp.{second_so}

tells : IsDigitsTest (λ ds. list_all is_ascii_digit ds ≡ true)
tells = record {
  empty = refl;
  parts = λ c cs h. (search rules, second_so (is_ascii_digit c) (list_all is_ascii_digit cs) h);
  more = λ c cs digit h. search rules;
}

own : IsNumeralModel (λ ds. list_all is_ascii_digit ds ≡ true) (digits_value 10)
own = numerals_by_value _ tells

-- ---- canonical words

no_zero : (d : ℕ) → (d == 48) ≡ false → d ≡ 48 → ⊥
no_zero d other h = let same : true ≡ false = sym (rw h refl) ∙ other in cc

canonical_form : (word : List ℕ) → is_canonical word ≡ true → digits_value 10 word < 2 ^ 64 → decimal (digits_value 10 word) ≡ word
canonical_form [] is small = cc
canonical_form (d ∷ ds) is small =
    elim (d == 48) as (λ t. (d == 48) ≡ t → decimal (digits_value 10 (d ∷ ds)) ≡ d ∷ ds) [
      | true ↦ λ zero.
          let alone : (length ds == 0) ≡ true = sym (rw zero refl) ∙ is in
          let none : length ds ≡ 0 = eqb-true (length ds) 0 alone in
          let digits : list_all is_ascii_digit (d ∷ ds) ≡ true =
          rw (eqb-true d 48 zero, nil_from_length ds none) refl in
          decimal-digits_value own (d ∷ ds) digits (omega arith) (λ h. omega arith) small
      | false ↦ λ other.
          let digits : list_all is_ascii_digit (d ∷ ds) ≡ true = sym (rw other refl) ∙ is in
          decimal-digits_value own (d ∷ ds) digits (omega arith) (λ (h : d ≡ 48). absurd (no_zero d other h)) small
    ] refl

digits_are_canonical : (word : List ℕ) → list_all is_ascii_digit word ≡ true → 48 < get_or word 0 0 → is_canonical word ≡ true
digits_are_canonical [] digits some = absurd (omega arith)
digits_are_canonical (d ∷ ds) digits some =
    let other : (d == 48) ≡ false = grind (arith, nat_tests) in
    rw other digits

decimal_is_canonical : (n : ℕ) → n < 2 ^ 64 → is_canonical (decimal n) ≡ true
decimal_is_canonical n small = elim (cases_lt 0 n) [
  | inl some ↦ digits_are_canonical (decimal n) (digits_decimal own n small) (first_decimal n some small)
  | inr none ↦
      let zero : n ≡ 0 = omega arith in
      rw (zero, decimal_digit 0 (lit< tt)) refl
]

-- ---- numbers in a range

pub number_big : (least most : ℕ) (word : List ℕ) → most < digits_value 10 word → number_in least most word ≡ None
number_big least most word big = grind (arith, nat_tests)

pub number_small : (least most : ℕ) (word : List ℕ) → digits_value 10 word < least → number_in least most word ≡ None
number_small least most word low = grind (arith, nat_tests)

other_form : (low high same : Bool) (n : ℕ) → same ≡ false → cond (low && high && same) (Some n) None ≡ None
other_form true true same n e = rw e refl
other_form true false same n e = refl
other_form false high same n e = refl

not_canonical : (word : List ℕ) → digits_value 10 word < 2 ^ 64 → is_canonical word ≡ false → bytes_eq (decimal (digits_value 10 word)) word ≡ false
not_canonical word small bad =
    elim (bytes_eq (decimal (digits_value 10 word)) word) as (λ b. b ≡ bytes_eq (decimal (digits_value 10 word)) word → b ≡ false) [
      | true ↦ λ same.
          let e : decimal (digits_value 10 word) ≡ word = same_text (decimal (digits_value 10 word)) word same in
          sym (decimal_is_canonical (digits_value 10 word) small) ∙ ap is_canonical e ∙ bad
      | false ↦ λ other. refl
    ] refl

pub number_bad : (least most : ℕ) (word : List ℕ) → most < 2 ^ 64 → false ≡ is_canonical word → number_in least most word ≡ None
number_bad least most word fits bad = elim (cases_lt most (digits_value 10 word)) [
  | inl big ↦ number_big least most word big
  | inr within ↦
      other_form (nat_le least (digits_value 10 word)) (nat_le (digits_value 10 word) most) (bytes_eq (decimal (digits_value 10 word)) word) (digits_value 10 word)
      (not_canonical word (omega arith) (sym bad))
]

pub number_good : (least most : ℕ) (word : List ℕ) → most < 2 ^ 64 → true ≡ is_canonical word → least ≤ digits_value 10 word
    → digits_value 10 word ≤ most → number_in least most word ≡ Some (digits_value 10 word)
number_good least most word fits is low high =
    let form : decimal (digits_value 10 word) ≡ word = canonical_form word (sym is) (omega arith) in
    let same : bytes_eq (decimal (digits_value 10 word)) word ≡ true = ap (λ w. bytes_eq w word) form ∙ bytes_eq-refl word in
    let above : nat_le least (digits_value 10 word) ≡ true = grind (arith, nat_tests) in
    let below : nat_le (digits_value 10 word) most ≡ true = grind (arith, nat_tests) in
    rw (above, below, same) refl

-- ---- numbers as they are written

pub number_read : (least most n : ℕ) → most < 2 ^ 64 → least ≤ n → n ≤ most → number_in least most (decimal n) ≡ Some n
number_read least most n fits low high =
    let small : n < 2 ^ 64 = omega arith in
    let value : digits_value 10 (decimal n) ≡ n = digits_value-decimal own n small in
    number_good least most (decimal n) fits (sym (decimal_is_canonical n small)) (omega arith) (omega arith) ∙ ap (λ v. Some v) value

-- what a number that was read is
pub record IsWritten (least most : ℕ) (word : List ℕ) (n : ℕ) : Type 0 where
  pub form : word ≡ decimal n
  pub low : least ≤ n
  pub high : n ≤ most

written : (above below same : Bool) (least most v : ℕ) (word : List ℕ) (n : ℕ) → nat_le least v ≡ above → nat_le v most ≡ below
    → bytes_eq (decimal v) word ≡ same → cond (above && below && same) (Some v) None ≡ Some n → IsWritten least most word n
written true true true least most v word n above below same e =
    let is : v ≡ n = cc in
    record {
      form = sym (same_text (decimal v) word (sym same)) ∙ ap decimal is;
      low = omega (arith, leb-true least v above, is);
      high = omega (arith, leb-true v most below, is);
    }
written true true false least most v word n above below same e = cc
written true false same least most v word n above below is e = cc
written false below same least most v word n above under is e = cc

pub number_written : (least most : ℕ) (word : List ℕ) (n : ℕ) → number_in least most word ≡ Some n → IsWritten least most word n
number_written least most word n e =
    let v = digits_value 10 word in
    written (nat_le least v) (nat_le v most) (bytes_eq (decimal v) word) least most v word n refl refl refl e
