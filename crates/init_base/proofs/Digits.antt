-- Numbers in decimal, digit by digit.
use Rattle.std.proofs.Common.{◌≡◌, ℕ, ◌+◌, ◌-◌, ◌*◌, ◌<◌, ◌≤◌, true, List, [], ◌∷◌, length, drop, get_or, suc, sym, ap, ◌∙◌, arith}
use Rattle.std.specs.Char.{is_ascii_digit, digit_value}
use Rattle.std.specs.List.{list_all}
use Rattle.std.specs.Str.Parse.{digits_value, digits_value_after}
use Rattle.std.proofs.Math.ListN.{drop_of_length-le}
use Rattle.std.proofs.Math.Seq.{drop-cons}
use Rattle.std.proofs.lemmas.Bool.{and_parts}
use Rattle.std.proofs.lemmas.Bool.Decides.{nat_tests}

pub digit_value_is : (c : ℕ) → is_ascii_digit c ≡ true → digit_value c ≡ c - 48
digit_value_is c digit = grind (arith, nat_tests)

pub value_grows : (n : ℕ) (ds : List ℕ) → n ≤ digits_value_after 10 n ds
value_grows n [] = omega arith
value_grows n (c ∷ cs) = omega (arith, value_grows (n * 10 + digit_value c) cs)

-- digits that come to more than the most so far
pub past_most : (most number i : ℕ) (word : List ℕ) → i < length word → list_all is_ascii_digit (drop i word) ≡ true
    → digits_value_after 10 number (drop i word) ≡ digits_value 10 word → most < 10 * number + (get_or word i 0 - 48) → most < digits_value 10 word
past_most most number i word low digits left past =
    let cut : drop i word ≡ get_or word i 0 ∷ drop (suc i) word = drop-cons word i 0 low in
    let all : list_all is_ascii_digit (get_or word i 0 ∷ drop (suc i) word) ≡ true = ap (list_all is_ascii_digit) (sym cut) ∙ digits in
    let digit = digit_value_is (get_or word i 0) (and_parts (is_ascii_digit (get_or word i 0)) (list_all is_ascii_digit (drop (suc i) word)) all).0 in
    let value : digits_value_after 10 (number * 10 + digit_value (get_or word i 0)) (drop (suc i) word) ≡ digits_value 10 word =
    ap (digits_value_after 10 number) (sym cut) ∙ left in
    omega (arith, digit, value, value_grows (number * 10 + digit_value (get_or word i 0)) (drop (suc i) word))

-- all digits were read
pub all_read : (number i : ℕ) (word : List ℕ) → length word ≤ i → digits_value_after 10 number (drop i word) ≡ digits_value 10 word
    → digits_value 10 word ≡ number
all_read number i word end left = sym left ∙ ap (digits_value_after 10 number) (drop_of_length-le word end)
