-- The order of words with their bytes swapped is the order of the bytes that they hold.
use Rattle.std.proofs.Common.{◌≡◌, ℕ, zero, suc, ◌+◌, ◌-◌, ◌*◌, ◌/◌, ◌^◌, ◌<◌, ◌≤◌, ◌⊎◌, not, true, false, ◌==◌, List, [], ◌∷◌, length, drop, get_or, sym, refl, ap, ◌∙◌, inl, inr, ⊎_elim, arith}
use mathlib.Core.Logic.{dite}
use native.Mathlib.Decide.{dec_lt}
use Rattle.std.specs.Int.{w64, div_ceil, from_le_bytes, from_be_bytes, swap_bytes}
use Rattle.std.specs.Cmp.{nat_cmp_is}
use Rattle.std.specs.Cmp.Lexicographic.{slice_cmp}
use Rattle.std.specs.Ordering.{nat_cmp, ordering_then, ordering_index}
use Rattle.std.specs.declared.cmp.Ordering.{Ordering}
use Rattle.std.specs.declared.cmp.Ordering.TheVariants.{Less, Equal, Greater}
use Rattle.std.proofs.lemmas.Nat.{le_bytes_8}
use Rattle.std.proofs.lemmas.List.{get_or-drop, length-drop, drop-drop}
use Rattle.std.proofs.Math.Seq.{drop-nil}
use Rattle.serial_value.specs.Words.{text_word}
use Rattle.property_trie.specs.TreeWords.{word_order}
use Rattle.property_trie.specs.TrieSteps.{IsShortText}
use Rattle.property_trie.proofs.Orders.{equal_lengths}

-- the first n bytes, with 0 past the end
abbrev padded : ℕ → List ℕ → List ℕ
padded zero bs = []
padded (suc n) [] = 0 ∷ padded n []
padded (suc n) (b ∷ bs) = b ∷ padded n bs

-- bytes as the digits of a number, the first the highest, behind those of this number
abbrev number_behind : ℕ → List ℕ → ℕ
number_behind high [] = high
number_behind high (b ∷ bs) = number_behind (high * 256 + b) bs

then_on : (o p q : Ordering) → ordering_then (ordering_then o p) q ≡ ordering_then o (ordering_then p q)
then_on Less p q = refl
then_on Equal p q = refl
then_on Greater p q = refl

cmp_less : (x y : ℕ) → x < y → nat_cmp x y ≡ Less
cmp_less x y less = sym (nat_cmp_is x y Less less)

cmp_greater : (x y : ℕ) → y < x → nat_cmp x y ≡ Greater
cmp_greater x y more = sym (nat_cmp_is x y Greater more)

-- one digit more
digit_more : (high high' b b' : ℕ) → b < 256 → b' < 256 → nat_cmp (high * 256 + b) (high' * 256 + b') ≡ ordering_then (nat_cmp high high') (nat_cmp b b')
digit_more high high' b b' small small' = ⊎_elim
    (λ (less : high < high'). cmp_less (high * 256 + b) (high' * 256 + b') (omega arith) ∙ sym (ap (λ (o : Ordering). ordering_then o (nat_cmp b b')) (cmp_less high high' less)))
    (⊎_elim
    (λ (same : high ≡ high').
    ap (λ (h : ℕ). nat_cmp (high * 256 + b) (h * 256 + b')) (sym same) ∙ below high b b' ∙ sym (ap (λ (o : Ordering). ordering_then o (nat_cmp b b')) (ap (λ (h : ℕ). nat_cmp high h) (sym same) ∙ equal_lengths high)))
    (λ (more : high' < high). cmp_greater (high * 256 + b) (high' * 256 + b') (omega arith) ∙ sym (ap (λ (o : Ordering). ordering_then o (nat_cmp b b')) (cmp_greater high high' more))))
    (three high high')
  where
    three : (x y : ℕ) → (x < y) ⊎ ((x ≡ y) ⊎ (y < x))
    three x y = dite (dec_lt x y) (λ l. inl l) (λ l. dite (dec_lt y x) (λ m. inr (inr m)) (λ m. inr (inl (omega arith))))

    below : (h x y : ℕ) → nat_cmp (h * 256 + x) (h * 256 + y) ≡ nat_cmp x y
    below h x y = ⊎_elim
        (λ (less : x < y). cmp_less (h * 256 + x) (h * 256 + y) (omega arith) ∙ sym (cmp_less x y less))
        (⊎_elim
        (λ (same : x ≡ y). ap (λ (z : ℕ). nat_cmp (h * 256 + x) (h * 256 + z)) (sym same) ∙ equal_lengths (h * 256 + x) ∙ sym (ap (λ (z : ℕ). nat_cmp x z) (sym same) ∙ equal_lengths x))
        (λ (more : y < x). cmp_greater (h * 256 + x) (h * 256 + y) (omega arith) ∙ sym (cmp_greater x y more)))
        (three x y)

-- digits compare as bytes do
digits : (xs ys : List ℕ) (high high' : ℕ) → length xs ≡ length ys → ((i : ℕ) → get_or xs i 0 < 256) → ((i : ℕ) → get_or ys i 0 < 256)
    → nat_cmp (number_behind high xs) (number_behind high' ys) ≡ ordering_then (nat_cmp high high') (slice_cmp nat_cmp xs ys)
digits [] [] high high' same small small' = sym (then_equal (nat_cmp high high'))
  where
    then_equal : (o : Ordering) → ordering_then o Equal ≡ o
    then_equal Less = refl
    then_equal Equal = refl
    then_equal Greater = refl
digits [] (y ∷ ys) high high' same small small' = absurd (omega arith)
digits (x ∷ xs) [] high high' same small small' = absurd (omega arith)
digits (x ∷ xs) (y ∷ ys) high high' same small small' =
    digits xs ys (high * 256 + x) (high' * 256 + y) (omega arith) (λ i. small (suc i)) (λ i. small' (suc i))
    ∙ ap (λ (o : Ordering). ordering_then o (slice_cmp nat_cmp xs ys)) (digit_more high high' x y (small 0) (small' 0))
    ∙ then_on (nat_cmp high high') (nat_cmp x y) (slice_cmp nat_cmp xs ys)

padded_long : (n : ℕ) (bs : List ℕ) → length (padded n bs) ≡ n
padded_long zero bs = refl
padded_long (suc n) [] = let r = padded_long n [] in omega arith
padded_long (suc n) (b ∷ bs) = let r = padded_long n bs in omega arith

padded_small : (n : ℕ) (bs : List ℕ) → ((i : ℕ) → get_or bs i 0 < 256) → (i : ℕ) → get_or (padded n bs) i 0 < 256
padded_small zero bs small i = omega arith
padded_small (suc n) [] small zero = omega arith
padded_small (suc n) [] small (suc i) = padded_small n [] small i
padded_small (suc n) (b ∷ bs) small zero = small 0
padded_small (suc n) (b ∷ bs) small (suc i) = padded_small n bs (λ j. small (suc j)) i

-- a text is compared by its first bytes, and where these are equal by those behind
in_two : (n : ℕ) (xs ys : List ℕ) → length xs ≡ length ys
    → slice_cmp nat_cmp xs ys ≡ ordering_then (slice_cmp nat_cmp (padded n xs) (padded n ys)) (slice_cmp nat_cmp (drop n xs) (drop n ys))
in_two zero xs ys same = refl
in_two (suc n) [] [] same = in_two n [] [] same ∙ ap (λ (bs : List ℕ). ordering_then (slice_cmp nat_cmp (padded n []) (padded n [])) (slice_cmp nat_cmp bs bs)) (drop-nil n)
in_two (suc n) [] (y ∷ ys) same = absurd (omega arith)
in_two (suc n) (x ∷ xs) [] same = absurd (omega arith)
in_two (suc n) (x ∷ xs) (y ∷ ys) same =
    ap (λ (o : Ordering). ordering_then (nat_cmp x y) o) (in_two n xs ys (omega arith))
    ∙ sym (then_on (nat_cmp x y) (slice_cmp nat_cmp (padded n xs) (padded n ys)) (slice_cmp nat_cmp (drop n xs) (drop n ys)))

-- the word of eight bytes, swapped
swapped : (b0 b1 b2 b3 b4 b5 b6 b7 : ℕ)
    → from_be_bytes w64 (b0 ∷ b1 ∷ b2 ∷ b3 ∷ b4 ∷ b5 ∷ b6 ∷ b7 ∷ []) ≡ number_behind 0 (b0 ∷ b1 ∷ b2 ∷ b3 ∷ b4 ∷ b5 ∷ b6 ∷ b7 ∷ [])
swapped b0 b1 b2 b3 b4 b5 b6 b7 = omega arith

-- a word is read from the first eight bytes
first_eight : (bs : List ℕ) → from_le_bytes w64 bs ≡ from_le_bytes w64 (padded 8 bs)
first_eight [] = refl
first_eight (a ∷ []) = refl
first_eight (a ∷ b ∷ []) = refl
first_eight (a ∷ b ∷ c ∷ []) = refl
first_eight (a ∷ b ∷ c ∷ d ∷ []) = refl
first_eight (a ∷ b ∷ c ∷ d ∷ e ∷ []) = refl
first_eight (a ∷ b ∷ c ∷ d ∷ e ∷ f ∷ []) = refl
first_eight (a ∷ b ∷ c ∷ d ∷ e ∷ f ∷ g ∷ []) = refl
first_eight (a ∷ b ∷ c ∷ d ∷ e ∷ f ∷ g ∷ h ∷ bs) = refl

eight_digits : (bs : List ℕ) → from_be_bytes w64 (padded 8 bs) ≡ number_behind 0 (padded 8 bs)
eight_digits [] = refl
eight_digits (a ∷ []) = swapped a 0 0 0 0 0 0 0
eight_digits (a ∷ b ∷ []) = swapped a b 0 0 0 0 0 0
eight_digits (a ∷ b ∷ c ∷ []) = swapped a b c 0 0 0 0 0
eight_digits (a ∷ b ∷ c ∷ d ∷ []) = swapped a b c d 0 0 0 0
eight_digits (a ∷ b ∷ c ∷ d ∷ e ∷ []) = swapped a b c d e 0 0 0
eight_digits (a ∷ b ∷ c ∷ d ∷ e ∷ f ∷ []) = swapped a b c d e f 0 0
eight_digits (a ∷ b ∷ c ∷ d ∷ e ∷ f ∷ g ∷ []) = swapped a b c d e f g 0
eight_digits (a ∷ b ∷ c ∷ d ∷ e ∷ f ∷ g ∷ h ∷ bs) = swapped a b c d e f g h

behind_small : (text : List ℕ) (n : ℕ) → ((i : ℕ) → get_or text i 0 < 256) → (i : ℕ) → get_or (drop n text) i 0 < 256
behind_small text n small i = rw (get_or-drop n text i 0) (small (n + i))

swapped_word : (text : List ℕ) (k : ℕ) → ((i : ℕ) → get_or text i 0 < 256) → swap_bytes w64 (text_word text k) ≡ number_behind 0 (padded 8 (drop (8 * k) text))
unfolding text_word
swapped_word text k small = let bs = drop (8 * k) text in
    ap (from_be_bytes w64) (le_bytes_8 (padded 8 bs) (text_word text k) (padded_long 8 bs) (padded_small 8 bs (behind_small text (8 * k) small)) (first_eight bs))
    ∙ eight_digits bs

-- words compare as the eight bytes do that they hold
words_compare : (a b : List ℕ) (k : ℕ) → ((i : ℕ) → get_or a i 0 < 256) → ((i : ℕ) → get_or b i 0 < 256)
    → word_order (text_word a k) (text_word b k) ≡ slice_cmp nat_cmp (padded 8 (drop (8 * k) a)) (padded 8 (drop (8 * k) b))
unfolding word_order
words_compare a b k small small' = let xs = drop (8 * k) a in let ys = drop (8 * k) b in
    (λ i. nat_cmp (swapped_word a k small i) (swapped_word b k small' i))
    ∙ digits (padded 8 xs) (padded 8 ys) 0 0 (padded_long 8 xs ∙ sym (padded_long 8 ys)) (padded_small 8 xs (behind_small a (8 * k) small)) (padded_small 8 ys (behind_small b (8 * k) small'))

-- texts of one length compare as their words do from word k on: the first words that differ decide
pub word_decides : (a b : List ℕ) (k : ℕ) → length a ≡ length b → ((i : ℕ) → get_or a i 0 < 256) → ((i : ℕ) → get_or b i 0 < 256)
    → slice_cmp nat_cmp (drop (8 * k) a) (drop (8 * k) b)
    ≡ ordering_then (word_order (text_word a k) (text_word b k)) (slice_cmp nat_cmp (drop (8 * (k + 1)) a) (drop (8 * (k + 1)) b))
word_decides a b k same small small' =
    let next : (text : List ℕ) → drop 8 (drop (8 * k) text) ≡ drop (8 * (k + 1)) text = λ text. drop-drop 8 (8 * k) text ∙ (let e : 8 * k + 8 ≡ 8 * (k + 1) = omega arith in ap (λ (n : ℕ). drop n text) e) in
    in_two 8 (drop (8 * k) a) (drop (8 * k) b) (length-drop (8 * k) a ∙ ap (λ (n : ℕ). n - 8 * k) same ∙ sym (length-drop (8 * k) b))
    ∙ (λ i. ordering_then (sym (words_compare a b k small small') i) (slice_cmp nat_cmp (next a i) (next b i)))

-- words that differ decide, and equal ones leave it to those behind
pub decided : (o p : Ordering) → not (ordering_index o == ordering_index Equal) ≡ true → ordering_then o p ≡ o
decided Less p e = refl
decided Equal p e = absurd (cc)
decided Greater p e = refl

pub passed : (o p : Ordering) → not (ordering_index o == ordering_index Equal) ≡ false → ordering_then o p ≡ p
passed Less p e = absurd (cc)
passed Equal p e = refl
passed Greater p e = absurd (cc)

pub word_inside : (place k ceil n m words : ℕ) → k < ceil → ceil ≡ div_ceil n 8 → n ≡ m → place + (5 + (m + 7) / 8) ≤ words → words ≤ 2 ^ 32
    → (place + 5 + k < words) × (place + 5 + k < 2 ^ 64)
word_inside place k ceil n m words = grind (arith)

-- what a comparison of word k of two texts of one length leaves
pub words_left : (a b : List ℕ) (k v w : ℕ) (o : Ordering) → length a ≡ length b → IsShortText a → IsShortText b → v ≡ text_word a k → w ≡ text_word b k → o ≡ word_order v w
    → slice_cmp nat_cmp (drop (8 * k) a) (drop (8 * k) b) ≡ ordering_then o (slice_cmp nat_cmp (drop (8 * (k + 1)) a) (drop (8 * (k + 1)) b))
words_left a b k v w o same short short' is is' order =
    word_decides a b k same short.bytes short'.bytes
    ∙ ap (λ (p : Ordering). ordering_then p (slice_cmp nat_cmp (drop (8 * (k + 1)) a) (drop (8 * (k + 1)) b))) (sym (order ∙ (λ i. word_order (is i) (is' i))))
