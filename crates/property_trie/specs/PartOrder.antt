-- The order of parts is total, and what a key of a part has beside it.
use Rattle.std.proofs.Common.{◌≡◌, ℕ, ◌<◌, List, length, slice_index, refl, ap, ◌∙◌, subst}
use Rattle.std.specs.Int.{w64, swap_bytes}
use Rattle.std.specs.Cmp.{IsTotalOrder, then_total, on_total}
use Rattle.std.specs.Cmp.Lexicographic.{slice_cmp, nat_list_cmp_total}
use Rattle.std.proofs.lemmas.Cmp.{nat_cmp_total}
use Rattle.std.specs.Ordering.{nat_cmp, ordering_reverse, ordering_then}
use Rattle.std.specs.declared.cmp.Ordering.{Ordering}
use Rattle.std.specs.declared.cmp.Ordering.TheVariants.{Less, Equal, Greater}
use Rattle.serial_value.specs.Words.{text_word}
use Rattle.property_trie.specs.Parts.{compare_parts, first_order}

then_is : (o p : Ordering) → ordering_then o p ≡ first_order o p
then_is Less p = refl
then_is Equal p = refl
then_is Greater p = refl

pub parts_total : IsTotalOrder compare_parts
parts_total = subst IsTotalOrder (λ i a b. then_is (nat_cmp (length a) (length b)) (slice_cmp nat_cmp a b) i) (then_total (on_total length nat_cmp_total) nat_list_cmp_total)

pub turned : (a b : List ℕ) → compare_parts a b ≡ Less → compare_parts b a ≡ Greater
turned a b e = parts_total.antisymm b a ∙ ap ordering_reverse e

pub back : (a b : List ℕ) → compare_parts a b ≡ Greater → compare_parts b a ≡ Less
back a b e = parts_total.antisymm b a ∙ ap ordering_reverse e

pub less_on : (a b c : List ℕ) → compare_parts a b ≡ Less → compare_parts b c ≡ Less → compare_parts a c ≡ Less
less_on a b c = parts_total.trans a b c

-- of parts in descending order
pub greater_on : (a b c : List ℕ) → compare_parts a b ≡ Greater → compare_parts b c ≡ Greater → compare_parts a c ≡ Greater
greater_on a b c ab bc = turned c a (less_on c b a (back b c bc) (back a b ab))

-- the length of a text, and its first eight bytes as a number of which the first is the highest
pub record IsHeaded (text : List ℕ) (len head : ℕ) : Type 0 where
  pub len_is : len ≡ length text
  pub head_is : head ≡ swap_bytes w64 (text_word text 0)
  pub bytes : (i : ℕ) → slice_index text i < 256
