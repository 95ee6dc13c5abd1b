-- Keys of parts compare as the parts do.
use Rattle.std.proofs.Common.{◌≡◌, ◌≢◌, ℕ, ◌<◌, ◌*◌, List, drop, length, sym, refl, ap, ◌∙◌, subst}
use Rattle.std.specs.Cmp.{ranks}
use Rattle.std.specs.Cmp.Lexicographic.{slice_cmp}
use Rattle.std.specs.Ordering.{MatchOrdering, nat_cmp, ordering_then}
use Rattle.std.specs.declared.cmp.Ordering.{Ordering}
use Rattle.std.specs.declared.cmp.Ordering.TheVariants.{Less, Equal, Greater}
use Rattle.serial_value.specs.Words.{text_word}
use Rattle.property_trie.specs.Parts.{compare_parts, first_order}
use Rattle.property_trie.specs.PartOrder.{IsHeaded}
use Rattle.property_trie.specs.TreeWords.{word_order}
use Rattle.property_trie.proofs.Orders.{equal_lengths}
use Rattle.property_trie.proofs.WordOrder.{word_decides}

equal_is : (x y : ℕ) → nat_cmp x y ≡ Equal → x ≡ y
equal_is x y e = let told : MatchOrdering Equal (x < y) (x ≡ y) (y < x) = subst (λ (o : Ordering). MatchOrdering o (x < y) (x ≡ y) (y < x)) e (ranks x y) in told

then_decides : (o p : Ordering) → o ≢ Equal → ordering_then o p ≡ o
then_decides Less p e = refl
then_decides Equal p e = absurd (e refl)
then_decides Greater p e = refl

-- parts of one length compare as their heads do, where these differ
module _ (a b : List ℕ) (m n g h : ℕ) (ka : IsHeaded a m g) (kb : IsHeaded b n h) (same : m ≡ n) where
  alike : length a ≡ length b
  alike = sym ka.len_is ∙ same ∙ kb.len_is

  by_bytes : slice_cmp nat_cmp a b ≡ compare_parts a b
  by_bytes = sym (ap (λ (o : Ordering). first_order o (slice_cmp nat_cmp a b)) (ap (nat_cmp (length a)) (sym alike) ∙ equal_lengths (length a)))

  pub by_head : g ≢ h → nat_cmp g h ≡ compare_parts a b
  unfolding word_order
  by_head apart =
      let o : word_order (text_word a 0) (text_word b 0) ≡ nat_cmp g h = λ i. nat_cmp (sym ka.head_is i) (sym kb.head_is i) in
      let rest : Ordering = slice_cmp nat_cmp (drop (8 * 1) a) (drop (8 * 1) b) in
      sym (then_decides (nat_cmp g h) rest (λ e. apart (equal_is g h e)))
      ∙ sym (word_decides a b 0 alike ka.bytes kb.bytes ∙ ap (λ (p : Ordering). ordering_then p rest) o)
      ∙ by_bytes
