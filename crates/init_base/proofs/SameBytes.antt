-- Words that are the same hold the same bytes.
use Rattle.std.proofs.Common.{◌≡◌, ◌≢◌, ℕ, ◌+◌, ◌-◌, ◌<◌, ◌≤◌, min, Bool, true, false, ◌&&◌, List, length, slice_index, sym, refl, arith, nat_lt}
use Rattle.std.proofs.lemmas.Bool.{ltb-true, ltb-false}
use Rattle.std.proofs.lemmas.Grind.{same_number_lists}
use Rattle.std.specs.Bool.{MatchBool}
use Rattle.std.specs.Cmp.Lexicographic.{bytes_decides}
use Rattle.std.specs.Str.{bytes_eq}
use Rattle.init_base.specs.internal.SameBytes.{AreSameIn}

differ : (one other : List ℕ) → one ≢ other → false ≡ bytes_eq one other
differ one other not =
    elim (bytes_eq one other) as (λ t. bytes_eq one other ≡ t → false ≡ t) [
      | true ↦ λ e. absurd (not ((bytes_decides one other).0 e))
      | false ↦ λ e. refl
    ] refl

module _ (one other : List ℕ) (len : length one ≡ length other) (least : 8 ≤ length one) (most : length one ≤ 32) where
  -- four words, which may overlap, hold all bytes
  held : AreSameIn 0 8 one other → AreSameIn (min (length one - 8) 8) (min (length one - 8) 8 + 8) one other → AreSameIn (min (length one - 8) 16) (min (length one - 8) 16 + 8) one other
      → AreSameIn (length one - 8) (length one - 8 + 8) one other → (place : ℕ) → place < length one → slice_index one place ≡ slice_index other place
  held first second third last place below =
      elim (nat_lt place 8) as (λ t. nat_lt place 8 ≡ t → slice_index one place ≡ slice_index other place) [
        | true ↦ λ e. first place (omega arith) (ltb-true place 8 e)
        | false ↦ λ e. elim (nat_lt place 16) as (λ t. nat_lt place 16 ≡ t → slice_index one place ≡ slice_index other place) [
          | true ↦ λ f. second place (omega (arith, ltb-false place 8 e, ltb-true place 16 f)) (omega (arith, ltb-false place 8 e, ltb-true place 16 f))
          | false ↦ λ f. elim (nat_lt place 24) as (λ t. nat_lt place 24 ≡ t → slice_index one place ≡ slice_index other place) [
            | true ↦ λ g. third place (omega (arith, ltb-false place 16 f, ltb-true place 24 g)) (omega (arith, ltb-false place 16 f, ltb-true place 24 g))
            | false ↦ λ g. last place (omega (arith, ltb-false place 24 g)) (omega (arith, ltb-false place 24 g))
          ] refl
        ] refl
      ] refl

  -- bytes are the same exactly where these words are
  pub by_words : (a b c d : Bool) → MatchBool a (AreSameIn 0 8 one other) (one ≢ other)
      → MatchBool b (AreSameIn (min (length one - 8) 8) (min (length one - 8) 8 + 8) one other) (one ≢ other)
      → MatchBool c (AreSameIn (min (length one - 8) 16) (min (length one - 8) 16 + 8) one other) (one ≢ other)
      → MatchBool d (AreSameIn (length one - 8) (length one - 8 + 8) one other) (one ≢ other)
      → (((a && b) && c) && d) ≡ bytes_eq one other
  by_words true true true true first second third last =
      sym ((bytes_decides one other).1 (same_number_lists one other len (held first second third last)))
  by_words false b c d first second third last = differ one other first
  by_words true false c d first second third last = differ one other second
  by_words true true false d first second third last = differ one other third
  by_words true true true false first second third last = differ one other last

module _ (one other : List ℕ) (len : length one ≡ length other) (least : 4 ≤ length one) (most : length one < 8) where
  -- so do two halves of a word
  held_by_halves : AreSameIn 0 4 one other → AreSameIn (length one - 4) (length one - 4 + 4) one other
      → (place : ℕ) → place < length one → slice_index one place ≡ slice_index other place
  held_by_halves first last place below =
      elim (nat_lt place 4) as (λ t. nat_lt place 4 ≡ t → slice_index one place ≡ slice_index other place) [
        | true ↦ λ e. first place (omega arith) (ltb-true place 4 e)
        | false ↦ λ e. last place (omega (arith, ltb-false place 4 e)) (omega (arith, below))
      ] refl

  pub by_halves : (a b : Bool) → MatchBool a (AreSameIn 0 4 one other) (one ≢ other)
      → MatchBool b (AreSameIn (length one - 4) (length one - 4 + 4) one other) (one ≢ other) → (a && b) ≡ bytes_eq one other
  by_halves true true first last = sym ((bytes_decides one other).1 (same_number_lists one other len (held_by_halves first last)))
  by_halves false b first last = differ one other first
  by_halves true false first last = differ one other last
