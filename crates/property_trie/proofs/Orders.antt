-- The order of parts, and a choice by it.
use Rattle.std.proofs.Common.{◌≡◌, ℕ, List, length, sym, refl, ap, ◌∙◌, ◌⊎◌, inl, inr}
use Rattle.std.specs.Cmp.{Equal-is, nat_cmp_is}
use Rattle.std.specs.Cmp.Lexicographic.{slice_cmp}
use Rattle.std.specs.Ordering.{nat_cmp}
use Rattle.std.proofs.lemmas.Map.Text.{is_eq-slice_cmp}
use Rattle.std.proofs.lemmas.Slice.Eq.{bytes_eq-Decides}
use Rattle.std.specs.declared.cmp.Ordering.{Ordering}
use Rattle.std.specs.declared.cmp.Ordering.TheVariants.{Less, Equal, Greater}
use Rattle.property_trie.specs.Parts.{first_order, compare_parts}
use Rattle.property_trie.specs.Tree.{by_order}

first_equal : (first second : Ordering) → first_order first second ≡ Equal → second ≡ Equal
first_equal Less second e = absurd (cc)
first_equal Equal second e = e
first_equal Greater second e = absurd (cc)

-- parts that compare as equal are one
pub same_part : (a b : List ℕ) → compare_parts a b ≡ Equal → a ≡ b
same_part a b e =
    let bytes : slice_cmp nat_cmp a b ≡ Equal = first_equal (nat_cmp (length a) (length b)) (slice_cmp nat_cmp a b) e in
    (bytes_eq-Decides a b).0 (sym (is_eq-slice_cmp a b) ∙ (Equal-is (slice_cmp nat_cmp a b)).1 bytes)

pub equal_lengths : (n : ℕ) → nat_cmp n n ≡ Equal
equal_lengths n = sym (nat_cmp_is n n Equal refl)

-- parts of one length compare by their bytes
pub by_bytes : (a b : List ℕ) → length a ≡ length b → compare_parts a b ≡ slice_cmp nat_cmp a b
by_bytes a b same = ap (λ (o : Ordering). first_order o (slice_cmp nat_cmp a b)) (sym (nat_cmp_is (length a) (length b) Equal same))

-- a part compares as equal with itself
pub compare_same : (a : List ℕ) → compare_parts a a ≡ Equal
compare_same a =
    let bytes : slice_cmp nat_cmp a a ≡ Equal = (Equal-is (slice_cmp nat_cmp a a)).0 (is_eq-slice_cmp a a ∙ (bytes_eq-Decides a a).1 refl) in
    ap (λ (o : Ordering). first_order o (slice_cmp nat_cmp a a)) (equal_lengths (length a)) ∙ bytes

-- what holds of each choice holds of the one by an order
pub by_cases : {A : Type 0} (P : A → Type 0) (o : Ordering) (x y z : A) → (o ≡ Less → P x) → (o ≡ Equal → P y) → (o ≡ Greater → P z) → P (by_order o x y z)
by_cases P Less x y z f g h = f refl
by_cases P Equal x y z f g h = g refl
by_cases P Greater x y z f g h = h refl

module _ {A : Type 0} (o : Ordering) (x y z : A) where
  pub at_less : o ≡ Less → by_order o x y z ≡ x
  at_less e = ap (λ (o' : Ordering). by_order o' x y z) e

  pub at_equal : o ≡ Equal → by_order o x y z ≡ y
  at_equal e = ap (λ (o' : Ordering). by_order o' x y z) e

  pub at_greater : o ≡ Greater → by_order o x y z ≡ z
  at_greater e = ap (λ (o' : Ordering). by_order o' x y z) e

pub orders : (o : Ordering) → (o ≡ Less) ⊎ ((o ≡ Equal) ⊎ (o ≡ Greater))
orders Less = inl refl
orders Equal = inr (inl refl)
orders Greater = inr (inr refl)
