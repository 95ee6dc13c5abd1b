-- What an iterator over a part of a map gives first and last.
use Rattle.std.proofs.Common.{◌≡◌, ℕ, Bool, true, false, not, ◌&&◌, List, [], ◌∷◌, ◌++◌, filter, Option, Some, None, MatchOption, option_map, sym, refl, ap, ◌∙◌}
use Rattle.std.specs.Option.{unwrap_or}
use Rattle.property_trie.specs.Siblings.{Placed, first_of, last_of, is_up_to, node_before, node_from}

filter_same : (p q : Placed → Bool) (ns : List Placed) → ((n : Placed) → p n ≡ q n) → filter p ns ≡ filter q ns
filter_same p q ns same = ap (λ (f : Placed → Bool). filter f ns) (λ i n. same n i)

and_true : (b : Bool) → (b && true) ≡ b
and_true true = refl
and_true false = refl

last_is : (ns : List Placed) (n : Placed) → last_of (ns ++ n ∷ []) ≡ Some n
last_is [] n = refl
last_is (x ∷ ns) n = ap (λ o. Some (unwrap_or o x)) (last_is ns n)

module _ {A : Type 0} (shows : A → Placed) (k : List ℕ) (ns s t : List Placed) where
  pub first_taken : (r : Option A) → s ≡ filter (λ n. is_up_to k n && true) ns → MatchOption r ((s ≡ []) × (t ≡ [])) (λ x. s ≡ shows x ∷ t) → option_map shows r ≡ node_from k ns
  first_taken None is taken = ap first_of (sym taken.0 ∙ is ∙ filter_same (λ n. is_up_to k n && true) (is_up_to k) ns (λ n. and_true (is_up_to k n)))
  first_taken (Some x) is taken = ap first_of (sym taken ∙ is ∙ filter_same (λ n. is_up_to k n && true) (is_up_to k) ns (λ n. and_true (is_up_to k n)))

  pub last_taken : (r : Option A) → s ≡ filter (λ n. not (is_up_to k n)) ns → MatchOption r ((s ≡ []) × (t ≡ [])) (λ x. s ≡ t ++ shows x ∷ []) → option_map shows r ≡ node_before k ns
  last_taken None is taken = ap last_of (sym taken.0 ∙ is)
  last_taken (Some x) is taken = sym (last_is t (shows x)) ∙ ap last_of (sym taken ∙ is)
