-- The same path is the same list of parts, and the order of paths is total.
use Rattle.std.proofs.Common.{◌≡◌, ℕ, Bool, true, false, ◌&&◌, ◌||◌, List, [], ◌∷◌, refl, sym, ap, ◌∙◌, arith}
use Rattle.std.specs.Cmp.{IsTotalOrder}
use Rattle.std.specs.Cmp.Lexicographic.{bytes_decides, nat_list_eq_equiv, slice_cmp, lists_total, nat_list_cmp_total}
use Rattle.std.specs.Ordering.{match_ordering, nat_cmp, ordering_reverse, ordering_then}
use Rattle.std.specs.Str.{bytes_eq}
use Rattle.std.specs.declared.cmp.Ordering.{Ordering}
use Rattle.std.specs.declared.cmp.Ordering.TheVariants.{Less, Equal, Greater}
use Rattle.std.proofs.lemmas.Bool.Decides.{nat_tests}
use Rattle.init_machine.specs.FileTree.{same_path, is_path_before}
use Rattle.init_machine.specs.Pairs.{is_before}

pub both_true : (a b : Bool) → (a && b) ≡ true → (a ≡ true) × (b ≡ true)
both_true true b is = (refl, is)
both_true false b is = absurd (cc)

pub same_is : (path other : List (List ℕ)) → same_path path other ≡ true → path ≡ other
same_is [] [] same = refl
same_is [] (q ∷ qs) same = absurd (cc)
same_is (p ∷ ps) [] same = absurd (cc)
same_is (p ∷ ps) (q ∷ qs) same =
    let both = both_true (bytes_eq p q) (same_path ps qs) same in
    ap (λ x. x ∷ ps) ((bytes_decides p q).0 both.0) ∙ ap (λ xs. q ∷ xs) (same_is ps qs both.1)

pub same_itself : (path : List (List ℕ)) → same_path path path ≡ true
same_itself [] = refl
same_itself (p ∷ ps) = cc (nat_list_eq_equiv.refl p, same_itself ps)

-- The order.

abbrev pub compare : List (List ℕ) → List (List ℕ) → Ordering
compare = slice_cmp (slice_cmp nat_cmp)

total : IsTotalOrder compare
total = lists_total nat_list_cmp_total

-- what an order says of the tests of two texts, or paths
record IsOrder (o : Ordering) (is_same is_same_back is_first : Bool) : Type 0 where
  same : is_same ≡ match_ordering o false true false
  back : is_same_back ≡ match_ordering o false true false
  before : is_first ≡ match_ordering o true false false

text_order : (p q : List ℕ) → IsOrder (slice_cmp nat_cmp p q) (bytes_eq p q) (bytes_eq q p) (is_before p q)
text_order [] [] = record { same = refl; back = refl; before = refl }
text_order [] (c ∷ cs) = record { same = refl; back = refl; before = refl }
text_order (b ∷ bs) [] = record { same = refl; back = refl; before = refl }
text_order (b ∷ bs) (c ∷ cs) =
    let rest = text_order bs cs in
    record {
      same = grind (arith, nat_tests, rest.same);
      back = grind (arith, nat_tests, rest.back);
      before = grind (arith, nat_tests, rest.before);
    }

first_decides : (o r : Ordering) (s k b s' k' b' : Bool) → IsOrder o s k b → IsOrder r s' k' b' → IsOrder (ordering_then o r) (s && s') (k && k') (b || (s && b'))
first_decides Less r s k b s' k' b' here rest =
    record { same = λ i. here.same i && s'; back = λ i. here.back i && k'; before = λ i. here.before i || (here.same i && b') }
first_decides Equal r s k b s' k' b' here rest =
    record { same = λ i. here.same i && rest.same i; back = λ i. here.back i && rest.back i; before = λ i. here.before i || (here.same i && rest.before i) }
first_decides Greater r s k b s' k' b' here rest =
    record { same = λ i. here.same i && s'; back = λ i. here.back i && k'; before = λ i. here.before i || (here.same i && b') }

path_order : (p q : List (List ℕ)) → IsOrder (compare p q) (same_path p q) (same_path q p) (is_path_before p q)
path_order [] [] = record { same = refl; back = refl; before = refl }
path_order [] (q ∷ qs) = record { same = refl; back = refl; before = refl }
path_order (p ∷ ps) [] = record { same = refl; back = refl; before = refl }
path_order (p ∷ ps) (q ∷ qs) = first_decides _ _ _ _ _ _ _ _ (text_order p q) (path_order ps qs)

pub is_same_back : (p q : List (List ℕ)) → same_path q p ≡ match_ordering (compare p q) false true false
is_same_back p q = (path_order p q).back

pub is_before_by : (p q : List (List ℕ)) → is_path_before p q ≡ match_ordering (compare p q) true false false
is_before_by p q = (path_order p q).before

less_before : (p q : List (List ℕ)) → compare p q ≡ Less → is_path_before p q ≡ true
less_before p q is = is_before_by p q ∙ ap (λ o. match_ordering o true false false) is

before_less : (p q : List (List ℕ)) → is_path_before p q ≡ true → compare p q ≡ Less
before_less p q before = by (compare p q) (sym (is_before_by p q) ∙ before)
  where
    by : (o : Ordering) → match_ordering o true false false ≡ true → o ≡ Less
    by Less is = refl
    by Equal is = absurd (cc)
    by Greater is = absurd (cc)

pub before_trans : (p q r : List (List ℕ)) → is_path_before p q ≡ true → is_path_before q r ≡ true → is_path_before p r ≡ true
before_trans p q r first second = less_before p r (total.trans p q r (before_less p q first) (before_less q r second))

pub before_differs : (p q : List (List ℕ)) → is_path_before p q ≡ true → same_path q p ≡ false
before_differs p q before = is_same_back p q ∙ ap (λ o. match_ordering o false true false) (before_less p q before)

-- the paths of what an order says
abbrev pub IsPlaced : Ordering → List (List ℕ) → List (List ℕ) → Type 0
IsPlaced Less p q = is_path_before p q ≡ true
IsPlaced Equal p q = p ≡ q
IsPlaced Greater p q = is_path_before q p ≡ true

pub is_placed : (p q : List (List ℕ)) (o : Ordering) → compare p q ≡ o → IsPlaced o p q
is_placed p q Less is = less_before p q is
is_placed p q Equal is = same_is p q ((path_order p q).same ∙ ap (λ o. match_ordering o false true false) is)
is_placed p q Greater is = less_before q p (total.antisymm q p ∙ ap ordering_reverse is)
