-- Where the next link stands while missing nodes are linked one after the other.
use Rattle.std.proofs.Common.{◌≡◌, ℕ, zero, suc, ◌+◌, ◌≤◌, List, [], ◌∷◌, length, take, drop, sym, refl, ap, ◌∙◌, subst, arith}
use Rattle.std.specs.declared.cmp.Ordering.{Ordering}
use Rattle.std.specs.declared.cmp.Ordering.TheVariants.{Less, Equal, Greater}
use Rattle.property_trie.specs.Parts.{compare_parts, node_size}
use Rattle.property_trie.specs.Tree.{Tree, by_order, depth, chain, grown, node_sizes}
use Rattle.property_trie.specs.Tree.Tree.{leaf, node}
use Rattle.property_trie.specs.TreeWords.{link_at}
use Rattle.property_trie.specs.TrieSteps.{missing_parts}
use Rattle.property_trie.specs.Walk.{EndsAt}
use Rattle.property_trie.proofs.Orders.{compare_same, by_cases, at_less, at_equal, at_greater}
use Rattle.property_trie.proofs.Lies.{drop_more}

abbrev Parts : Type 0
Parts = List (List ℕ)

no_more : (n : ℕ) (p : List ℕ) (qs : Parts) → drop n [] ≡ p ∷ qs → ⊥
no_more zero p qs e = cc
no_more (suc n) p qs e = cc

chain_none : (ps : Parts) (place : ℕ) → chain 0 ps place ≡ leaf
chain_none [] place = refl
chain_none (p ∷ ps) place = refl

-- the link behind a chain of new nodes is the children link of the last
chain_link : (n : ℕ) (ps : Parts) (place top : ℕ) (p q : List ℕ) (qs : Parts) → drop n ps ≡ p ∷ q ∷ qs
    → link_at top (chain (suc n) ps place) ps ≡ place + node_sizes (take n ps) + 3
chain_link n [] place top p q qs left = absurd (no_more n p (q ∷ qs) left)
chain_link zero (x ∷ xs) place top p q qs left =
    at_equal (compare_parts x x) _ _ _ (compare_same x) ∙ ap (λ (t : Tree). link_at (place + 3) t xs) (chain_none xs (place + node_size x)) ∙ (omega arith)
chain_link (suc n) (x ∷ xs) place top p q qs left =
    at_equal (compare_parts x x) _ _ _ (compare_same x) ∙ chain_link n xs (place + node_size x) (place + 3) p q qs left ∙ (omega arith)

-- and the last new node is that of the last part
chain_end : (n : ℕ) (ps : Parts) (place : ℕ) (p : List ℕ) → drop n ps ≡ p ∷ [] → EndsAt (chain (suc n) ps place) ps (place + node_sizes (take n ps) + 4)
chain_end n [] place p left = absurd (no_more n p [] left)
chain_end zero (x ∷ []) place p left =
    subst (λ (o : Ordering). by_order o ⊥ (place + 0 + 4 ≡ place + 4) ⊥) (sym (compare_same x)) (omega arith)
chain_end zero (x ∷ y ∷ ys) place p left = absurd (cc)
chain_end (suc n) (x ∷ []) place p left = absurd (no_more n p [] left)
chain_end (suc n) (x ∷ y ∷ ys) place p left =
    let next : ℕ = place + node_size x in
    let there : next + node_sizes (take n (y ∷ ys)) + 4 ≡ place + (node_size x + node_sizes (take n (y ∷ ys))) + 4 = omega arith in
    subst (λ (o : Ordering). by_order o ⊥ (EndsAt (chain (suc n) (y ∷ ys) next) (y ∷ ys) (place + (node_size x + node_sizes (take n (y ∷ ys))) + 4)) ⊥) (sym (compare_same x))
    (subst (EndsAt (chain (suc n) (y ∷ ys) next) (y ∷ ys)) there (chain_end n (y ∷ ys) next p left))

-- growth by no node
pub grown_none : (t : Tree) (ps : Parts) (place : ℕ) → grown 0 t ps place ≡ t
grown_none leaf ps place = chain_none ps place
grown_none (node at part l r c cell) [] place = refl
grown_none (node at part l r c cell) (p ∷ ps) place =
    by_cases (λ t. t ≡ node at part l r c cell) (compare_parts p part) _ _ _
    (λ e. ap (λ (t : Tree). node at part t r c cell) (grown_none l (p ∷ ps) place))
    (λ e. ap (λ (t : Tree). node at part l r t cell) (grown_none c ps place))
    (λ e. ap (λ (t : Tree). node at part l t c cell) (grown_none r (p ∷ ps) place))

abbrev Left : Tree → Parts → ℕ → Parts → Type 0
Left t ps n left = drop n (missing_parts t ps) ≡ left

-- where one more node is linked and parts are left, the next link is its children link
pub link_after : (n : ℕ) (t : Tree) (ps : Parts) (place top : ℕ) (p q : List ℕ) (qs : Parts) → drop n (missing_parts t ps) ≡ p ∷ q ∷ qs
    → link_at top (grown (suc n) t ps place) ps ≡ place + node_sizes (take n (missing_parts t ps)) + 3
link_after n leaf ps place top p q qs left = chain_link n ps place top p q qs left
link_after n (node at part l r c cell) [] place top p q qs left = absurd (no_more n p (q ∷ qs) left)
link_after n (node at part l r c cell) (x ∷ xs) place top p q qs left =
    elim (compare_parts x part) as (λ o. compare_parts x part ≡ o
    → drop n (drop (by_order o (depth l (x ∷ xs)) (1 + depth c xs) (depth r (x ∷ xs))) (x ∷ xs)) ≡ p ∷ q ∷ qs
    → link_at top (by_order o (node at part (grown (suc n) l (x ∷ xs) place) r c cell) (node at part l r (grown (suc n) c xs place) cell) (node at part l (grown (suc n) r (x ∷ xs) place) c cell)) (x ∷ xs)
    ≡ place + node_sizes (take n (drop (by_order o (depth l (x ∷ xs)) (1 + depth c xs) (depth r (x ∷ xs))) (x ∷ xs))) + 3) [
      | Less ↦ λ e f. at_less (compare_parts x part) _ _ _ e ∙ link_after n l (x ∷ xs) place (at + 1) p q qs f
      | Equal ↦ λ e f. let more = drop_more (depth c xs) x xs in
          at_equal (compare_parts x part) _ _ _ e ∙ link_after n c xs place (at + 3) p q qs (ap (λ (ys : Parts). drop n ys) (sym more) ∙ f)
          ∙ ap (λ (ys : Parts). place + node_sizes (take n ys) + 3) (sym more)
      | Greater ↦ λ e f. at_greater (compare_parts x part) _ _ _ e ∙ link_after n r (x ∷ xs) place (at + 2) p q qs f
    ] refl left

drop_nil : (k : ℕ) → drop {A = List ℕ} k [] ≡ []
drop_nil zero = refl
drop_nil (suc k) = refl

-- where it is the last one, the link to the cell is that of its node
pub end_after : (n : ℕ) (t : Tree) (ps : Parts) (place : ℕ) (p : List ℕ) → drop n (missing_parts t ps) ≡ p ∷ []
    → EndsAt (grown (suc n) t ps place) ps (place + node_sizes (take n (missing_parts t ps)) + 4)
end_after n leaf ps place p left = chain_end n ps place p left
end_after n (node at part l r c cell) [] place p left = absurd (no_more n p [] left)
end_after n (node at part l r c cell) (x ∷ []) place p left =
    elim (compare_parts x part) as (λ o. compare_parts x part ≡ o
    → drop n (drop (by_order o (depth l (x ∷ [])) (1 + depth c []) (depth r (x ∷ []))) (x ∷ [])) ≡ p ∷ []
    → EndsAt (by_order o (node at part (grown (suc n) l (x ∷ []) place) r c cell) (node at part l r (grown (suc n) c [] place) cell) (node at part l (grown (suc n) r (x ∷ []) place) c cell)) (x ∷ [])
    (place + node_sizes (take n (drop (by_order o (depth l (x ∷ [])) (1 + depth c []) (depth r (x ∷ []))) (x ∷ []))) + 4)) [
      | Less ↦ λ e f. let w : ℕ = place + node_sizes (take n (drop (depth l (x ∷ [])) (x ∷ []))) + 4 in
          subst (λ (o : Ordering). by_order o (EndsAt (grown (suc n) l (x ∷ []) place) (x ∷ []) w) (w ≡ at + 4) (EndsAt r (x ∷ []) w)) (sym e) (end_after n l (x ∷ []) place p f)
      | Equal ↦ λ e f. absurd (no_more n p [] (ap (λ (ys : Parts). drop n ys) (sym (drop_more (depth c []) x [] ∙ drop_nil (depth c []))) ∙ f))
      | Greater ↦ λ e f. let w : ℕ = place + node_sizes (take n (drop (depth r (x ∷ [])) (x ∷ []))) + 4 in
          subst (λ (o : Ordering). by_order o (EndsAt l (x ∷ []) w) (w ≡ at + 4) (EndsAt (grown (suc n) r (x ∷ []) place) (x ∷ []) w)) (sym e) (end_after n r (x ∷ []) place p f)
    ] refl left
end_after n (node at part l r c cell) (x ∷ y ∷ ys) place p left =
    elim (compare_parts x part) as (λ o. compare_parts x part ≡ o
    → drop n (drop (by_order o (depth l (x ∷ y ∷ ys)) (1 + depth c (y ∷ ys)) (depth r (x ∷ y ∷ ys))) (x ∷ y ∷ ys)) ≡ p ∷ []
    → EndsAt (by_order o (node at part (grown (suc n) l (x ∷ y ∷ ys) place) r c cell) (node at part l r (grown (suc n) c (y ∷ ys) place) cell) (node at part l (grown (suc n) r (x ∷ y ∷ ys) place) c cell)) (x ∷ y ∷ ys)
    (place + node_sizes (take n (drop (by_order o (depth l (x ∷ y ∷ ys)) (1 + depth c (y ∷ ys)) (depth r (x ∷ y ∷ ys))) (x ∷ y ∷ ys))) + 4)) [
      | Less ↦ λ e f. let w : ℕ = place + node_sizes (take n (drop (depth l (x ∷ y ∷ ys)) (x ∷ y ∷ ys))) + 4 in
          subst (λ (o : Ordering). by_order o (EndsAt (grown (suc n) l (x ∷ y ∷ ys) place) (x ∷ y ∷ ys) w) (EndsAt c (y ∷ ys) w) (EndsAt r (x ∷ y ∷ ys) w)) (sym e) (end_after n l (x ∷ y ∷ ys) place p f)
      | Equal ↦ λ e f. let more = drop_more (depth c (y ∷ ys)) x (y ∷ ys) in
          subst (λ (zs : Parts). EndsAt (node at part l r (grown (suc n) c (y ∷ ys) place) cell) (x ∷ y ∷ ys) (place + node_sizes (take n zs) + 4)) (sym more)
          (let w : ℕ = place + node_sizes (take n (drop (depth c (y ∷ ys)) (y ∷ ys))) + 4 in
          subst (λ (o : Ordering). by_order o (EndsAt l (x ∷ y ∷ ys) w) (EndsAt (grown (suc n) c (y ∷ ys) place) (y ∷ ys) w) (EndsAt r (x ∷ y ∷ ys) w)) (sym e)
          (end_after n c (y ∷ ys) place p (ap (λ (zs : Parts). drop n zs) (sym more) ∙ f)))
      | Greater ↦ λ e f. let w : ℕ = place + node_sizes (take n (drop (depth r (x ∷ y ∷ ys)) (x ∷ y ∷ ys))) + 4 in
          subst (λ (o : Ordering). by_order o (EndsAt l (x ∷ y ∷ ys) w) (EndsAt c (y ∷ ys) w) (EndsAt (grown (suc n) r (x ∷ y ∷ ys) place) (x ∷ y ∷ ys) w)) (sym e) (end_after n r (x ∷ y ∷ ys) place p f)
    ] refl left

-- the sizes of the first parts, one more of them, and all of them
pub sizes_more : (n : ℕ) (ps : Parts) (p : List ℕ) (qs : Parts) → drop n ps ≡ p ∷ qs → node_sizes (take (suc n) ps) ≡ node_sizes (take n ps) + node_size p
sizes_more n [] p qs left = absurd (no_more n p qs left)
sizes_more zero (x ∷ xs) p qs left = let e : x ≡ p = cc in let s = ap node_size e in omega arith
sizes_more (suc n) (x ∷ xs) p qs left = let rest = sizes_more n xs p qs left in omega arith

pub sizes_whole : (n : ℕ) (ps : Parts) → node_sizes (take n ps) ≤ node_sizes ps
sizes_whole zero ps = omega arith
sizes_whole (suc n) [] = omega arith
sizes_whole (suc n) (x ∷ xs) = let rest = sizes_whole n xs in omega arith

pub drop_next : (n : ℕ) (ps : Parts) (p : List ℕ) (qs : Parts) → drop n ps ≡ p ∷ qs → drop (suc n) ps ≡ qs
drop_next n [] p qs left = absurd (no_more n p qs left)
drop_next zero (x ∷ xs) p qs left = cc
drop_next (suc n) (x ∷ xs) p qs left = drop_next n xs p qs left

pub drop_all : (n : ℕ) (ps : Parts) (p : List ℕ) → drop n ps ≡ p ∷ [] → suc n ≡ length ps
drop_all n [] p left = absurd (no_more n p [] left)
drop_all zero (x ∷ []) p left = refl
drop_all zero (x ∷ y ∷ ys) p left = absurd (cc)
drop_all (suc n) (x ∷ xs) p left = let rest = drop_all n xs p left in omega arith

pub take_whole : (ps : Parts) → take (length ps) ps ≡ ps
take_whole [] = refl
take_whole (p ∷ ps) = ap (λ (qs : Parts). p ∷ qs) (take_whole ps)

pub drop_whole : (ps : Parts) → drop (length ps) ps ≡ []
drop_whole [] = refl
drop_whole (p ∷ ps) = drop_whole ps
