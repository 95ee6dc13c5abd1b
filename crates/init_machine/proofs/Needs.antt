-- The words that properties take: each order of them takes the same, a held name is there already, and an absent name
-- adds a cell and the nodes of those of its prefixes that are prefixes of no held name.
use Rattle.std.proofs.Common.{◌≡◌, ℕ, ◌+◌, ◌-◌, Bool, true, false, not, ◌||◌, List, [], ◌∷◌, ◌++◌, map, sum, refl, sym, ap, ◌∙◌, arith, cond, zero-add, if◌then◌else◌}
use Rattle.std.specs.List.{filter, flat_map, list_any, sum_by}
use Rattle.std.specs.List.Sorted.{IsPermutation}
use Rattle.std.specs.Str.{bytes_eq}
use Rattle.std.proofs.lemmas.List.Sums.{sum-map}
use Rattle.std.proofs.lemmas.List.Recursion.{is_sum_by}
use Rattle.std.proofs.lemmas.List.Sorted.{list_any-IsPermutation, sum_by-IsPermutation, IsPermutation-map, IsPermutation-to_front}
use Rattle.init_machine.specs.Words.{is_among, distinct, prefixes_of, node_words, nodes_of, Sized, names_in, cell_words, cells_of, used_of, need_of}
use Rattle.init_machine.specs.internal.Nodes.{SameMembers, total_beyond, words_beyond}
use Rattle.init_machine.proofs.DistinctSums.{there_already, IsSet, total, total-same, total-front, among-append}
use Rattle.init_machine.proofs.Prefixes.{prefixes-are, set-parts}

pub sum-total : (ps : List (List ℕ)) → sum (map node_words ps) ≡ total node_words ps
sum-total ps = sum-map node_words ps ∙ sym (is_sum_by (λ xs. total node_words xs) node_words refl (λ _ _. refl) ps)

among-flat_map : (names : List (List ℕ)) (z : List ℕ) → is_among (flat_map prefixes_of names) z ≡ list_any (λ n. is_among (prefixes_of n) z) names
among-flat_map [] z = refl
among-flat_map (n ∷ names) z =
    among-append (prefixes_of n) (flat_map prefixes_of names) z ∙ ap (λ b. is_among (prefixes_of n) z || b) (among-flat_map names z)

same_prefixes : (xs ys : List (List ℕ)) → IsPermutation xs ys → SameMembers (flat_map prefixes_of xs) (flat_map prefixes_of ys)
same_prefixes xs ys moved z =
    among-flat_map xs z ∙ list_any-IsPermutation (λ n. is_among (prefixes_of n) z) xs ys moved ∙ sym (among-flat_map ys z)

-- the words that properties take, by the sum of their nodes
pub used-total : (sized : List Sized) → used_of sized ≡ 16 + total node_words (nodes_of (names_in sized)) + cells_of sized
unfolding used_of
used-total sized = ap (λ n. 16 + n + cells_of sized) (sum-total (nodes_of (names_in sized)))

cells-sum_by : (sized : List Sized) → cells_of sized ≡ sum_by (λ (s : Sized). cell_words s.1) sized
cells-sum_by sized = is_sum_by (λ xs. cells_of xs) (λ (s : Sized). cell_words s.1) refl (λ _ _. refl) sized

-- each order of the properties takes the same words
pub used_permuted : (xs ys : List Sized) → IsPermutation xs ys → used_of xs ≡ used_of ys
used_permuted xs ys moved =
    let names = IsPermutation-map (λ (s : Sized). s.0) xs ys moved in
    let nodes : total node_words (nodes_of (names_in xs)) ≡ total node_words (nodes_of (names_in ys)) =
    total-same node_words (flat_map prefixes_of (names_in xs)) (flat_map prefixes_of (names_in ys)) (same_prefixes (names_in xs) (names_in ys) names) in
    let cells : cells_of xs ≡ cells_of ys = cells-sum_by xs ∙ sym (sum_by-IsPermutation (λ (s : Sized). cell_words s.1) xs ys moved) ∙ sym (cells-sum_by ys) in
    let before = used-total xs in
    let after = used-total ys in
    omega arith

-- the words of a property in front of others: its cell, and its prefixes that are no prefixes of those
pub used-beyond : (sized : List Sized) (name : List ℕ) (len : ℕ)
    → used_of ((name, len) ∷ sized) ≡ used_of sized + (cell_words len + total_beyond node_words (flat_map prefixes_of (names_in sized)) (prefixes_of name))
used-beyond sized name len =
    let rest : List (List ℕ) = flat_map prefixes_of (names_in sized) in
    let set : IsSet (prefixes_of name) = rw (prefixes-are name) (set-parts name) in
    let front : total node_words (distinct (prefixes_of name ++ rest)) ≡ total_beyond node_words rest (prefixes_of name) + total node_words (distinct rest) =
    total-front node_words (prefixes_of name) rest set in
    let more : used_of ((name, len) ∷ sized) ≡ 16 + total node_words (distinct (prefixes_of name ++ rest)) + (cell_words len + cells_of sized) = used-total ((name, len) ∷ sized) in
    let less : used_of sized ≡ 16 + total node_words (distinct rest) + cells_of sized = used-total sized in
    omega arith

total_beyond-same : (w : List ℕ → ℕ) (known others xs : List (List ℕ)) → SameMembers known others → total_beyond w known xs ≡ total_beyond w others xs
total_beyond-same w known others [] same = refl
total_beyond-same w known others (x ∷ xs) same =
    ap (λ b. (if b then 0 else w x) + total_beyond w known xs) (same x) ∙ ap (λ n. (if is_among others x then 0 else w x) + n) (total_beyond-same w known others xs same)

-- what an absent name needs, where the known prefixes are those of the names
pub need_beyond : (sized : List Sized) (name : List ℕ) (len : ℕ) (known : List (List ℕ)) → is_among (names_in sized) name ≡ false
    → SameMembers known (flat_map prefixes_of (names_in sized)) → cell_words len + words_beyond known (prefixes_of name) ≡ need_of sized name len
unfolding need_of
need_beyond sized name len known absent same =
    let beyond = used-beyond sized name len in
    let known_too = total_beyond-same node_words known (flat_map prefixes_of (names_in sized)) (prefixes_of name) same in
    let more : cell_words len + words_beyond known (prefixes_of name) ≡ used_of ((name, len) ∷ sized) - used_of sized = omega arith in
    more ∙ ap (λ (b : Bool). if b then 0 else used_of ((name, len) ∷ sized) - used_of sized) (sym absent)

pub held_needs : (sized : List Sized) (name : List ℕ) (len : ℕ) → is_among (names_in sized) name ≡ true → need_of sized name len ≡ 0
unfolding need_of
held_needs sized name len held = ap (λ (b : Bool). if b then 0 else used_of ((name, len) ∷ sized) - used_of sized) held

-- an absent name at the end
pub used_end : (sized : List Sized) (name : List ℕ) (len : ℕ) → is_among (names_in sized) name ≡ false
    → used_of (sized ++ (name, len) ∷ []) ≡ used_of sized + need_of sized name len
used_end sized name len absent =
    let front = used-beyond sized name len in
    let need = need_beyond sized name len (flat_map prefixes_of (names_in sized)) absent (λ z. refl) in
    let end = used_permuted (sized ++ (name, len) ∷ []) ((name, len) ∷ sized) (IsPermutation-to_front sized (name, len)) in
    omega arith

among-distinct : (xs : List (List ℕ)) (z : List ℕ) → is_among (distinct xs) z ≡ is_among xs z
among-distinct [] z = refl
among-distinct (x ∷ xs) z =
    elim (is_among xs x) as (λ b. is_among xs x ≡ b → is_among (if b then distinct xs else x ∷ distinct xs) z ≡ (bytes_eq x z || is_among xs z)) [
      | true ↦ λ t. among-distinct xs z ∙ there_already x xs z t
      | false ↦ λ f. ap (λ b. bytes_eq x z || b) (among-distinct xs z)
    ] refl

-- the sum over the members that are not among qs
beyond-filter : (w : List ℕ → ℕ) (qs xs : List (List ℕ)) → total_beyond w qs xs ≡ total w (filter (λ x. not (is_among (distinct qs) x)) xs)
beyond-filter w qs [] = refl
beyond-filter w qs (x ∷ xs) =
    let there = among-distinct qs x in
    rw there (elim (is_among qs x) as (λ b. (if b then 0 else w x) + total_beyond w qs xs
    ≡ total w (cond (not b) (x ∷ filter (λ x. not (is_among (distinct qs) x)) xs) (filter (λ x. not (is_among (distinct qs) x)) xs))) [
      | true ↦ zero-add (total_beyond w qs xs) ∙ beyond-filter w qs xs
      | false ↦ ap (λ n. w x + n) (beyond-filter w qs xs)
    ])

pub need_by_new_nodes : (sized : List Sized) (name : List ℕ) (len : ℕ) → is_among (names_in sized) name ≡ false
    → need_of sized name len ≡ cell_words len + sum (map node_words (filter (λ prefix. not (is_among (nodes_of (names_in sized)) prefix)) (prefixes_of name)))
need_by_new_nodes sized name len absent =
    let need = need_beyond sized name len (flat_map prefixes_of (names_in sized)) absent (λ z. refl) in
    let new = beyond-filter node_words (flat_map prefixes_of (names_in sized)) (prefixes_of name) in
    let nodes = sum-total (filter (λ prefix. not (is_among (nodes_of (names_in sized)) prefix)) (prefixes_of name)) in
    omega arith
