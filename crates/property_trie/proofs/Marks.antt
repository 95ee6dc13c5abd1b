-- The mark of the trie of names is the number of words that the names use.
use Rattle.std.proofs.Common.{◌≡◌, ℕ, zero, suc, ◌+◌, ◌-◌, ◌/◌, ◌≤◌, max, Bool, true, false, not, ◌||◌, ◌==◌, List, [], ◌∷◌, ◌++◌, length, drop, sym, refl, ap, ◌∙◌, subst, ⊎_elim, arith, if◌then◌else◌}
use Rattle.std.specs.Str.{bytes_eq}
use Rattle.std.proofs.Math.Seq.{drop-nil}
use Rattle.std.proofs.lemmas.Bool.{cases_Bool}
use Rattle.std.proofs.lemmas.List.{map-append}
use mathlib.Core.Option.{some, some-ne-none, some-injective}
use lib.ListN.{get_elem?}
use Rattle.serial_value.specs.impl_laws.Places.{at_end}
use Rattle.std.proofs.lemmas.Bool.Decides.{nat_tests}
use Rattle.std.proofs.lemmas.Slice.Eq.{bytes_eq-Decides}
use Rattle.init_machine.specs.Words.{is_among, Sized, names_in, cell_words, used_of, need_of}
use Rattle.property_trie.specs.Shared.{shared, shared_with}
use Rattle.init_machine.proofs.DistinctSums.{among-append}
use Rattle.init_machine.proofs.Needs.{used_end}
use Rattle.property_trie.proofs.Shares.{need_is}
use Rattle.property_trie.proofs.NodeWords.{node_unless, words_left, words_left_all}
use Rattle.property_trie.specs.Parts.{parts_of, onto_first}
use Rattle.property_trie.specs.Tree.{Tree, Cell, Trie, alike, cell_in, find, depth, grown, with_cell, node_sizes, cell_place, with_property, added, trie_from, trie_of, each_once, each_once_from}
use Rattle.property_trie.specs.Tree.Tree.{leaf}
use Rattle.property_trie.proofs.Growth.{cell-grown, cell-with_cell_other, cell-with_cell_same, depth_short, alike_short, find-grown, depth-grown, depth-with_cell, find-with_cell_other, find-with_cell_same}
use Rattle.property_trie.proofs.Names.{first_part, same_name, alike_self, alike-shared}

abbrev Parts : Type 0
Parts = List (List ℕ)

-- the words of the nodes of parts, but for the first `known` of them, where n bytes stand in front of the first
abbrev sizes_from : ℕ → ℕ → Parts → ℕ
sizes_from known n [] = 0
sizes_from known n (p ∷ ps) = node_unless known (n + length p) + node_sizes (drop (known - 1) ps)

sizes-drop : (known : ℕ) (ps : Parts) → sizes_from known 0 ps ≡ node_sizes (drop known ps)
sizes-drop known [] = ap node_sizes (sym (drop-nil known))
sizes-drop zero (p ∷ ps) =
    let e : 0 + length p ≡ length p = omega arith in
    ap (λ (n : ℕ). 5 + (n + 7) / 8 + node_sizes ps) e
sizes-drop (suc k) (p ∷ ps) =
    let e : suc k - 1 ≡ k = omega arith in
    let some : (suc k == 0) ≡ false = grind (arith, nat_tests) in
    ap (λ (t : Bool). (if t then 5 + (0 + length p + 7) / 8 else 0) + node_sizes (drop (suc k - 1) ps)) some
    ∙ (ap (λ (m : ℕ). 0 + node_sizes (drop m ps)) e ∙ omega arith)

words-parts : (known n : ℕ) (name : List ℕ) → words_left known n name ≡ sizes_from known n (parts_of name)
words-parts known n [] =
    let e : n + 0 ≡ n = omega arith in
    let none : node_sizes (drop (known - 1) []) ≡ 0 = ap node_sizes (drop-nil (known - 1)) in
    sym ((λ i. node_unless known (e i) + none i) ∙ omega arith)
words-parts known n (b ∷ rest) =
    let first = first_part rest in
    elim (b == 46) as (λ t. (if t then node_unless known n + words_left (known - 1) 0 rest else words_left known (n + 1) rest)
    ≡ sizes_from known n (if t then [] ∷ parts_of rest else onto_first b (parts_of rest))) [
      | true ↦
          let e : n ≡ n + 0 = omega arith in
          (λ i. node_unless known (e i) + (words-parts (known - 1) 0 rest ∙ sizes-drop (known - 1) (parts_of rest)) i)
      | false ↦
          let e : n + 1 + length first.0 ≡ n + suc (length first.0) = omega arith in
          words-parts known (n + 1) rest
          ∙ (ap (sizes_from known (n + 1)) first.2
          ∙ (ap (λ (m : ℕ). node_unless known m + node_sizes (drop (known - 1) first.1)) e
          ∙ sym (ap (λ (ps : Parts). sizes_from known n (onto_first b ps)) first.2)))
    ]

-- what an absent name needs, by its parts
pub need_parts : (sized : List Sized) (name : List ℕ) (len : ℕ) → is_among (names_in sized) name ≡ false
    → need_of sized name len ≡ cell_words len + node_sizes (drop (shared_with (names_in sized) name) (parts_of name))
need_parts sized name len absent =
    let most : ℕ = shared_with (names_in sized) name in
    need_is sized name len absent ∙ ap (λ n. cell_words len + n) (sym (words_left_all most name) ∙ (words-parts most 0 name ∙ sizes-drop most (parts_of name)))

shared_with-end : (names : List (List ℕ)) (new name : List ℕ) → shared_with (names ++ new ∷ []) name ≡ max (shared_with names name) (shared name new)
shared_with-end [] new name = omega arith
shared_with-end (other ∷ names) new name = let rest = shared_with-end names new name in omega arith

alike_whole : (ps : Parts) → alike ps ps ≡ length ps
alike_whole [] = refl
alike_whole (p ∷ ps) = alike_self p ps ∙ (let rest = alike_whole ps in omega arith)

among_at : (sized : List Sized) (k : ℕ) (s : Sized) → get_elem? sized k ≡ some s → is_among (names_in sized) s.0 ≡ true
among_at [] k s is = absurd (some-ne-none s (sym is))
among_at (x ∷ sized) zero s is =
    let same : x ≡ s = some-injective _ _ is in
    ap (λ (b : Bool). b || is_among (names_in sized) s.0) ((bytes_eq-Decides x.0 s.0).1 (ap (λ (y : Sized). y.0) same))
among_at (x ∷ sized) (suc k) s is = ap (λ (b : Bool). bytes_eq x.0 s.0 || b) (among_at sized k s is) ∙ or_at (bytes_eq x.0 s.0)
  where
    or_at : (t : Bool) → (t || true) ≡ true
    or_at true = refl
    or_at false = refl

-- What the trie of these names, each of which is there once with the length of its value, is.
pub record TrieOf (sized : List Sized) (trie : Trie) : Type 0 where
  -- the nodes that a name finds are those of the prefixes that it shares
  pub depths : (name : List ℕ) → depth trie.tree (parts_of name) ≡ shared_with (names_in sized) name
  -- a property is found exactly where the name is among them
  pub finds : (name : List ℕ) → (find trie.tree (parts_of name) == 0) ≡ not (is_among (names_in sized) name)
  pub mark : trie.mark ≡ used_of sized
  pub above : 16 ≤ trie.mark
  -- each cell has the words of its value
  pub cells : (k : ℕ) (s : Sized) → get_elem? sized k ≡ some s → (cell_in trie.tree (parts_of s.0)).words ≡ cell_words s.1

module _ (sized : List Sized) (trie : Trie) (h : TrieOf sized trie) (new : List ℕ) (len : ℕ) where
  abbrev names : Parts
  names = names_in sized

  abbrev cell : Cell
  cell = record { place = cell_place trie (parts_of new); words = cell_words len }

  abbrev parts : Parts
  parts = parts_of new

  abbrev wider : Tree
  wider = grown (length parts) trie.tree parts trie.mark

  abbrev more : Trie
  more = with_property trie parts (cell_words len)

  depth_wider : (others : Parts) → depth wider others ≡ max (depth trie.tree others) (alike parts others)
  depth_wider others =
      let d = depth-grown (length parts) trie.tree parts trie.mark others in
      let s = alike_short parts others in omega arith

  depth_more : (others : Parts) → depth more.tree others ≡ max (depth trie.tree others) (alike parts others)
  depth_more others = depth-with_cell wider parts cell others ∙ depth_wider others

  whole : depth wider parts ≡ length parts
  whole = let d = depth_wider parts in let a = alike_whole parts in let s = depth_short trie.tree parts in omega arith

  find_new : find more.tree parts ≡ cell_place trie parts
  find_new =
      let first = first_part new in
      subst (λ (ps : Parts). depth wider ps ≡ length ps → find (with_cell wider ps cell) ps ≡ cell_place trie parts) (sym first.2)
      (find-with_cell_same wider first.0 first.1 cell) whole

  cell_new : cell_in more.tree parts ≡ cell
  cell_new =
      let first = first_part new in
      subst (λ (ps : Parts). depth wider ps ≡ length ps → cell_in (with_cell wider ps cell) ps ≡ cell) (sym first.2)
      (cell-with_cell_same wider first.0 first.1 cell) whole

  cell_other : (name : List ℕ) → (name ≡ new → ⊥) → cell_in more.tree (parts_of name) ≡ cell_in trie.tree (parts_of name)
  cell_other name other =
      cell-with_cell_other wider parts cell (parts_of name) (λ same. other (same_name name new same))
      ∙ cell-grown (length parts) trie.tree parts trie.mark (parts_of name)

  find_other : (name : List ℕ) → (name ≡ new → ⊥) → find more.tree (parts_of name) ≡ find trie.tree (parts_of name)
  find_other name other =
      find-with_cell_other wider parts cell (parts_of name) (λ same. other (same_name name new same))
      ∙ find-grown (length parts) trie.tree parts trie.mark (parts_of name)

  mark_more : is_among names new ≡ false → more.mark ≡ used_of (sized ++ (new, len) ∷ [])
  mark_more absent =
      let need = need_parts sized new len absent in
      let sizes : node_sizes (drop (depth trie.tree parts) parts) ≡ node_sizes (drop (shared_with names new) parts) = ap (λ (k : ℕ). node_sizes (drop k parts)) (h.depths new) in
      let end = used_end sized new len absent in
      let m = h.mark in omega arith

  names_more : names_in (sized ++ (new, len) ∷ []) ≡ names ++ new ∷ []
  names_more = map-append (λ (s : Sized). s.0) sized ((new, len) ∷ [])

  among_more : (name : List ℕ) → is_among (names ++ new ∷ []) name ≡ (is_among names name || bytes_eq new name)
  among_more name = among-append names (new ∷ []) name ∙ ap (λ (t : Bool). is_among names name || t) (or_false (bytes_eq new name))
    where
      or_false : (t : Bool) → (t || false) ≡ t
      or_false true = refl
      or_false false = refl

  pub trie_more : is_among names new ≡ false → TrieOf (sized ++ (new, len) ∷ []) more
  trie_more absent = record {
    depths = λ name. depth_more (parts_of name)
        ∙ ((λ i. max (h.depths name i) (alike-shared name new i)) ∙ sym (ap (λ (ns : Parts). shared_with ns name) names_more ∙ shared_with-end names new name));
    finds = λ name. ⊎_elim
        (λ (same : bytes_eq new name ≡ true).
        let is : new ≡ name = (bytes_eq-Decides new name).0 same in
        let there : find more.tree (parts_of name) ≡ cell_place trie parts = subst (λ (n : List ℕ). find more.tree (parts_of n) ≡ cell_place trie parts) is find_new in
        let some : (find more.tree (parts_of name) == 0) ≡ false = let a = h.above in grind (arith, nat_tests) in
        some ∙ sym (ap not (ap (λ (ns : Parts). is_among ns name) names_more ∙ among_more name ∙ (ap (λ (t : Bool). is_among names name || t) same ∙ or_true (is_among names name)))))
        (λ (differs : bytes_eq new name ≡ false).
        ap (λ (n : ℕ). n == 0) (find_other name (λ is. let same : bytes_eq new name ≡ true = (bytes_eq-Decides new name).1 (sym is) in absurd (cc)))
        ∙ (h.finds name ∙ sym (ap not (ap (λ (ns : Parts). is_among ns name) names_more ∙ among_more name ∙ (ap (λ (t : Bool). is_among names name || t) differs ∙ or_no (is_among names name))))))
        (cases_Bool (bytes_eq new name));
    mark = mark_more absent;
    above = let a = h.above in omega arith;
    cells = λ k s is. ⊎_elim
        (λ old. ap (λ (c : Cell). c.words) (cell_other s.0 (λ same. let yes = among_at sized k s old in
        let no : is_among names s.0 ≡ false = subst (λ (n : List ℕ). is_among names n ≡ false) (sym same) absent in absurd (cc))) ∙ h.cells k s old)
        (λ (t : (k ≡ length sized) × ((new, len) ≡ s)). subst (λ (x : Sized). (cell_in more.tree (parts_of x.0)).words ≡ cell_words x.1) t.1 (ap (λ (c : Cell). c.words) cell_new))
        (at_end sized (new, len) s k is);
  }
    where
      or_true : (t : Bool) → (t || true) ≡ true
      or_true true = refl
      or_true false = refl

      or_no : (t : Bool) → (t || false) ≡ t
      or_no true = refl
      or_no false = refl

  not_twice : (a b : Bool) → a ≡ not b → (a ≡ true → b ≡ false) × (a ≡ false → b ≡ true)
  not_twice true true e = (λ t. absurd (cc), λ t. refl)
  not_twice true false e = (λ t. refl, λ t. absurd (cc))
  not_twice false true e = (λ t. absurd (cc), λ t. refl)
  not_twice false false e = (λ t. refl, λ t. absurd (cc))

  pub trie_added : TrieOf (if is_among names new then sized else sized ++ (new, len) ∷ []) (added trie (new, len))
  trie_added =
      let found = not_twice (find trie.tree parts == 0) (is_among names new) (h.finds new) in ⊎_elim
      (λ (absent : (find trie.tree parts == 0) ≡ true).
      subst (λ (x : Bool × Bool). TrieOf (if x.0 then sized else sized ++ (new, len) ∷ []) (if x.1 then more else trie)) (λ i. (sym (found.0 absent) i, sym absent i)) (trie_more (found.0 absent)))
      (λ (there : (find trie.tree parts == 0) ≡ false).
      subst (λ (x : Bool × Bool). TrieOf (if x.0 then sized else sized ++ (new, len) ∷ []) (if x.1 then more else trie)) (λ i. (sym (found.1 there) i, sym there i)) h)
      (cases_Bool (find trie.tree parts == 0))

trie_is_from : (held : List Sized) (trie : Trie) (names : List Sized) → TrieOf held trie → TrieOf (each_once_from held names) (trie_from trie names)
trie_is_from held trie [] h = h
trie_is_from held trie (name ∷ names) h =
    trie_is_from (if is_among (names_in held) name.0 then held else held ++ name ∷ []) (added trie name) names (trie_added held trie h name.0 name.1)

used_none : used_of [] ≡ 16
unfolding used_of
used_none = refl

-- the trie of names is that of each of them once: its mark is the number of words that they use
pub trie_is : (names : List Sized) → TrieOf (each_once names) (trie_of names)
trie_is names = trie_is_from [] (record { tree = leaf; mark = 16 }) names record {
  depths = λ name. refl;
  finds = λ name. refl;
  mark = sym used_none;
  above = omega arith;
  cells = λ k s none. absurd (some-ne-none s (sym none));
}
