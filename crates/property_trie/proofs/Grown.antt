-- What is noted of levels, after an addition.
use Rattle.std.proofs.Common.{◌≡◌, ◌≢◌, ℕ, zero, suc, ◌+◌, ◌-◌, ◌≤◌, true, false, List, [], ◌∷◌, ◌++◌, take, drop, length, length-append, append_assoc, Option, Some, None, sym, refl, ap, ◌∙◌, subst, ⊎_elim, arith, if◌then◌else◌}
use Rattle.std.proofs.lemmas.List.{length-drop}
use Rattle.std.specs.Option.{option_map}
use Rattle.std.specs.Str.{bytes_eq}
use Rattle.std.proofs.lemmas.Slice.Eq.{bytes_eq-Decides}
use Rattle.std.specs.declared.cmp.Ordering.{Ordering}
use Rattle.std.specs.declared.cmp.Ordering.TheVariants.{Less, Equal, Greater}
use Rattle.init_machine.specs.Sets.{Set}
use Rattle.init_machine.specs.Words.{cell_words}
use Rattle.property_trie.specs.Parts.{parts_of, parts_behind, compare_parts, node_size}
use Rattle.property_trie.specs.Tree.{Tree, Trie, Cell, by_order, cell_place, find, depth, chain, grown, trie_of}
use Rattle.property_trie.specs.Tree.Tree.{leaf, node}
use Rattle.property_trie.specs.TreeWords.{link_at}
use Rattle.property_trie.specs.Walk.{EndsAt}
use Rattle.property_trie.specs.TrieSteps.{sizes_of, tree_of, missing_parts}
use Rattle.property_trie.specs.Additions.{mark_of}
use Rattle.property_trie.specs.Siblings.{Siblings, IsFreeAt, with_node}
use Rattle.property_trie.specs.Levels.{AreLevels, BeginsPart, ChangesLevel, Grows, LinkedAt, level_as, level_noted, front_of, front_parts, level_in, noted_at, noted_below}
use Rattle.property_trie.specs.declared.level.Level.{Level}
use Rattle.property_trie.specs.declared.levels.Levels.{Levels}
use Rattle.property_trie.proofs.Apart.{trie_lies}
use Rattle.property_trie.proofs.Ends.{linked_in_level, grown_here, grown_elsewhere, grown_new, chain_level, grown_full, level-with_cell}
use Rattle.property_trie.proofs.Fronts.{next_front, one_or_two, parts_at, same_front}
use Rattle.property_trie.proofs.Growth.{depth_short}
use Rattle.property_trie.proofs.Names.{first_part}
use Rattle.property_trie.proofs.Orders.{at_less, at_equal, at_greater, orders}
use Rattle.property_trie.proofs.PartsLeft.{last_part, more_parts}
use Rattle.property_trie.proofs.Placed.{trie_more}

abbrev Parts : Type 0
Parts = List (List ℕ)

differ : (own f : List ℕ) → Some f ≢ Some own → bytes_eq own f ≡ false
differ own f apart = elim (bytes_eq own f) as (λ b. bytes_eq own f ≡ b → b ≡ false) [
  | true ↦ λ e. absurd (apart (ap Some (sym ((bytes_eq-Decides own f).0 e))))
  | false ↦ λ e. refl
] refl

-- a level that is put is that below its front
pub put_changes : (front : List ℕ) (level : Level) (old new : Levels) → new.top ≡ old.top
    → ((other : List ℕ) → noted_below new.below other ≡ (if bytes_eq front other then Some level else noted_below old.below other))
    → ChangesLevel (Some front) (Some (level_as level)) old new
put_changes front level old new top below = (
  ap (option_map level_as) (below front ∙ ap (λ b. if b then Some level else noted_below old.below front) ((bytes_eq-Decides front front).1 refl)),
  λ other apart. ap (option_map level_as) (at other apart),
)
  where
    at : (other : Option (List ℕ)) → other ≢ Some front → noted_at new other ≡ noted_at old other
    at None apart = top
    at (Some f) apart = below f ∙ ap (λ b. if b then Some level else noted_below old.below f) (differ front f apart)

-- what holds of the other levels, and of this one if it is noted, holds of all
pub levels_changed : (sets : List Set) (front : Option (List ℕ)) (s : Option Siblings) (old new : Levels) → ChangesLevel front s old new
    → ((e : Siblings) → s ≡ Some e → level_in 1 (tree_of sets) (front_parts front) ≡ Some e)
    → ((other : Option (List ℕ)) (e : Siblings) → other ≢ front → level_noted old other ≡ Some e → level_in 1 (tree_of sets) (front_parts other) ≡ Some e)
    → AreLevels sets new
levels_changed sets front s old new change own others other e is = ⊎_elim
    (λ (same : other ≡ front).
    ap (λ (f : Option (List ℕ)). level_in 1 (tree_of sets) (front_parts f)) same ∙ own e (sym change.0 ∙ ap (level_noted new) (sym same) ∙ is))
    (λ (apart : other ≢ front). others other e apart (sym (change.1 other apart) ∙ is))
    (one_or_two other front)

-- ---- a name whose first missing part has a place in a level

drop_front : (ds ps : Parts) → drop (length ds) (ds ++ ps) ≡ ps
drop_front [] ps = refl
drop_front (d ∷ ds) ps = drop_front ds ps

pub linked_at : (sets : List Set) (levels : Levels) (name : List ℕ) (from : ℕ) (level : Level) (part : List ℕ) (ps : Parts) (link : ℕ) → AreLevels sets levels → from ≤ length name → BeginsPart name from
    → noted_at levels (front_of from name) ≡ Some level → parts_of (drop from name) ≡ part ∷ ps → IsFreeAt part (level_as level) link → LinkedAt sets name from link
linked_at sets levels name from level part ps link ends within begins noted first free =
    let front = front_parts (front_of from name) in
    let lies = trie_lies (sizes_of sets) in
    let at = linked_in_level 1 (tree_of sets) front (level_as level) part ps link lies.ordered lies.rising (ends (front_of from name) (level_as level) (ap (option_map level_as) noted)) free in
    let parted : parts_of name ≡ front ++ part ∷ ps = parts_at name from within begins ∙ ap (λ (m : Parts). front ++ m) first in (
      sym (ap (link_at 1 (tree_of sets)) parted ∙ at.0),
      first ∙ sym ((λ i. drop (depth (tree_of sets) (parted i)) (parted i)) ∙ ap (λ (n : ℕ). drop n (front ++ part ∷ ps)) at.1 ∙ drop_front front (part ∷ ps)),
      within,
    )

-- ---- an addition

module _ (sets : List Set) (name value : List ℕ) (from mark : ℕ) (g : Grows sets name from mark) (begins : BeginsPart name from)
    (p : List ℕ) (ps : Parts) (first : parts_of (drop from name) ≡ p ∷ ps) where
  abbrev front : Parts
  front = front_parts (front_of from name)

  abbrev later : Tree
  later = tree_of (sets ++ (name, value) ∷ [])

  parted : parts_of name ≡ front ++ p ∷ ps
  parted = parts_at name from g.within begins ∙ ap (λ (m : Parts). front ++ m) first

  deep : depth (tree_of sets) (front ++ p ∷ ps) ≡ length front
  deep =
      let whole = parts_of name in
      let short = depth_short (tree_of sets) whole in
      let left : length (p ∷ ps) ≡ length (missing_parts (tree_of sets) whole) = ap (λ (m : Parts). length m) (sym first ∙ g.missing) in
      let gone = length-drop (depth (tree_of sets) whole) whole in
      let long : length whole ≡ length (front ++ p ∷ ps) = ap (λ (m : Parts). length m) parted in
      let both = length-append front (p ∷ ps) in
      let at : depth (tree_of sets) whole ≡ length front = omega (arith, short, left, gone, long, both) in
      ap (depth (tree_of sets)) (sym parted) ∙ at

  level_is : (qs : Parts) → level_in 1 later qs ≡ level_in 1 (grown (length (parts_of name)) (tree_of sets) (front ++ p ∷ ps) mark) qs
  level_is qs =
      let trie : Trie = trie_of (sizes_of sets) in
      let cell : Cell = record { place = cell_place trie (parts_of name); words = cell_words (length value) } in
      ap (λ (t : Trie). level_in 1 t.tree qs) (trie_more sets name value g.absent)
      ∙ level-with_cell 1 (grown (length (parts_of name)) (tree_of sets) (parts_of name) (mark_of sets)) (parts_of name) cell qs
      ∙ (λ i. level_in 1 (grown (length (parts_of name)) (tree_of sets) (parted i) (sym g.mark_is i)) qs)

  pub level_elsewhere : (levels : Levels) → AreLevels sets levels → (other : Option (List ℕ)) (e : Siblings) → other ≢ front_of from name → level_noted levels other ≡ Some e
      → level_in 1 later (front_parts other) ≡ Some e
  level_elsewhere levels ends other e apart is =
      level_is (front_parts other)
      ∙ grown_elsewhere (length (parts_of name)) 1 (tree_of sets) front p ps (front_parts other) mark e deep (λ same. apart (same_front other (front_of from name) same)) (ends other e is)

  level_here : (s : Siblings) → level_in 1 (tree_of sets) front ≡ Some s → level_in 1 later front ≡ Some (with_node p mark s)
  level_here s is =
      let n : ℕ = length front + length ps in
      let long : length (parts_of name) ≡ suc n = ap (λ (m : Parts). length m) parted ∙ length-append front (p ∷ ps) ∙ (omega arith) in
      level_is front ∙ ap (λ (k : ℕ). level_in 1 (grown k (tree_of sets) (front ++ p ∷ ps) mark) front) long
      ∙ grown_here n 1 (tree_of sets) front p ps mark s (trie_lies (sizes_of sets)).ordered deep is

  pub level_new : (qs : Parts) → level_in 1 later (front ++ p ∷ qs) ≡ level_in 0 (chain (length (parts_of name)) (p ∷ ps) mark) (p ∷ qs)
  level_new qs = level_is (front ++ p ∷ qs) ∙ grown_new (length (parts_of name)) 1 (tree_of sets) front p ps qs mark deep

  pub long_enough : length (p ∷ ps) ≤ length (parts_of name)
  long_enough =
      let long : length (parts_of name) ≡ length (front ++ p ∷ ps) = ap (λ (m : Parts). length m) parted in
      let both = length-append front (p ∷ ps) in
      omega (arith, long, both)

  -- the level that it adds to has its first node
  pub levels_extended : (levels new : Levels) → AreLevels sets levels
      → ChangesLevel (front_of from name) (option_map (with_node p mark) (level_noted levels (front_of from name))) levels new
      → AreLevels (sets ++ (name, value) ∷ []) new
  levels_extended levels new ends change =
      levels_changed (sets ++ (name, value) ∷ []) (front_of from name) (option_map (with_node p mark) (level_noted levels (front_of from name))) levels new change
      (own (level_noted levels (front_of from name)) refl) (level_elsewhere levels ends)
    where
      own : (o : Option Siblings) → level_noted levels (front_of from name) ≡ o → (e : Siblings) → option_map (with_node p mark) o ≡ Some e → level_in 1 later front ≡ Some e
      own None none e is = absurd (cc)
      own (Some s) noted e is = level_here s (ends (front_of from name) s noted) ∙ is

-- ---- the levels of the new nodes

-- the node of the part that begins there is the first of a chain of new ones, from this word on
pub record NewFrom (later : Tree) (name : List ℕ) (from place : ℕ) : Type 0 where
  pub count : ℕ
  pub part : List ℕ
  pub parts : Parts
  pub first : parts_of (drop from name) ≡ part ∷ parts
  pub enough : length (part ∷ parts) ≤ count
  pub levels : (qs : Parts) → level_in 1 later (front_parts (front_of from name) ++ part ∷ qs) ≡ level_in 0 (chain count (part ∷ parts) place) (part ∷ qs)

pub new_from : (sets : List Set) (name value : List ℕ) (from mark : ℕ) → Grows sets name from mark → BeginsPart name from → NewFrom (tree_of (sets ++ (name, value) ∷ [])) name from mark
new_from sets name value from mark g begins =
    let f = first_part (drop from name) in
    record {
      count = length (parts_of name);
      part = f.0;
      parts = f.1;
      first = f.2;
      enough = long_enough sets name value from mark g begins f.0 f.1 f.2;
      levels = level_new sets name value from mark g begins f.0 f.1 f.2;
    }

empty_chain : (n : ℕ) (place : ℕ) → chain n [] place ≡ leaf
empty_chain zero place = refl
empty_chain (suc n) place = refl

-- the chain has a node more in front
module _ (top : ℕ) (p : List ℕ) (ps : Parts) (place : ℕ) where
  behind_first : (n : ℕ) → length (p ∷ ps) ≤ n → (qs : Parts) → (m : ℕ) × (n ≡ suc m) × (level_in top (chain n (p ∷ ps) place) (p ∷ qs) ≡ level_in (place + 3) (chain m ps (place + node_size p)) qs)
  behind_first zero few qs = absurd (omega (arith, few))
  behind_first (suc m) few qs = (m, refl, chain_level m top p ps qs place)

-- where it is the last one its level is empty
pub level_last : (later : Tree) (name : List ℕ) (from place : ℕ) (new : NewFrom later name from place) → new.parts ≡ []
    → level_in 1 later (front_parts (front_of from name) ++ new.part ∷ []) ≡ Some (record { link = place + 3; nodes = [] })
level_last later name from place new none =
    let behind = behind_first 0 new.part new.parts place new.count new.enough [] in
    new.levels [] ∙ behind.2
    ∙ ap (λ (ps : Parts). level_in (place + 3) (chain behind.0 ps (place + node_size new.part)) []) none
    ∙ ap (λ (t : Tree). level_in (place + 3) t []) (empty_chain behind.0 (place + node_size new.part))

-- else its level has the next one
pub level_next : (later : Tree) (name : List ℕ) (from place : ℕ) (new : NewFrom later name from place) (q : List ℕ) (qs : Parts) → new.parts ≡ q ∷ qs
    → level_in 1 later (front_parts (front_of from name) ++ new.part ∷ []) ≡ Some (record { link = place + 3; nodes = (q, place + node_size new.part) ∷ [] })
level_next later name from place new q qs more =
    let behind = behind_first 0 new.part new.parts place new.count new.enough [] in
    let free : ℕ = place + node_size new.part in
    let left : length (q ∷ qs) ≤ behind.0 = let many = new.enough in let long = ap (λ (ps : Parts). length ps) more in let is = behind.1 in omega (arith, many, long, is) in
    new.levels [] ∙ behind.2
    ∙ ap (λ (ps : Parts). level_in (place + 3) (chain behind.0 ps free) []) more
    ∙ one behind.0 left free
  where
    one : (m : ℕ) → length (q ∷ qs) ≤ m → (free : ℕ) → level_in (place + 3) (chain m (q ∷ qs) free) [] ≡ Some (record { link = place + 3; nodes = (q, free) ∷ [] })
    one zero few free = absurd (omega (arith, few))
    one (suc m) few free = refl

-- and the next one is the first of the rest
pub new_next : (later : Tree) (name : List ℕ) (from place : ℕ) (new : NewFrom later name from place) (end free : ℕ) (q : List ℕ) (qs : Parts) → new.parts ≡ q ∷ qs
    → parts_of (drop (suc end) name) ≡ q ∷ qs → parts_of (take end name) ≡ front_parts (front_of from name) ++ new.part ∷ [] → free ≡ place + node_size new.part
    → NewFrom later name (suc end) free
new_next later name from place new end free q qs more first front is =
    let behind = behind_first 0 new.part new.parts place new.count new.enough [] in
    let left : length (q ∷ qs) ≤ behind.0 = let many = new.enough in let long = ap (λ (ps : Parts). length ps) more in let is = behind.1 in omega (arith, many, long, is) in
    record {
      count = behind.0;
      part = q;
      parts = qs;
      first = first;
      enough = left;
      levels = λ rs.
          let here = behind_first 0 new.part new.parts place new.count new.enough (q ∷ rs) in
          let same : here.0 ≡ behind.0 = let a = here.1 in let b = behind.1 in omega (arith, a, b) in
          ap (λ (f : Parts). level_in 1 later (f ++ q ∷ rs)) front ∙ ap (level_in 1 later) (append_assoc (front_parts (front_of from name)) (new.part ∷ []) (q ∷ rs))
          ∙ new.levels (q ∷ rs) ∙ here.2
          ∙ (λ i. level_in (place + 3) (chain (same i) (more i) (sym is i)) (q ∷ rs))
          ∙ any_top behind.0 left free rs;
    }
  where
    any_top : (m : ℕ) → length (q ∷ qs) ≤ m → (free : ℕ) (rs : Parts) → level_in (place + 3) (chain m (q ∷ qs) free) (q ∷ rs) ≡ level_in 0 (chain m (q ∷ qs) free) (q ∷ rs)
    any_top zero few free rs = absurd (omega (arith, few))
    any_top (suc m) few free rs = refl

-- ---- what is noted of them

module _ (sets : List Set) (name rest : List ℕ) (from n place : ℕ) (is : rest ≡ drop from name) (begins : BeginsPart name from) (within : from ≤ length name)
    (inside : n ≤ length rest) (first : parts_of rest ≡ take n rest ∷ parts_behind n rest) (new : NewFrom (tree_of sets) name from place) where
  one : new.part ∷ new.parts ≡ take n rest ∷ parts_behind n rest
  one = sym new.first ∙ ap parts_of (sym is) ∙ first

  heads : (a b : List ℕ) (xs ys : Parts) → a ∷ xs ≡ b ∷ ys → (a ≡ b) × (xs ≡ ys)
  heads a b xs ys e = (cc, cc)

  part_is : new.part ≡ take n rest
  part_is = (heads new.part (take n rest) new.parts (parts_behind n rest) one).0

  parts_are : new.parts ≡ parts_behind n (drop from name)
  parts_are = (heads new.part (take n rest) new.parts (parts_behind n rest) one).1 ∙ ap (parts_behind n) is

  room : from + n ≤ length name
  room = let long = length-drop from name in let same = ap (λ (l : List ℕ). length l) is in omega (arith, inside, long, same, within)

  front_is : parts_of (take (from + n) name) ≡ front_parts (front_of from name) ++ new.part ∷ []
  front_is =
      next_front name from n (parts_behind n (drop from name)) room begins (ap parts_of (sym is) ∙ first ∙ (λ i. take n (is i) ∷ parts_behind n (is i)))
      ∙ (λ i. front_parts (front_of from name) ++ (ap (take n) (sym is) ∙ sym part_is) i ∷ [])

  pub levels_last : from + n ≡ length name → (old later : Levels) (level : Level) → level_as level ≡ record { link = place + 3; nodes = [] }
      → ChangesLevel (Some (take (from + n) name)) (Some (level_as level)) old later → AreLevels sets old → AreLevels sets later
  levels_last all old later level empty change ends =
      levels_changed sets (Some (take (from + n) name)) (Some (level_as level)) old later change
      (λ e same. ap (level_in 1 (tree_of sets)) front_is ∙ level_last (tree_of sets) name from place new (parts_are ∙ last_part name from n within all) ∙ ap Some (sym empty) ∙ same)
      (λ other e apart is. ends other e is)

  module _ (more : from + n ≢ length name) (q : List ℕ) (qs : Parts) (next : parts_of (drop (suc (from + n)) name) ≡ q ∷ qs) where
    then_is : new.parts ≡ q ∷ qs
    then_is = let one_on : from + n + 1 ≡ suc (from + n) = omega arith in
        parts_are ∙ more_parts name from n within more ∙ ap (λ (k : ℕ). parts_of (drop k name)) one_on ∙ next

    pub levels_next : (old later : Levels) (level : Level) → level_as level ≡ record { link = place + 3; nodes = (q, place + node_size (take n rest)) ∷ [] }
        → ChangesLevel (Some (take (from + n) name)) (Some (level_as level)) old later → AreLevels sets old → AreLevels sets later
    levels_next old later level one_node change ends =
        levels_changed sets (Some (take (from + n) name)) (Some (level_as level)) old later change
        (λ e same. ap (level_in 1 (tree_of sets)) front_is ∙ level_next (tree_of sets) name from place new q qs then_is
        ∙ ap (λ (p : List ℕ). Some (record { link = place + 3; nodes = (q, place + node_size p) ∷ [] })) part_is ∙ ap Some (sym one_node) ∙ same)
        (λ other e apart is. ends other e is)

    pub next_new : (free : ℕ) → free ≡ place + node_size (take n rest) → NewFrom (tree_of sets) name (suc (from + n)) free
    next_new free e = new_next (tree_of sets) name from place new (from + n) free q qs then_is next front_is (e ∙ ap (λ (p : List ℕ). place + node_size p) (sym part_is))

-- a slice to the end of a text
pub tail_is : (xs : List ℕ) (n : ℕ) → n ≤ length xs → take (length xs - n) (drop n xs) ≡ drop n xs
tail_is xs n within = let long = length-drop n xs in ap (λ (k : ℕ). take k (drop n xs)) (sym long) ∙ take_all (drop n xs)
  where
    take_all : (ys : List ℕ) → take (length ys) ys ≡ ys
    take_all [] = refl
    take_all (y ∷ ys) = ap (λ (l : List ℕ). y ∷ l) (take_all ys)

-- ---- sets that add no node

ends_full : (t : Tree) (ps : Parts) (link : ℕ) → EndsAt t ps link → depth t ps ≡ length ps
ends_full leaf ps link ends = absurd ends
ends_full (node at part left right children cell) [] link ends = absurd ends
ends_full (node at part left right children cell) (p ∷ []) link ends = ⊎_elim
    (λ (l : compare_parts p part ≡ Less).
    at_less (compare_parts p part) _ _ _ l ∙ ends_full left (p ∷ []) link (subst (λ (o : Ordering). by_order o (EndsAt left (p ∷ []) link) (link ≡ at + 4) (EndsAt right (p ∷ []) link)) l ends))
    (⊎_elim
    (λ (s : compare_parts p part ≡ Equal). at_equal (compare_parts p part) _ _ _ s ∙ none_below children)
    (λ (g : compare_parts p part ≡ Greater).
    at_greater (compare_parts p part) _ _ _ g ∙ ends_full right (p ∷ []) link (subst (λ (o : Ordering). by_order o (EndsAt left (p ∷ []) link) (link ≡ at + 4) (EndsAt right (p ∷ []) link)) g ends)))
    (orders (compare_parts p part))
  where
    none_below : (t : Tree) → 1 + depth t [] ≡ 1
    none_below leaf = refl
    none_below (node at part left right children cell) = refl
ends_full (node at part left right children cell) (p ∷ x ∷ ps) link ends =
    let choice : Ordering → Type 0 = λ o. by_order o (EndsAt left (p ∷ x ∷ ps) link) (EndsAt children (x ∷ ps) link) (EndsAt right (p ∷ x ∷ ps) link) in ⊎_elim
    (λ (l : compare_parts p part ≡ Less). at_less (compare_parts p part) _ _ _ l ∙ ends_full left (p ∷ x ∷ ps) link (subst choice l ends))
    (⊎_elim
    (λ (s : compare_parts p part ≡ Equal). let more = ends_full children (x ∷ ps) link (subst choice s ends) in at_equal (compare_parts p part) _ _ _ s ∙ ap (λ (n : ℕ). 1 + n) more ∙ one_on (length (x ∷ ps)))
    (λ (g : compare_parts p part ≡ Greater). at_greater (compare_parts p part) _ _ _ g ∙ ends_full right (p ∷ x ∷ ps) link (subst choice g ends)))
    (orders (compare_parts p part))
  where
    one_on : (n : ℕ) → 1 + n ≡ suc n
    one_on n = omega arith

-- a name that missed its cell alone
pub levels_cell : (sets : List Set) (name value : List ℕ) (levels : Levels) (link : ℕ) → find (tree_of sets) (parts_of name) ≡ 0 → EndsAt (tree_of sets) (parts_of name) link
    → AreLevels sets levels → AreLevels (sets ++ (name, value) ∷ []) levels
levels_cell sets name value levels link absent there ends front e is =
    let trie : Trie = trie_of (sizes_of sets) in
    let ps = parts_of name in
    let cell : Cell = record { place = cell_place trie ps; words = cell_words (length value) } in
    ap (λ (t : Trie). level_in 1 t.tree (front_parts front)) (trie_more sets name value absent)
    ∙ level-with_cell 1 (grown (length ps) (tree_of sets) ps (mark_of sets)) ps cell (front_parts front)
    ∙ ap (λ (t : Tree). level_in 1 t (front_parts front)) (grown_full (length ps) (tree_of sets) ps (mark_of sets) (ends_full (tree_of sets) ps link there))
    ∙ ends front e is

-- the same trie
pub levels_same : (sets later : List Set) (levels : Levels) → tree_of later ≡ tree_of sets → AreLevels sets levels → AreLevels later levels
levels_same sets later levels same ends front e is = ap (λ (t : Tree). level_in 1 t (front_parts front)) same ∙ ends front e is

-- and the same ends
pub levels_told : (sets : List Set) (old new : Levels) → new.top ≡ old.top → ((front : List ℕ) → noted_below new.below front ≡ noted_below old.below front) → AreLevels sets old → AreLevels sets new
levels_told sets old new top below ends front e is = ends front e (sym (ap (option_map level_as) (at front)) ∙ is)
  where
    at : (front : Option (List ℕ)) → noted_at new front ≡ noted_at old front
    at None = top
    at (Some f) = below f
