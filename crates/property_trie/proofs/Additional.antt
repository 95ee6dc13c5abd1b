-- While an addition is made, the view of the writer changes in that addition alone.
use Rattle.std.proofs.Common.{◌≡◌, ℕ, zero, suc, ◌+◌, ◌-◌, ◌<◌, ◌≤◌, IsTrue, List, [], ◌∷◌, ◌++◌, length, take, drop, None, sym, refl, ap, ◌∙◌, subst, arith}
use Rattle.std.specs.Prelude.{Contains}
use Rattle.std.proofs.lemmas.List.{length-append}
use Rattle.atomic_table.specs.declared.shared.Seat.{Seat}
use Rattle.atomic_table.specs.Seated.{TableId}
use Rattle.serial_value.specs.declared.view.CellView.{CellView}
use Rattle.serial_value.specs.declared.view.CellView.TheVariants.{Writer, Reader}
use Rattle.serial_value.specs.Cell.{sets_of, accepted, IsWriter}
use Rattle.serial_value.specs.Steps.{IsSameSeat}
use Rattle.init_machine.specs.declared.report.Reading.{Reading}
use Rattle.serial_value.specs.Words.{text_word, body_word}
use Rattle.init_machine.specs.Sets.{Set}
use Rattle.property_trie.specs.Parts.{parts_of, node_size}
use Rattle.property_trie.specs.Tree.{Tree, node_sizes, find, cell_place, trie_of}
use Rattle.property_trie.specs.TreeWords.{link_at}
use Rattle.property_trie.specs.Walk.{EndsAt}
use Rattle.property_trie.specs.TrieSteps.{HasWords, sizes_of, tree_of, missing_parts, rested, Searches, LinkInside}
use Rattle.property_trie.specs.declared.addition.NewCell.{NewCell}
use Rattle.property_trie.specs.declared.walk.SearchEnd.{SearchEnd}
use Rattle.property_trie.specs.declared.walk.SearchEnd.TheVariants.{Cell, NoCell, NoNode}
use Rattle.property_trie.proofs.Growing.{grown_none, link_after, end_after, sizes_more, sizes_whole, drop_next, drop_all, take_whole, drop_whole}
use Rattle.property_trie.proofs.Walks.{ends_deep}
use Rattle.property_trie.specs.declared.view.TrieView.{TrieView}
use Rattle.property_trie.specs.Additions.{first_words, new_node_word, new_cell_word, addition, linked_in, fresh_in, adding, tree_with, free_place, missing_count, IsNext, IsAdding, HasPath, EndsAbsent, linking, with_added}

pub fresh-addition : (name : List ℕ) (linked : ℕ) (fresh : List ℕ) → fresh_in (addition name linked fresh) ≡ fresh
fresh-addition name zero [] = refl
fresh-addition name zero (w ∷ ws) = refl
fresh-addition name (suc n) fresh = refl

pub linked-addition : (name : List ℕ) (linked : ℕ) (fresh : List ℕ) → linked_in (addition name linked fresh) ≡ linked
linked-addition name zero [] = refl
linked-addition name zero (w ∷ ws) = refl
linked-addition name (suc n) fresh = refl

pub length-first_words : (word : ℕ → ℕ) (n : ℕ) → length (first_words word n) ≡ n
length-first_words word zero = refl
length-first_words word (suc n) = let r = length-first_words word n in length-append (first_words word n) (word n ∷ []) ∙ (omega arith)

pub late_node_word : (part : List ℕ) (k : ℕ) → (k ≡ 0 → ⊥) → (k < 5 → ⊥) → new_node_word part k ≡ text_word part (k - 5)
late_node_word part zero some late = absurd (some refl)
late_node_word part (suc zero) some late = absurd (late (omega arith))
late_node_word part (suc (suc zero)) some late = absurd (late (omega arith))
late_node_word part (suc (suc (suc zero))) some late = absurd (late (omega arith))
late_node_word part (suc (suc (suc (suc zero)))) some late = absurd (late (omega arith))
late_node_word part (suc (suc (suc (suc (suc k))))) some late =
    let e : k ≡ suc (suc (suc (suc (suc k)))) - 5 = omega arith in ap (text_word part) e

pub early_node_word : (part : List ℕ) (k : ℕ) → (k ≡ 0 → ⊥) → k < 5 → new_node_word part k ≡ 0
early_node_word part zero some early = absurd (some refl)
early_node_word part (suc zero) some early = refl
early_node_word part (suc (suc zero)) some early = refl
early_node_word part (suc (suc (suc zero))) some early = refl
early_node_word part (suc (suc (suc (suc zero)))) some early = refl
early_node_word part (suc (suc (suc (suc (suc k))))) some early = absurd (omega arith)

pub late_cell_word : (number : ℕ) (value : List ℕ) (k : ℕ) → (k ≡ 0 → ⊥) → new_cell_word number value k ≡ body_word value (k - 1)
late_cell_word number value zero some = absurd (some refl)
late_cell_word number value (suc k) some = let e : k ≡ suc k - 1 = omega arith in ap (body_word value) e

pub adding_same : (t : TrieView) (name : List ℕ) (linked : ℕ) (fresh : List ℕ) → t.adding ≡ addition name linked fresh → adding t name linked fresh ≡ t
adding_same t name linked fresh is = λ i. record t { adding = sym is i }

module _ {V X : Type 0} (trie : V → TrieView) (with_trie : V → TrieView → V) where
  -- the addition has come so far since the first view
  abbrev pub Far : V × X → V × X → List ℕ → ℕ → List ℕ → Type 0
  Far m n name linked fresh = n ≡ (with_trie m.0 (adding (trie m.0) name linked fresh), m.1)

-- between two stores of fresh words: it is that seat, and these words stand
pub record Stores {S V : Type 0} (trie : V → TrieView) (with_trie : V → TrieView → V) (before after : Seat S V) (name : List ℕ) (linked : ℕ) (fresh : List ℕ) : Type 0 where
  pub table : after.table_id ≡ before.table_id
  pub id : after.id ≡ before.id
  pub far : Far trie with_trie before.me after.me name linked fresh

-- what a rule says of the parts of its views
pub record Parted {V : Type 0} (cell : V → CellView) (trie : V → TrieView) (with_trie : V → TrieView → V) (words : V → ℕ) (Settled : V → Type 0) : Type 0 where
  pub trie_with : (v : V) (t : TrieView) → trie (with_trie v t) ≡ t
  pub trie_same : (v : V) → with_trie v (trie v) ≡ v
  pub trie_twice : (v : V) (t u : TrieView) → with_trie (with_trie v t) u ≡ with_trie v u
  pub cell_beside : (v : V) (t : TrieView) → cell (with_trie v t) ≡ cell v
  pub words_stay : (v : V) (t : TrieView) → words (with_trie v t) ≡ words v
  pub settled_beside : (v : V) (t : TrieView) → t.live ≡ (trie v).live → Settled v → Settled (with_trie v t)

module _ {V X : Type 0} {cell : V → CellView} {trie : V → TrieView} {with_trie : V → TrieView → V} {words : V → ℕ} {Settled : V → Type 0}
    (L : Parted cell trie with_trie words Settled) where
  module _ (m n : V × X) (name : List ℕ) (linked : ℕ) (fresh : List ℕ) (far : Far trie with_trie m n name linked fresh) where
    abbrev so_far : TrieView
    so_far = adding (trie m.0) name linked fresh

    view_is : n.0 ≡ with_trie m.0 so_far
    view_is = ap (λ x. x.0) far

    pub cell_far : cell n.0 ≡ cell m.0
    cell_far = ap cell view_is ∙ L.cell_beside m.0 so_far

    pub words_far : words n.0 ≡ words m.0
    words_far = ap words view_is ∙ L.words_stay m.0 so_far

    trie_far : trie n.0 ≡ so_far
    trie_far = ap trie view_is ∙ L.trie_with m.0 so_far

    pub fresh_far : fresh_in (trie n.0).adding ≡ fresh
    fresh_far = ap (λ t. fresh_in t.adding) trie_far ∙ fresh-addition name linked fresh

    pub linked_far : linked_in (trie n.0).adding ≡ linked
    linked_far = ap (λ t. linked_in t.adding) trie_far ∙ linked-addition name linked fresh

    pub settled_far : Settled m.0 → Settled n.0
    settled_far settled = subst Settled (sym view_is) (L.settled_beside m.0 so_far refl settled)

    -- it is still that addition
    pub adds_far : (linked' : ℕ) (fresh' : List ℕ) → IsAdding (cell m.0) (trie m.0) name linked' fresh' → IsAdding (cell n.0) (trie n.0) name linked fresh
    adds_far linked' fresh' adds = subst (λ (x : CellView × TrieView). IsAdding x.0 x.1 name linked fresh) (λ i. (sym cell_far i, sym trie_far i)) record {
      live = adds.live;
      writes = adds.writes;
      legal = adds.legal;
      absent = adds.absent;
      under_way = refl;
    }

    -- and the seat is at that table
    pub sits_far : (a b table : TableId) → b ≡ a → (a ≡ table) × HasWords table (words m.0) → (b ≡ table) × HasWords table (words n.0)
    sits_far a b table same sits = (same ∙ sits.0, subst (HasWords table) (sym words_far) sits.1)

    -- the rule lets it go on
    pub goes_on : (linked' : ℕ) (fresh' : List ℕ) → Settled m.0 × IsAdding (cell m.0) (trie m.0) name linked' fresh' → Settled n.0 × IsAdding (cell n.0) (trie n.0) name (linked_in (trie n.0).adding) fresh
    goes_on linked' fresh' may =
        (settled_far may.0, subst (λ (k : ℕ). IsAdding (cell n.0) (trie n.0) name k fresh) (sym linked_far) (adds_far linked' fresh' may.1))

    pub free_far : (place : ℕ) → place ≡ free_place (sets_of (cell m.0)) name linked → place ≡ free_place (sets_of (cell n.0)) name (linked_in (trie n.0).adding)
    free_far place is = is ∙ (λ i. free_place (sets_of (sym cell_far i)) name (sym linked_far i))

    -- the next fresh word
    pub next_word : (place k : ℕ) (linked' : ℕ) (fresh' : List ℕ) → place ≡ free_place (sets_of (cell m.0)) name linked → length fresh ≡ k
        → Settled m.0 × IsAdding (cell m.0) (trie m.0) name linked' fresh'
        → (place + k ≡ free_place (sets_of (cell n.0)) name linked + length (fresh_in (trie n.0).adding)) × Settled n.0 × IsAdding (cell n.0) (trie n.0) name linked (fresh_in (trie n.0).adding)
    next_word place k linked' fresh' is long may =
        let free = ap (λ (x : CellView). free_place (sets_of x) name linked) cell_far in
        let same = ap length fresh_far in
        (omega arith, settled_far may.0, subst (IsAdding (cell n.0) (trie n.0) name linked) (sym fresh_far) (adds_far linked' fresh' may.1))

    -- and goes on from here as from the first view
    pub far_on : (o : V × X) (linked' : ℕ) (fresh' : List ℕ) → Far trie with_trie n o name linked' fresh' → Far trie with_trie m o name linked' fresh'
    far_on o linked' fresh' next =
        next ∙ (λ i. (with_trie (view_is i) (adding (trie_far i) name linked' fresh'), (far i).1))
        ∙ (λ i. (L.trie_twice m.0 so_far (adding (trie m.0) name linked' fresh') i, m.1))

    -- a word more
    pub one_more : (o : V × X) (word : ℕ → ℕ) (k w : ℕ) (before : List ℕ) → fresh ≡ first_words word k → before ≡ fresh → w ≡ word k
        → Far trie with_trie n o name linked (before ++ w ∷ []) → Far trie with_trie m o name linked (first_words word (k + 1))
    one_more o word k w before first same is next =
        let e : suc k ≡ k + 1 = omega arith in
        far_on o linked (first_words word (k + 1))
        (next ∙ (λ i. (with_trie n.0 (adding (trie n.0) name linked ((same ∙ first) i ++ is i ∷ [])), n.1))
        ∙ (λ i. (with_trie n.0 (adding (trie n.0) name linked (first_words word (e i))), n.1)))

  -- a node's or a cell's words
  pub stored_far : (m n n1 : V × X) (name : List ℕ) (count : ℕ) (fresh : List ℕ) → Far trie with_trie m n name count []
      → Far trie with_trie n n1 name (linked_in (trie n.0).adding) fresh → Far trie with_trie m n1 name count fresh
  stored_far m n n1 name count fresh far stored =
      let k0 = linked_far m n name count [] far in
      far_on m n name count [] far n1 count fresh (stored ∙ (λ i. (with_trie n.0 (adding (trie n.0) name (k0 i) fresh), n.1)))

  -- and the link to the node
  pub linked_on : (m n1 n2 : V × X) (name : List ℕ) (count : ℕ) (fresh : List ℕ) → Far trie with_trie m n1 name count fresh
      → Far trie with_trie n1 n2 name (suc (linked_in (trie n1.0).adding)) [] → Far trie with_trie m n2 name (suc count) []
  linked_on m n1 n2 name count fresh far linked =
      let k1 = linked_far m n1 name count fresh far in
      far_on m n1 name count fresh far n2 (suc count) [] (linked ∙ (λ i. (with_trie n1.0 (adding (trie n1.0) name (suc (k1 i)) []), n1.1)))

  -- nothing has happened yet
  pub far_none : (m : V × X) (name : List ℕ) (linked : ℕ) (fresh : List ℕ) → (trie m.0).adding ≡ addition name linked fresh → Far trie with_trie m m name linked fresh
  far_none m name linked fresh is = (λ i. (sym (ap (with_trie m.0) (adding_same (trie m.0) name linked fresh is) ∙ L.trie_same m.0) i, m.1))

module _ {S V : Type 0} {cell : V → CellView} {trie : V → TrieView} {with_trie : V → TrieView → V} {words : V → ℕ} {Settled : V → Type 0}
    (L : Parted cell trie with_trie words Settled) where
  -- none stands yet
  pub stores_none : (seat : Seat S V) (word : ℕ → ℕ) (name : List ℕ) (linked : ℕ) → (trie seat.me.0).adding ≡ addition name linked [] → Stores trie with_trie seat seat name linked (first_words word 0)
  stores_none seat word name linked is = record { table = refl; id = refl; far = far_none L seat.me name linked [] is }

  -- what the store of the next fresh word asks
  pub next_asks : {before after : Seat S V} {name : List ℕ} {linked : ℕ} {fresh : List ℕ} → Stores trie with_trie before after name linked fresh
      → (table : TableId) (place k linked' : ℕ) (fresh' : List ℕ) → (before.table_id ≡ table) × HasWords table (words before.me.0) → place ≡ free_place (sets_of (cell before.me.0)) name linked → length fresh ≡ k
      → Settled before.me.0 × IsAdding (cell before.me.0) (trie before.me.0) name linked' fresh'
      → ((after.table_id ≡ table) × HasWords table (words after.me.0)) × (place + k ≡ free_place (sets_of (cell after.me.0)) name linked + length (fresh_in (trie after.me.0).adding))
      × (Settled after.me.0 × IsAdding (cell after.me.0) (trie after.me.0) name linked (fresh_in (trie after.me.0).adding))
  next_asks {before = b} {after = a} {name = name} {linked = linked} {fresh = fresh} h table place k linked' fresh' sits is long may =
      let next = next_word L b.me a.me name linked fresh h.far place k linked' fresh' is long may in
      (sits_far L b.me a.me name linked fresh h.far b.table_id a.table_id table h.table sits, next.0, (next.1, next.2))

  -- and leaves
  pub stores_more : {before after : Seat S V} {name : List ℕ} {linked : ℕ} (word : ℕ → ℕ) (k : ℕ) → Stores trie with_trie before after name linked (first_words word k)
      → (next : Seat S V) (w : ℕ) → IsSameSeat after next → w ≡ word k → Far trie with_trie after.me next.me name linked (fresh_in (trie after.me.0).adding ++ w ∷ [])
      → Stores trie with_trie before next name linked (first_words word (k + 1))
  stores_more {before = b} {after = a} {name = name} {linked = linked} word k h next w same is view = record {
    table = same.0 ∙ h.table;
    id = same.1 ∙ h.id;
    far = one_more L b.me a.me name linked (first_words word k) h.far next.me word k w _ refl (fresh_far L b.me a.me name linked (first_words word k) h.far) is view;
  }

-- How far the nodes of a name are made: so many are linked, these parts have no node yet, and the next node is to be linked
-- here and lies there.
pub record MadeSoFar {V X : Type 0} (trie : V → TrieView) (with_trie : V → TrieView → V) (m n : V × X) (sets : List Set) (name : List ℕ) (words link place : ℕ) (left : List (List ℕ)) : Type 0 where
  pub count : ℕ
  pub far : Far trie with_trie m n name count []
  pub left_is : left ≡ drop count (missing_parts (tree_of sets) (parts_of name))
  pub link_is : link ≡ link_at 1 (tree_with sets name count) (parts_of name)
  pub place_is : place ≡ free_place sets name count
  pub inside : link < words

pub none_made : {V X : Type 0} {cell : V → CellView} {trie : V → TrieView} {with_trie : V → TrieView → V} {words_of : V → ℕ} {Settled : V → Type 0} (L : Parted cell trie with_trie words_of Settled)
    → (m : V × X) (sets : List Set) (name : List ℕ) (words link place : ℕ) (left : List (List ℕ)) → (trie m.0).adding ≡ None
    → left ≡ missing_parts (tree_of sets) (parts_of name) → link ≡ link_at 1 (tree_of sets) (parts_of name) → place ≡ (trie_of (sizes_of sets)).mark → link < words
    → MadeSoFar trie with_trie m m sets name words link place left
none_made L m sets name words link place left none is at mark inside = record {
  count = 0;
  far = far_none L m name 0 [] none;
  left_is = is;
  link_is = at ∙ ap (λ (t : Tree). link_at 1 t (parts_of name)) (sym (grown_none (tree_of sets) (parts_of name) (trie_of (sizes_of sets)).mark));
  place_is = mark ∙ (omega arith);
  inside = inside;
}

module _ {V X : Type 0} {trie : V → TrieView} {with_trie : V → TrieView → V} {m n : V × X} {sets : List Set} {name : List ℕ} {words link place : ℕ}
    {left : List (List ℕ)} (h : MadeSoFar trie with_trie m n sets name words link place left) {part : List ℕ} {behind : List (List ℕ)} (first : left ≡ part ∷ behind) where
  abbrev missing : List (List ℕ)
  missing = missing_parts (tree_of sets) (parts_of name)

  next_is : drop h.count missing ≡ part ∷ behind
  next_is = sym h.left_is ∙ first

  pub next_part : IsNext sets name h.count part
  next_part = (behind, next_is)

  -- the next node has room, as all have
  pub node_room : cell_place (trie_of (sizes_of sets)) (parts_of name) ≤ words → place + node_size part ≤ words
  node_room room =
      let more = sizes_more h.count missing part behind next_is in
      let all = sizes_whole (suc h.count) missing in
      let p = h.place_is in
      omega arith

  -- one more is made, and others are left
  pub one_made : (o : V × X) (q : List ℕ) (qs : List (List ℕ)) → behind ≡ q ∷ qs → Far trie with_trie m o name (suc h.count) [] → place + node_size part ≤ words
      → MadeSoFar trie with_trie m o sets name words (place + 3) (place + node_size part) behind
  one_made o q qs more far room = record {
    count = suc h.count;
    far = far;
    left_is = sym (drop_next h.count missing part behind next_is);
    link_is =
        let l = link_after h.count (tree_of sets) (parts_of name) (trie_of (sizes_of sets)).mark 1 part q qs (next_is ∙ ap (λ (r : List (List ℕ)). part ∷ r) more) in
        ap (λ (k : ℕ). k + 3) h.place_is ∙ sym l;
    place_is = let s = sizes_more h.count missing part behind next_is in let p = h.place_is in omega arith;
    inside = omega arith;
  }

  -- all are made
  pub all_made : behind ≡ [] → missing_count sets name ≡ suc h.count
  all_made none = sym (drop_all h.count missing part (next_is ∙ ap (λ (r : List (List ℕ)). part ∷ r) none))

  pub path_made : (new : NewCell) → behind ≡ [] → new.link ≡ place + 4 → new.place ≡ place + node_size part → place + node_size part ≤ words → HasPath words sets name new
  path_made new none at there room =
      let last : drop h.count missing ≡ part ∷ [] = next_is ∙ ap (λ (r : List (List ℕ)). part ∷ r) none in
      let count = drop_all h.count missing part last in
      let all = ap (λ (k : ℕ). node_sizes (take k missing)) count ∙ ap node_sizes (take_whole missing) in
      let more = sizes_more h.count missing part behind next_is in
      let p = h.place_is in record {
        ends = subst (λ (x : ℕ × ℕ). EndsAt (tree_with sets name x.0) (parts_of name) x.1) (λ i. (count i, (ap (λ (k : ℕ). k + 4) (sym h.place_is) ∙ sym at) i))
            (end_after h.count (tree_of sets) (parts_of name) (trie_of (sizes_of sets)).mark part last);
        free = omega arith;
        inside = omega arith;
      }

-- what the steps of the next node ask and leave
module _ {V X : Type 0} {cell : V → CellView} {trie : V → TrieView} {with_trie : V → TrieView → V} {words_of : V → ℕ} {Settled : V → Type 0} (L : Parted cell trie with_trie words_of Settled)
    {m n : V × X} {name : List ℕ} {words link place : ℕ} {left : List (List ℕ)} (h : MadeSoFar trie with_trie m n (sets_of (cell m.0)) name words link place left)
    {part : List ℕ} {behind : List (List ℕ)} (first : left ≡ part ∷ behind) where
  pub place_next : place ≡ free_place (sets_of (cell n.0)) name (linked_in (trie n.0).adding)
  place_next = free_far L m n name h.count [] h.far place h.place_is

  module _ (n1 : V × X) (fresh : List ℕ) (stored : Far trie with_trie n n1 name (linked_in (trie n.0).adding) fresh) where
    so_stored : Far trie with_trie m n1 name h.count fresh
    so_stored = stored_far L m n n1 name h.count fresh h.far stored

    pub next_stored : IsNext (sets_of (cell n1.0)) name (linked_in (trie n1.0).adding) part
    next_stored = subst (λ (x : ℕ × CellView). IsNext (sets_of x.1) name x.0 part)
        (λ i. (sym (linked_far L m n1 name h.count fresh so_stored) i, sym (cell_far L m n1 name h.count fresh so_stored) i)) (next_part h first)

    pub next_linked : (n2 : V × X) → Far trie with_trie n1 n2 name (suc (linked_in (trie n1.0).adding)) [] → Far trie with_trie m n2 name (suc h.count) []
    next_linked n2 linked = linked_on L m n1 n2 name h.count fresh so_stored linked

-- a name whose parts all have nodes
pub path_there : (words : ℕ) (sets : List Set) (name : List ℕ) (new : NewCell) → EndsAt (tree_of sets) (parts_of name) new.link → new.place ≡ (trie_of (sizes_of sets)).mark → new.link < words
    → (missing_count sets name ≡ 0) × HasPath words sets name new
path_there words sets name new ends mark inside =
    let deep = ends_deep (tree_of sets) (parts_of name) new.link ends in
    let none : missing_parts (tree_of sets) (parts_of name) ≡ [] = ap (λ (k : ℕ). drop k (parts_of name)) deep ∙ drop_whole (parts_of name) in
    let count : missing_count sets name ≡ 0 = ap length none in (
      count,
      record {
        ends = subst (λ (t : Tree). EndsAt t (parts_of name) new.link) (sym (ap (λ (k : ℕ). tree_with sets name k) count ∙ grown_none (tree_of sets) (parts_of name) (trie_of (sizes_of sets)).mark)) ends;
        free = mark ∙ (let e = ap node_sizes none in omega arith);
        inside = inside;
      },
    )

-- the search for an absent name
module _ {V : Type 0} (with_trie : V → TrieView → V) (noted : V → Reading → V) (count : ℕ) (t : TrieView) (v after : V) (name : List ℕ) (words : ℕ) (rests : with_trie v (rested t) ≡ v) where
  pub absent_ends : (c : CellView) (end : SearchEnd) → IsWriter c → find (tree_of (sets_of c)) (parts_of name) ≡ 0 → Searches with_trie noted count c t v name end after → LinkInside words end
      → (after ≡ v) × EndsAbsent words (sets_of c) name end
  absent_ends (Writer sets making) (Cell place) writer none s inside = let found = s.1 in let high = s.0.0 in absurd (omega arith)
  absent_ends (Writer sets making) (NoCell link) writer none s inside = (s.0.1 ∙ rests, (s.1, inside))
  absent_ends (Writer sets making) (NoNode link from) writer none s inside = (s.0.1 ∙ rests, (s.1.0, s.1.1, s.2, inside))
  absent_ends (Reader number copying) end writer none s inside = absurd writer

-- the free place behind all nodes is the cell's
pub place_behind : (sets : List Set) (name : List ℕ) → free_place sets name (missing_count sets name) ≡ cell_place (trie_of (sizes_of sets)) (parts_of name)
place_behind sets name = ap (λ (ps : List (List ℕ)). (trie_of (sizes_of sets)).mark + node_sizes ps) (take_whole (missing_parts (tree_of sets) (parts_of name)))

module _ {V X : Type 0} {cell : V → CellView} {trie : V → TrieView} {with_trie : V → TrieView → V} {words : V → ℕ} {Settled : V → Type 0}
    (L : Parted cell trie with_trie words Settled) (with_cell : V → CellView → V) (m n : V × X) (name : List ℕ) (linked : ℕ) (fresh : List ℕ) (far : Far trie with_trie m n name linked fresh) where
  -- the acceptance
  pub accepted_far : (o : V × X) (value : List ℕ) (place : ℕ) → o ≡ (with_added with_cell with_trie (cell n.0) (trie n.0) n.0 name value place, n.1)
      → o ≡ (with_added with_cell with_trie (cell m.0) (trie m.0) m.0 name value place, m.1)
  accepted_far o value place next =
      let t = adding (trie m.0) name linked fresh in
      next ∙ (λ i. (with_cell (with_trie (ap (λ x. x.0) far i) (linking ((ap (λ x. trie x.0) far ∙ L.trie_with m.0 t) i) name place)) (accepted (cell_far L m n name linked fresh far i) name value), (far i).1))
      ∙ (λ i. (with_cell (L.trie_twice m.0 t (linking (trie m.0) name place) i) (accepted (cell m.0) name value), m.1))

-- the cell that was added is known
pub known_after : (t t0 : TrieView) (name : List ℕ) (place : ℕ) → t ≡ linking t0 name place → IsTrue t0.live → IsTrue t.live × Contains t.known (name, place)
known_after t t0 name place is live = subst (λ (u : TrieView). IsTrue u.live × Contains u.known (name, place)) (sym is) (live, (0, omega arith, refl))
