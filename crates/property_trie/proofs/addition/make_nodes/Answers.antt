use Rattle.std.proofs.Common.{◌≡◌, ℕ, ◌≤◌, ◌^◌, ◌+◌, ◌-◌, List, ◌∷◌, [], refl, sym, ◌∙◌, ap, subst, take, drop, length, arith}
use Rattle.std.proofs.lemmas.List.{length-drop, take_rest}
use Rattle.serial_value.specs.Cell.{sets_of}
use Rattle.property_trie.specs.Parts.{parts_of, parts_behind, node_size}
use Rattle.property_trie.specs.Additions.{new_node, adding}
use Rattle.property_trie.proofs.Names.{first_part}
use Rattle.property_trie.proofs.PartsLeft.{more_parts, last_part}
use Rattle.property_trie.proofs.Additional.{Parted, MadeSoFar, none_made, node_room, place_next, next_stored, next_linked, one_made, all_made, path_made}
use Rattle.property_trie.proofs.addition.make_nodes.Given as given
use Rattle.property_trie.proofs.addition.make_nodes.Goals.{After-part_len-len}
use Rattle.property_trie.proofs.addition.make_nodes.Goals as goal

laws : (g : given.Over) → Parted g.R.CellRule.cell g.R.TrieRule.trie g.R.TrieRule.with_trie g.R.CellRule.words g.R.CellRule.Settled
laws g =
    let M = g.met.R.TrieRule in
    record { trie_with = M.trie_with; trie_same = M.trie_same; trie_twice = M.trie_twice; cell_beside = M.cell_beside; words_stay = M.words_stay; settled_beside = M.settled_beside }

-- what is left of the name, its first part, and the parts behind it
abbrev rest : (g : given.Over) → After-part_len-len g → List ℕ
rest g c = take (length c.args.name.now - c.parts.from) (drop c.parts.from c.args.name.now)

abbrev part : (g : given.Over) → After-part_len-len g → List ℕ
part g c = take c.part_len-len.result (rest g c)

abbrev behind : (g : given.Over) → After-part_len-len g → List (List ℕ)
behind g c = parts_behind c.part_len-len.result (rest g c)

whole : (g : given.Over) (c : After-part_len-len g) → rest g c ≡ drop c.parts.from c.args.name.now
whole g c = take_rest c.args.name.now c.parts.from

first : (g : given.Over) (c : After-part_len-len g) → parts_of (drop c.parts.from c.args.name.now) ≡ part g c ∷ behind g c
first g c = ap parts_of (sym (whole g c)) ∙ c.part_len-len.ensures.first

room : (g : given.Over) (c : After-part_len-len g) → c.parts.place + node_size (part g c) ≤ c.args.table.now.shared.table_id.words
room g c = node_room c.parts.invariant.made (first g c) c.requires.room.1

small : (g : given.Over) (c : After-part_len-len g) → c.args.table.now.shared.table_id.words ≤ 2 ^ 32
small g c = subst (λ (k : ℕ). k ≤ 2 ^ 32) c.requires.table.1.0 c.requires.table.1.1

pub parts-init : goal.parts-init
parts-init g c =
    let m = c.args.seat.now.me in
    record {
      table = refl;
      id = refl;
      made = none_made (laws g) m (sets_of (g.R.CellRule.cell m.0)) g.Q.Added.name c.args.table.now.shared.table_id.words c.args.top c.args.mark (parts_of (drop c.args.first c.args.name.now))
          c.requires.adds.1.under_way c.requires.rest c.requires.top.1 c.requires.room.0 c.requires.top.0;
      within = c.requires.name.2;
    }

pub store_node-requires-clause-place : goal.store_node-requires-clause-place
store_node-requires-clause-place g c =
    let p = (goal.at.store_node-requires-clause-place g c).After-part_len-len in
    (place_next (laws g) c.parts.invariant.made (first g p), room g p)

pub interior_link-requires-clause-next : goal.interior_link-requires-clause-next
interior_link-requires-clause-next g c =
    let p = (goal.at.interior_link-requires-clause-next g c).After-part_len-len in
    next_stored (laws g) c.parts.invariant.made (first g p) c.store_node.new.seat.me (new_node (part g p)) c.store_node.ensures.view

pub overflow_add-free : goal.overflow_add-free
overflow_add-free g c =
    let p = (goal.at.overflow_add-free g c).After-part_len-len in
    omega (arith, room g p, small g p, c.node_size.ensures)

pub overflow_add-result : goal.overflow_add-result
overflow_add-result g c =
    let p = (goal.at.overflow_add-result g c).After-part_len-len in
    omega (arith, room g p, small g p)

pub overflow_add-link : goal.overflow_add-link
overflow_add-link g c =
    let p = (goal.at.overflow_add-link g c).After-part_len-len in
    omega (arith, room g p, small g p)

pub returns-then-end-name-clause-view : goal.returns-then-end-name-clause-view
returns-then-end-name-clause-view g c =
    let p = (goal.at.returns-then-end-name-clause-view g c).After-part_len-len in
    let m = c.args.seat.now.me in
    let made = c.parts.invariant.made in
    let far = next_linked (laws g) made (first g p) c.store_node.new.seat.me (new_node (part g p)) c.store_node.ensures.view c.interior_link.new.seat.me c.interior_link.ensures.view in
    let none : behind g p ≡ [] = ap (parts_behind c.part_len-len.result) (whole g p) ∙ last_part c.args.name.now c.parts.from c.part_len-len.result c.parts.invariant.within c.if-end-name.true in
    far ∙ (λ i. (g.R.TrieRule.with_trie m.0 (adding (g.R.TrieRule.trie m.0) g.Q.Added.name (sym (all_made made (first g p) none) i) []), m.1))

pub returns-then-end-name-clause-path : goal.returns-then-end-name-clause-path
returns-then-end-name-clause-path g c =
    let p = (goal.at.returns-then-end-name-clause-path g c).After-part_len-len in
    let none : behind g p ≡ [] = ap (parts_behind c.part_len-len.result) (whole g p) ∙ last_part c.args.name.now c.parts.from c.part_len-len.result c.parts.invariant.within c.if-end-name.true in
    path_made c.parts.invariant.made (first g p) (record { link = c.parts.place + 4; place = c.parts.place + c.node_size.result }) none refl
    (ap (λ (k : ℕ). c.parts.place + k) c.node_size.ensures) (room g p)

pub parts-preserved : goal.parts-preserved
parts-preserved g c =
    let p = (goal.at.parts-preserved g c).After-part_len-len in
    let m = c.args.seat.now.me in
    let n2 = c.interior_link.new.seat.me in
    let made = c.parts.invariant.made in
    let far = next_linked (laws g) made (first g p) c.store_node.new.seat.me (new_node (part g p)) c.store_node.ensures.view n2 c.interior_link.ensures.view in
    let text = c.args.name.now in
    let len = c.part_len-len.result in
    let next = drop (c.parts.from + len + 1) text in
    let is : behind g p ≡ parts_of next = ap (parts_behind len) (whole g p) ∙ more_parts text c.parts.from len c.parts.invariant.within c.if-end-name.false in
    let q = first_part next in
    record {
      table = c.interior_link.ensures.seat.0 ∙ (c.store_node.ensures.seat.0 ∙ c.parts.invariant.table);
      id = c.interior_link.ensures.seat.1 ∙ (c.store_node.ensures.seat.1 ∙ c.parts.invariant.id);
      made = subst (λ (x : ℕ × List (List ℕ)). MadeSoFar g.R.TrieRule.trie g.R.TrieRule.with_trie m n2 (sets_of (g.R.CellRule.cell m.0)) g.Q.Added.name c.args.table.now.shared.table_id.words
          (c.parts.place + 3) (c.parts.place + x.0) x.1) (λ i. (sym c.node_size.ensures i, is i))
          (one_made made (first g p) n2 q.0 q.1 (is ∙ q.2) far (room g p));
      within =
          let short = c.part_len-len.ensures.inside in
          let same = ap length (whole g p) in
          let long = length-drop c.parts.from text in
          let more = c.if-end-name.false in
          omega arith;
    }
