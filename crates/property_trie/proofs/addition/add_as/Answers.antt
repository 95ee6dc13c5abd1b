use Rattle.std.proofs.Common.{◌≡◌, ℕ, List, rules, ◌<◌, ◌≤◌, ◌^◌, ◌+◌, [], sym, ◌∙◌, ap, subst, length, arith}
use Rattle.init_base.specs.Value.{max_value_len}
use Rattle.serial_value.specs.Words.{IsValue}
use Rattle.serial_value.specs.impl_laws.Bodies.{most_len}
use Rattle.serial_value.specs.Cell.{sets_of}
use Rattle.init_machine.specs.Sets.{Set}
use Rattle.property_trie.specs.Parts.{parts_of}
use Rattle.property_trie.specs.Walk.{EndsAt}
use Rattle.property_trie.specs.Additions.{IsAdding, free_place, linked_in, tree_with, missing_count, new_cell}
use Rattle.property_trie.proofs.Additional.{Parted, Far, cell_far, linked_far, sits_far, goes_on, free_far, stored_far, accepted_far, place_behind}
use Rattle.property_trie.proofs.addition.add_as.Given as given
use Rattle.property_trie.proofs.addition.add_as.Goals.{After-make_path-new, After-store_cell}
use Rattle.property_trie.proofs.addition.add_as.Goals as goal

laws : (g : given.Over) → Parted g.R.CellRule.cell g.R.TrieRule.trie g.R.TrieRule.with_trie g.R.CellRule.words g.R.CellRule.Settled
laws g =
    let M = g.met.R.TrieRule in
    record { trie_with = M.trie_with; trie_same = M.trie_same; trie_twice = M.trie_twice; cell_beside = M.cell_beside; words_stay = M.words_stay; settled_beside = M.settled_beside }

abbrev count : (g : given.Over) → After-make_path-new g → ℕ
count g c = missing_count (sets_of (g.R.CellRule.cell c.args.seat.now.me.0)) g.Q.Added.name

-- where the cell comes to lie
place : (g : given.Over) (c : After-make_path-new g) → c.make_path-new.result.place ≡ free_place (sets_of (g.R.CellRule.cell c.args.seat.now.me.0)) g.Q.Added.name (count g c)
place g c = c.make_path-new.ensures.path.free ∙ sym (place_behind (sets_of (g.R.CellRule.cell c.args.seat.now.me.0)) g.Q.Added.name)

-- the words of the cell stand
abbrev stored : (g : given.Over) → After-store_cell g → List ℕ
stored g c = new_cell c.args.number c.args.value.now

far : (g : given.Over) (c : After-store_cell g)
    → Far g.R.TrieRule.trie g.R.TrieRule.with_trie c.args.seat.now.me c.store_cell.new.seat.me g.Q.Added.name (missing_count (sets_of (g.R.CellRule.cell c.args.seat.now.me.0)) g.Q.Added.name) (stored g c)
far g c =
    stored_far (laws g) c.args.seat.now.me c.make_path-new.new.seat.me c.store_cell.new.seat.me g.Q.Added.name (missing_count (sets_of (g.R.CellRule.cell c.args.seat.now.me.0)) g.Q.Added.name) (stored g c)
    c.make_path-new.ensures.view c.store_cell.ensures.view

sets_same : (g : given.Over) (c : After-store_cell g) → sets_of (g.R.CellRule.cell c.store_cell.new.seat.me.0) ≡ sets_of (g.R.CellRule.cell c.args.seat.now.me.0)
sets_same g c = ap sets_of (cell_far (laws g) c.args.seat.now.me c.store_cell.new.seat.me g.Q.Added.name _ (stored g c) (far g c))

number : (g : given.Over) (c : After-store_cell g) → c.args.number ≡ length (sets_of (g.R.CellRule.cell c.store_cell.new.seat.me.0)) + 1
number g c = let same = ap length (sets_same g c) in let is = c.requires.number.0 in omega arith

pub store_cell-requires : goal.store_cell-requires
store_cell-requires g c =
    let p = (goal.at.store_cell-requires g c).After-make_path-new in
    let m = c.args.seat.now.me in
    let n = c.make_path-new.new.seat.me in
    let made = c.make_path-new.ensures in
    let free = made.path.free in
    let room = c.requires.room in
    record {
      table = sits_far (laws g) m n g.Q.Added.name (count g p) [] made.view c.args.seat.now.table_id c.make_path-new.new.seat.table_id _ made.seat.0 c.requires.table;
      place = (free_far (laws g) m n g.Q.Added.name (count g p) [] made.view _ (place g p), omega arith);
      adds = goes_on (laws g) m n g.Q.Added.name (count g p) [] made.view 0 [] c.requires.adds;
      value = search rules;
    }

pub property_link-requires-clause-link : goal.property_link-requires-clause-link
property_link-requires-clause-link g c =
    let p = (goal.at.property_link-requires-clause-link g c).After-store_cell in
    let path = c.make_path-new.ensures.path in
    let linked = linked_far (laws g) c.args.seat.now.me c.store_cell.new.seat.me g.Q.Added.name _ (stored g p) (far g p) in (
      path.inside,
      subst (λ (x : List Set × ℕ). EndsAt (tree_with x.0 g.Q.Added.name x.1) (parts_of g.Q.Added.name) c.make_path-new.result.link) (λ i. (sym (sets_same g p) i, sym linked i)) path.ends,
    )

pub property_link-requires-clause-place : goal.property_link-requires-clause-place
property_link-requires-clause-place g c =
    let p = (goal.at.property_link-requires-clause-place g c).After-store_cell in
    free_far (laws g) c.args.seat.now.me c.store_cell.new.seat.me g.Q.Added.name _ (stored g p) (far g p) _ (place g (goal.at.property_link-requires-clause-place g c).After-make_path-new)

pub property_link-requires-clause-adds : goal.property_link-requires-clause-adds
property_link-requires-clause-adds g c =
    let p = (goal.at.property_link-requires-clause-adds g c).After-store_cell in
    let may = goes_on (laws g) c.args.seat.now.me c.store_cell.new.seat.me g.Q.Added.name _ (stored g p) (far g p) 0 [] c.requires.adds in
    let n = c.store_cell.new.seat.me.0 in
    (may.0, subst (λ (x : ℕ × List ℕ). IsAdding (g.R.CellRule.cell n) (g.R.TrieRule.trie n) g.Q.Added.name (linked_in (g.R.TrieRule.trie n).adding) (new_cell x.0 x.1)) (λ i. (number g p i, c.requires.value.0 i)) may.1)

pub property_link-requires-clause-value : goal.property_link-requires-clause-value
property_link-requires-clause-value g c =
    let p = (goal.at.property_link-requires-clause-value g c).After-store_cell in
    let value : IsValue c.args.value.now = record { within = let most = most_len c.args.name.now in let l = c.requires.value.1 in omega arith; bytes = λ i. let f = c.type_inv.value i in omega arith } in
    let fits = subst (λ (x : List ℕ × List ℕ). length x.0 ≤ max_value_len x.1) (λ i. (c.requires.value.0 i, c.requires.name.0 i)) c.requires.value.1 in
    (subst IsValue c.requires.value.0 value, fits, subst (λ (k : ℕ). k < 2 ^ 55) (number g p) c.requires.number.1)

pub returns-clause-view : goal.returns-clause-view
returns-clause-view g c =
    let p = (goal.at.returns-clause-view g c).After-store_cell in
    accepted_far (laws g) g.R.CellRule.with_cell c.args.seat.now.me c.store_cell.new.seat.me g.Q.Added.name _ (stored g p) (far g p)
    c.property_link.new.seat.me g.Q.Added.value c.make_path-new.result.place c.property_link.ensures.view
