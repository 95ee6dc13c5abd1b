use Rattle.std.proofs.Common.{[], sym, subst, ◌∙◌}
use Rattle.serial_value.specs.Cell.{sets_of}
use Rattle.property_trie.specs.Additions.{adding, IsMissing}
use Rattle.property_trie.proofs.Additional.{Parted, far_none, path_there}
use Rattle.property_trie.proofs.addition.make_path.Goals as goal

pub returns-in-Cell-clause-view : goal.returns-in-Cell-clause-view
returns-in-Cell-clause-view g c =
    let M = g.met.R.TrieRule in
    let L : Parted g.R.CellRule.cell g.R.TrieRule.trie g.R.TrieRule.with_trie g.R.CellRule.words g.R.CellRule.Settled =
    record { trie_with = M.trie_with; trie_same = M.trie_same; trie_twice = M.trie_twice; cell_beside = M.cell_beside; words_stay = M.words_stay; settled_beside = M.settled_beside } in
    let R = g.R.TrieRule in
    let m = c.args.seat.now.me in
    let name = g.Q.Added.name in
    let found = subst (IsMissing c.args.table.now.shared.table_id.words (sets_of (g.R.CellRule.cell m.0)) name) c.in-Cell.is c.requires.missing in
    let there = path_there c.args.table.now.shared.table_id.words (sets_of (g.R.CellRule.cell m.0)) name (record { link = c.in-Cell.link; place = c.args.mark })
    found.0 c.requires.room.0 found.1 in
    (far_none L m name 0 [] c.requires.adds.1.under_way ∙ (λ i. (R.with_trie m.0 (adding (R.trie m.0) name (sym there.0 i) []), m.1)))

pub returns-in-Cell-clause-path : goal.returns-in-Cell-clause-path
returns-in-Cell-clause-path g c =
    let found = subst (IsMissing c.args.table.now.shared.table_id.words (sets_of (g.R.CellRule.cell c.args.seat.now.me.0)) g.Q.Added.name) c.in-Cell.is c.requires.missing in
    (path_there c.args.table.now.shared.table_id.words (sets_of (g.R.CellRule.cell c.args.seat.now.me.0)) g.Q.Added.name (record { link = c.in-Cell.link; place = c.args.mark })
    found.0 c.requires.room.0 found.1).1
