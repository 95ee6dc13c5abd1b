use Rattle.std.proofs.Common.{◌≡◌, sym, ◌∙◌, ap, subst}
use Rattle.serial_value.specs.Cell.{sets_of, IsWriter}
use Rattle.property_trie.specs.declared.walk.SearchEnd.{SearchEnd}
use Rattle.property_trie.specs.Additions.{EndsAbsent}
use Rattle.property_trie.proofs.Additional.{absent_ends}
use Rattle.property_trie.proofs.Walking.{rested_same}
use Rattle.property_trie.proofs.lacking.search_absent.Given as given
use Rattle.property_trie.proofs.lacking.search_absent.Goals.{After-search}
use Rattle.property_trie.proofs.lacking.search_absent.Goals as goal

absent : (g : given.Over) (c : After-search g)
    → (c.search.new.seat.me ≡ c.args.seat.now.me)
    × ((end : SearchEnd) → c.search.result ≡ end → EndsAbsent c.args.table.now.shared.table_id.words (sets_of (g.R.CellRule.cell c.args.seat.now.me.0)) g.Q.Added.name end)
absent g c =
    let R = g.R.TrieRule in
    let v = c.args.seat.now.me.0 in
    let rests = ap (R.with_trie v) (rested_same (R.trie v) c.requires.rests.no_trail) ∙ g.met.R.TrieRule.trie_same v in
    let ends = absent_ends R.with_trie g.R.CellRule.noted (g.R.CellRule.words v) (R.trie v) v c.search.new.seat.me.0 g.Q.Added.name c.args.table.now.shared.table_id.words rests
    (g.R.CellRule.cell v) c.search.result (subst IsWriter (sym c.requires.adds.writes) tt) c.requires.adds.absent c.search.ensures.ends c.search.ensures.inside in (
      (λ i. (ends.0 i, c.search.ensures.seat.1 i)),
      (λ end is. subst (EndsAbsent c.args.table.now.shared.table_id.words (sets_of (g.R.CellRule.cell v)) g.Q.Added.name) is ends.1),
    )

pub unreachable-requires : goal.unreachable-requires
unreachable-requires g c = (absent g (goal.at.unreachable-requires g c).After-search).1 _ c.in-Cell.is

pub returns-in-NoCell : goal.returns-in-NoCell
returns-in-NoCell g c =
    let found = absent g (goal.at.returns-in-NoCell g c).After-search in
    record { seat = (c.search.ensures.seat.0, found.0); missing = found.1 _ c.in-NoCell.is }

pub returns-in-NoNode : goal.returns-in-NoNode
returns-in-NoNode g c =
    let found = absent g (goal.at.returns-in-NoNode g c).After-search in
    record { seat = (c.search.ensures.seat.0, found.0); missing = found.1 _ c.in-NoNode.is }
