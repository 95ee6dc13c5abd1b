use Rattle.std.proofs.Common.{◌∙◌, ap}
use Rattle.serial_value.specs.Cell.{accepted}
use Rattle.property_trie.specs.Additions.{linking}
use Rattle.property_trie.proofs.Additional.{known_after}
use Rattle.property_trie.proofs.addition.add.Goals as goal

pub returns-clause-linked : goal.returns-clause-linked
returns-clause-linked g c =
    let R = g.R.TrieRule in
    let M = g.met.R.TrieRule in
    let v = c.args.seat.now.me.0 in
    let name = c.args.name.bytes.now in
    let place = c.add_as.result in
    let trie = ap (λ m. R.trie m.0) c.add_as.ensures.view
    ∙ M.trie_beside (R.with_trie v (linking (R.trie v) name place)) (accepted (g.R.CellRule.cell v) name c.args.value.bytes.now)
    ∙ M.trie_with v (linking (R.trie v) name place) in
    let known = known_after (R.trie c.add_as.new.seat.me.0) (R.trie v) name place trie c.requires.writer.2.live in
    M.known_linked c.add_as.new.seat.me.0 name place known.0 known.1
