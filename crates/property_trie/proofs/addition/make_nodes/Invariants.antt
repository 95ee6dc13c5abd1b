use Rattle.std.proofs.Common.{◌≡◌, ◌+◌, ◌-◌, ◌≤◌, [], length, drop}
use Rattle.serial_value.specs.Cell.{sets_of}
use Rattle.property_trie.specs.Parts.{parts_of}
use Rattle.property_trie.specs.Additions.{linked_in}
use Rattle.property_trie.proofs.Additional.{MadeSoFar}
use Rattle.property_trie.proofs.addition.make_nodes.Given as goal

abbrev pub ghosts-store_node : goal.ghosts-store_node
ghosts-store_node g a =
    record { name = g.Q.Added.name; value = []; linked = linked_in (g.R.TrieRule.trie a.seat.now.me.0).adding; fresh = [] }

abbrev pub ghosts-interior_link : goal.ghosts-interior_link
ghosts-interior_link g a =
    record { name = g.Q.Added.name; value = []; linked = linked_in (g.R.TrieRule.trie a.seat.now.me.0).adding; fresh = [] }

abbrev pub invariant-parts : goal.invariant-parts
invariant-parts g l =
    let m = l.initial.seat.me in
    record {
      table : l.seat.table_id ≡ l.initial.seat.table_id;
      id : l.seat.id ≡ l.initial.seat.id;
      made : MadeSoFar g.R.TrieRule.trie g.R.TrieRule.with_trie m l.seat.me (sets_of (g.R.CellRule.cell m.0)) g.Q.Added.name l.table.shared.table_id.words l.link l.place
          (parts_of (drop l.from l.name));
      within : l.from ≤ length l.name;
    }

abbrev pub decreases-parts : goal.decreases-parts
decreases-parts g l = length l.name + 1 - l.from
