use Rattle.std.proofs.Common.{◌≡◌, ◌*◌, [], drop}
use Rattle.std.specs.Cmp.Lexicographic.{slice_cmp}
use Rattle.std.specs.Ordering.{nat_cmp}
use Rattle.property_trie.specs.Parts.{compare_parts}
use Rattle.property_trie.specs.TrieSteps.{part_at}
use Rattle.property_trie.proofs.compare.compare_with_node.Given as goal

abbrev pub ghosts-node_word : goal.ghosts-node_word
ghosts-node_word g a = record { name = []; rest = []; link = 0; index = a.k }

abbrev pub invariant-loop-k : goal.invariant-loop-k
invariant-loop-k g l =
    let own = part_at (g.R.TrieRule.trie l.fn.seat.me.0).trail in
    record {
      table : l.seat.table_id ≡ l.fn.seat.table_id;
      id : l.seat.id ≡ l.fn.seat.id;
      same : l.seat.me ≡ l.fn.seat.me;
      left : compare_parts l.part own ≡ slice_cmp nat_cmp (drop (8 * l.k) l.part) (drop (8 * l.k) own);
    }
