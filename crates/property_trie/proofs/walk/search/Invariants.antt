use Rattle.std.proofs.Common.{◌+◌, ◌-◌, ◌<◌, ◌≤◌, length, drop, []}
use Rattle.property_trie.specs.Parts.{parts_of}
use Rattle.property_trie.specs.TrieSteps.{LeadsTo}
use Rattle.property_trie.proofs.Walking.{IsOnWalk}
use Rattle.property_trie.proofs.walk.search.Given as goal

abbrev pub ghosts-find_node : goal.ghosts-find_node
ghosts-find_node g a = record { name = g.Q.Sought.name; rest = parts_of a.rest.now; link = 0; index = 0 }

abbrev pub ghosts-end_at_node : goal.ghosts-end_at_node
ghosts-end_at_node g a = record { name = g.Q.Sought.name; rest = []; link = 0; index = 0 }

abbrev pub invariant-parts : goal.invariant-parts
invariant-parts g l =
    record {
      walk : IsOnWalk g.R.TrieRule.trie g.R.TrieRule.with_trie l.initial.seat l.seat;
      leads : LeadsTo (g.R.TrieRule.trie l.seat.me.0) g.Q.Sought.name l.link (parts_of (drop l.from l.name));
      inside : l.link < l.table.shared.table_id.words;
      within : l.from ≤ length l.name;
    }

abbrev pub decreases-parts : goal.decreases-parts
decreases-parts g l = length l.name + 1 - l.from
