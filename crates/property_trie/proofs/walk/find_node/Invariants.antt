use Rattle.std.proofs.Common.{◌-◌, ◌<◌}
use Rattle.property_trie.specs.TrieSteps.{LeadsTo}
use Rattle.property_trie.proofs.Walking.{IsOnWalk}
use Rattle.property_trie.proofs.walk.find_node.Given as goal

abbrev pub ghosts-followed_link : goal.ghosts-followed_link
ghosts-followed_link g a = record { name = g.Q.Sought.name; rest = g.Q.Sought.rest; link = a.link; index = 0 }

abbrev pub invariant-siblings : goal.invariant-siblings
invariant-siblings g l =
    record {
      walk : IsOnWalk g.R.TrieRule.trie g.R.TrieRule.with_trie l.initial.seat l.seat;
      leads : LeadsTo (g.R.TrieRule.trie l.seat.me.0) g.Q.Sought.name l.link g.Q.Sought.rest;
      inside : l.link < l.table.shared.table_id.words;
    }

abbrev pub decreases-siblings : goal.decreases-siblings
decreases-siblings g l = l.table.shared.table_id.words - l.link
