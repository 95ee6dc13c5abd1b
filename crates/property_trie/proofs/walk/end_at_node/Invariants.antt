use Rattle.std.proofs.Common.{[]}
use Rattle.property_trie.proofs.walk.end_at_node.Given as goal

abbrev pub ghosts-cell_link : goal.ghosts-cell_link
ghosts-cell_link g a = record { name = g.Q.Sought.name; rest = []; link = a.link; index = 0 }
