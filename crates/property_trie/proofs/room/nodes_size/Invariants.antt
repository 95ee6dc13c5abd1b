use Rattle.std.proofs.Common.{◌≡◌, ◌+◌, ◌-◌, ◌*◌, ◌≤◌, length, drop}
use Rattle.property_trie.specs.Parts.{parts_of}
use Rattle.property_trie.specs.Tree.{node_sizes}
use Rattle.property_trie.proofs.room.nodes_size.Given as goal

abbrev pub invariant-parts : goal.invariant-parts
invariant-parts l = record {
  sum : l.size + node_sizes (parts_of (drop l.from l.text)) ≡ node_sizes (parts_of l.text);
  small : l.size ≤ 6 * l.from;
  within : l.from ≤ length l.text;
}

abbrev pub decreases-parts : goal.decreases-parts
decreases-parts l = length l.text + 1 - l.from
