use Rattle.std.specs.Map.Iter.{deref_pair}
use Rattle.property_trie.proofs.Neighbours.{last_taken}
use Rattle.property_trie.proofs.level.node_before.Goals as goal

pub returns : goal.returns
returns c = last_taken deref_pair c.args.key.now c.args.places.now.entries c.range.result c.next_back.new.self c.next_back.result (c.range.ensures.between tt) c.next_back.ensures.steps
