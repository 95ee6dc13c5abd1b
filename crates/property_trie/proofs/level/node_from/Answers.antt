use Rattle.std.specs.Map.Iter.{deref_pair}
use Rattle.property_trie.proofs.Neighbours.{first_taken}
use Rattle.property_trie.proofs.level.node_from.Goals as goal

pub returns : goal.returns
returns c = first_taken deref_pair c.args.key.now c.args.places.now.entries c.range.result c.next.new.self c.next.result (c.range.ensures.between tt) c.next.ensures.steps
