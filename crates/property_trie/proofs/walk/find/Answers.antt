use Rattle.std.proofs.Common.{refl}
use Rattle.init_machine.proofs.LegalNames.{legal_short}
use Rattle.property_trie.proofs.walk.find.Goals as goal

pub find_as-requires-clause-name : goal.find_as-requires-clause-name
find_as-requires-clause-name g c = (refl, legal_short c.args.name.bytes.now c.args.name.legal)
