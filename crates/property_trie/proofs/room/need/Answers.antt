use Rattle.std.proofs.Common.{refl}
use Rattle.init_machine.proofs.LegalNames.{legal_short}
use Rattle.property_trie.proofs.room.need.Goals as goal

pub need_as-requires-clause-name : goal.need_as-requires-clause-name
need_as-requires-clause-name g c = (refl, legal_short c.args.name.bytes.now c.args.name.legal)
