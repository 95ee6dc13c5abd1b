use Rattle.property_trie.proofs.Grown.{levels_told}
use Rattle.property_area.proofs.index.Index.prepare.Goals as goal

pub returns-clause-levels : goal.returns-clause-levels
returns-clause-levels c = λ sets ends. levels_told sets c.args.self.now.levels c.prepare-2.new.self c.prepare-2.ensures.top c.prepare-2.ensures.below ends
