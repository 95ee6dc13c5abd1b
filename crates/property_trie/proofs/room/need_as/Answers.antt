use Rattle.std.proofs.Common.{◌∙◌, ap}
use Rattle.property_trie.specs.TrieSteps.{words_missing}
use Rattle.property_trie.proofs.Needing.{told_needed}
use Rattle.property_trie.proofs.Walking.{rested_same}
use Rattle.property_trie.proofs.room.need_as.Goals as goal

pub returns-clause-need : goal.returns-clause-need
returns-clause-need g c =
    let R = g.R.TrieRule in
    let v = c.args.seat.now.me.0 in
    let rests = ap (R.with_trie v) (rested_same (R.trie v) c.requires.writer.1.no_trail) ∙ g.met.R.TrieRule.trie_same v in
    let told = told_needed R.with_trie g.R.CellRule.noted (g.R.CellRule.words v) (R.trie v) v c.search-end.new.seat.me.0 g.Q.Sought.name c.args.len (g.R.CellRule.cell v) c.search-end.result c.requires.writer.0 rests c.search-end.ensures.ends in
    c.words_at.ensures ∙ ap (λ n. words_missing n c.args.len c.search-end.result) c.requires.name.0 ∙ told.0

pub returns-clause-view : goal.returns-clause-view
returns-clause-view g c =
    let R = g.R.TrieRule in
    let v = c.args.seat.now.me.0 in
    let rests = ap (R.with_trie v) (rested_same (R.trie v) c.requires.writer.1.no_trail) ∙ g.met.R.TrieRule.trie_same v in
    (told_needed R.with_trie g.R.CellRule.noted (g.R.CellRule.words v) (R.trie v) v c.search-end.new.seat.me.0 g.Q.Sought.name c.args.len (g.R.CellRule.cell v) c.search-end.result c.requires.writer.0 rests c.search-end.ensures.ends).1
