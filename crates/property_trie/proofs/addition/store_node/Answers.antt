use Rattle.std.proofs.Common.{arith}
use Rattle.property_trie.specs.Additions.{new_node_word}
use Rattle.property_trie.proofs.Additional.{Parted, next_asks, stores_none, stores_more, length-first_words}
use Rattle.property_trie.proofs.addition.store_node.Given as given
use Rattle.property_trie.proofs.addition.store_node.Goals as goal

laws : (g : given.Over) → Parted g.R.CellRule.cell g.R.TrieRule.trie g.R.TrieRule.with_trie g.R.CellRule.words g.R.CellRule.Settled
laws g =
    let M = g.met.R.TrieRule in
    record { trie_with = M.trie_with; trie_same = M.trie_same; trie_twice = M.trie_twice; cell_beside = M.cell_beside; words_stay = M.words_stay; settled_beside = M.settled_beside }

pub loop-k-init : goal.loop-k-init
loop-k-init g c = stores_none (laws g) c.args.seat.now (new_node_word c.args.part.now) g.Q.Added.name g.Q.Added.linked c.requires.adds.1.under_way

pub fresh_word-requires : goal.fresh_word-requires
fresh_word-requires g c =
    let long = length-first_words (new_node_word c.args.part.now) c.loop-k.k in
    let asks = next_asks (laws g) c.loop-k.invariant _ c.args.place c.loop-k.k _ _ c.requires.table c.requires.place.0 long c.requires.adds in
    record { table = asks.0; place = (omega arith, asks.1); adds = asks.2 }

pub loop-k-preserved : goal.loop-k-preserved
loop-k-preserved g c =
    stores_more (laws g) (new_node_word c.args.part.now) c.loop-k.k c.loop-k.invariant c.fresh_word.new.seat c.word_of_node.result c.fresh_word.ensures.seat c.word_of_node.ensures c.fresh_word.ensures.view
