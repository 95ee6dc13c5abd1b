use Rattle.std.proofs.Common.{◌≡◌, ℕ, ◌≤◌, ◌^◌, arith, subst, sym, refl, ◌∙◌, ap, length}
use Rattle.serial_value.specs.Words.{text_word}
use Rattle.property_trie.specs.TrieSteps.{IsShortText, part_at}
use Rattle.property_trie.proofs.WordOrder.{words_left, decided, passed, word_inside}
use Rattle.property_trie.proofs.Orders.{by_bytes}
use Rattle.property_trie.proofs.compare.compare_with_node.Given as given
use Rattle.property_trie.proofs.compare.compare_with_node.Goals.{After-div_ceil-k-end}
use Rattle.property_trie.proofs.compare.compare_with_node.Goals as goal

same_length : (g : given.Over) (c : After-div_ceil-k-end g) → length c.args.part.now ≡ length (part_at (g.R.TrieRule.trie c.args.seat.now.me.0).trail)
same_length g c = omega (arith, c.node_length-length.ensures.told)

pub loop-k-init : goal.loop-k-init
loop-k-init g c =
    let own = part_at (g.R.TrieRule.trie c.args.seat.now.me.0).trail in
    record {
      table = c.node_length-length.ensures.seat.0.0;
      id = c.node_length-length.ensures.seat.0.1;
      same = c.node_length-length.ensures.seat.1;
      left = by_bytes c.args.part.now own (same_length g c);
    }

pub node_word-own-requires-clause-place : goal.node_word-own-requires-clause-place
node_word-own-requires-clause-place g c =
    let own = part_at (g.R.TrieRule.trie c.args.seat.now.me.0).trail in
    let inside = word_inside c.args.place c.loop-k.k c.div_ceil-k-end.result (length c.args.part.now) (length own) c.args.table.now.shared.table_id.words
    c.loop-k-test.true c.div_ceil-k-end.ensures (same_length g (goal.at.node_word-own-requires-clause-place g c).After-div_ceil-k-end) c.requires.room (subst (λ (n : ℕ). n ≤ 2 ^ 32) c.requires.table.1.0 c.requires.table.1.1) in
    (inside.0, inside.1, refl)

pub returns-then-ne-clause-order : goal.returns-then-ne-clause-order
returns-then-ne-clause-order g c =
    let short : IsShortText c.args.part.now = record { short = c.requires.short.0; bytes = λ i. let f = c.type_inv.part i in omega arith } in
    let own = part_at (g.R.TrieRule.trie c.args.seat.now.me.0).trail in
    sym (c.loop-k.invariant.left
    ∙ words_left c.args.part.now own c.loop-k.k c.word_at.result c.node_word-own.result c.compare_words-order.result (same_length g (goal.at.returns-then-ne-clause-order g c).After-div_ceil-k-end) short c.requires.short.1
    c.word_at.ensures (c.node_word-own.ensures.told ∙ ap (λ m. text_word (part_at (g.R.TrieRule.trie m.0).trail) c.loop-k.k) c.loop-k.invariant.same) c.compare_words-order.ensures
    ∙ decided c.compare_words-order.result _ (sym c.ne.ensures ∙ c.if-ne.true))

pub loop-k-preserved : goal.loop-k-preserved
loop-k-preserved g c =
    let short : IsShortText c.args.part.now = record { short = c.requires.short.0; bytes = λ i. let f = c.type_inv.part i in omega arith } in
    let own = part_at (g.R.TrieRule.trie c.args.seat.now.me.0).trail in
    let inv = c.loop-k.invariant in
    record {
      table = c.node_word-own.ensures.seat.0.0 ∙ inv.table;
      id = c.node_word-own.ensures.seat.0.1 ∙ inv.id;
      same = c.node_word-own.ensures.seat.1 ∙ inv.same;
      left = inv.left
          ∙ words_left c.args.part.now own c.loop-k.k c.word_at.result c.node_word-own.result c.compare_words-order.result (same_length g (goal.at.loop-k-preserved g c).After-div_ceil-k-end) short c.requires.short.1
          c.word_at.ensures (c.node_word-own.ensures.told ∙ ap (λ m. text_word (part_at (g.R.TrieRule.trie m.0).trail) c.loop-k.k) inv.same) c.compare_words-order.ensures
          ∙ passed c.compare_words-order.result _ (sym c.ne.ensures ∙ c.if-ne.false);
    }
