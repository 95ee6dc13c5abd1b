use Rattle.std.proofs.Common.{◌≡◌, true, false, sym, ap, ◌∙◌}
use Rattle.std.specs.List.{list_any}
use Rattle.std.specs.Str.{bytes_eq}
use Rattle.list_store.proofs.NewNodes.{words_of_known, words_of_new}
use Rattle.list_store.proofs.nodes.words_if_new.Goals as goal

pub returns-then-contains-clause-words : goal.returns-then-contains-clause-words
returns-then-contains-clause-words c =
    let there : list_any (bytes_eq c.args.prefix.now) c.args.known.now.keys ≡ true =
    ap (λ n. list_any (bytes_eq n) c.args.known.now.keys) (sym c.new.ensures) ∙ sym c.contains.ensures ∙ c.if-contains.true in
    words_of_known c.args.known.now.keys c.args.prefix.now there

pub returns-else-contains-clause-words : goal.returns-else-contains-clause-words
returns-else-contains-clause-words c =
    let absent : list_any (bytes_eq c.args.prefix.now) c.args.known.now.keys ≡ false =
    ap (λ n. list_any (bytes_eq n) c.args.known.now.keys) (sym c.new.ensures) ∙ sym c.contains.ensures ∙ c.if-contains.false in
    words_of_new c.args.known.now.keys c.args.prefix.now _ _ absent c.requires.part c.words_of_node.ensures.words
