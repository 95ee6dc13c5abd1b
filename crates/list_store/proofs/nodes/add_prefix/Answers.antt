use Rattle.std.proofs.Common.{◌≡◌, true, false, sym, ap, ◌∙◌}
use Rattle.std.specs.List.{list_any}
use Rattle.std.specs.Str.{bytes_eq}
use Rattle.list_store.proofs.NewNodes.{not_false, not_true, words_of_known, words_of_new}
use Rattle.list_store.proofs.nodes.add_prefix.Goals as goal

pub returns-in-Ok-true-clause-words : goal.returns-in-Ok-true-clause-words
returns-in-Ok-true-clause-words c =
    let absent : list_any (bytes_eq c.args.prefix.now) c.args.known.now.keys ≡ false =
    ap (λ n. list_any (bytes_eq n) c.args.known.now.keys) (sym c.new.ensures) ∙ not_true _ (sym c.in-Ok-true.field-0-test ∙ c.in-Ok-true.ensures.added) in
    words_of_new c.args.known.now.keys c.args.prefix.now _ _ absent c.requires.part c.words_of_node.ensures.words

pub returns-in-Ok-false-clause-words : goal.returns-in-Ok-false-clause-words
returns-in-Ok-false-clause-words c =
    let there : list_any (bytes_eq c.args.prefix.now) c.args.known.now.keys ≡ true =
    ap (λ n. list_any (bytes_eq n) c.args.known.now.keys) (sym c.new.ensures) ∙ not_false _ (sym c.in-Ok-false.field-0-test ∙ c.in-Ok-false.ensures.added) in
    words_of_known c.args.known.now.keys c.args.prefix.now there
