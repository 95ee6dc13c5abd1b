use Rattle.std.proofs.Common.{◌∙◌, ap, length}
use Rattle.std.specs.Option.{unwrap_or}
use Rattle.property_trie.proofs.PartsLeft.{first_part, first_within}
use Rattle.property_trie.proofs.walk.part_len.Goals as goal

pub returns-clause-first : goal.returns-clause-first
returns-clause-first c =
    first_part c.args.rest.now c.unwrap_or.result (c.unwrap_or.ensures ∙ ap (λ o. unwrap_or o (length c.args.rest.now)) c.first_dot.ensures)

pub returns-clause-inside : goal.returns-clause-inside
returns-clause-inside c =
    first_within c.args.rest.now c.unwrap_or.result (c.unwrap_or.ensures ∙ ap (λ o. unwrap_or o (length c.args.rest.now)) c.first_dot.ensures)
