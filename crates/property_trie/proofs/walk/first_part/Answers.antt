use Rattle.std.proofs.Common.{◌≡◌, ◌<◌, length, get_or, ◌∙◌, arith}
use Rattle.property_trie.proofs.FirstPart.{part_ends, word_ends}
use Rattle.property_trie.proofs.walk.first_part.Goals as goal
use Rattle.property_trie.proofs.walk.first_part.Goals.{then-j-rest-via-then-j-rest, then-j-rest-via-else-j-rest+then-rest-j-eq46}

pub returns-then-j-rest-clause-first : goal.returns-then-j-rest-clause-first
returns-then-j-rest-clause-first c =
    let rest = c.args.rest.now in
    let inv = c.loop-j.invariant in
    let stop : c.loop-j.j < length rest → get_or rest c.loop-j.j 0 ≡ 46 = elim c.then-j-rest.branch [
      | then-j-rest-via-then-j-rest w ↦ λ more. let end = w.if-j-rest.true in absurd (omega arith)
      | then-j-rest-via-else-j-rest+then-rest-j-eq46 w ↦ λ more. w.if-rest-j-eq46.true
    ] in
    part_ends rest c.loop-j.j inv.inside inv.no_dot stop

pub returns-then-j-rest-clause-word : goal.returns-then-j-rest-clause-word
returns-then-j-rest-clause-word c =
    let inv = c.loop-j.invariant in
    c.from_le_bytes.ensures ∙ word_ends c.args.rest.now c.loop-j.bytes c.loop-j.j inv.inside inv.done inv.left
