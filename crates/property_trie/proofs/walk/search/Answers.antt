use Rattle.std.proofs.Common.{◌≡◌, ◌+◌, ◌-◌, ◌∷◌, ◌∙◌, ap, take, drop, length, arith}
use Rattle.std.proofs.lemmas.List.{length-drop, take_rest}
use Rattle.property_trie.specs.Parts.{parts_of, parts_behind}
use Rattle.property_trie.specs.TrieSteps.{first_of}
use Rattle.property_trie.proofs.Names.{first_part}
use Rattle.property_trie.proofs.PartsLeft.{more_parts}
use Rattle.property_trie.proofs.Walking.{put_standing, walked_to, trie_standing, child_leads}
use Rattle.property_trie.proofs.walk.search.Goals as goal

pub parts-preserved : goal.parts-preserved
parts-preserved g c =
    let R = g.R.TrieRule in
    let L = g.met.R.TrieRule in
    let C = g.R.CellRule in
    let v = c.args.seat.now.me.0 in
    let m = c.parts.seat.me.0 in
    let w = c.find_node.new.seat.me.0 in
    let inv = c.parts.invariant in
    let name = c.args.name.now in
    let rest = take (length name - c.parts.from) (drop c.parts.from name) in
    let whole : rest ≡ drop c.parts.from name = take_rest name c.parts.from in
    let n = c.first_part-len.result.0 in
    let ends = c.in-Ok.ensures.ends in
    let behind = drop (c.parts.from + n + 1) name in
    let first = first_part behind in
    let is = ends.1 ∙ put_standing C.cell R.trie R.with_trie C.noted L.trie_with L.trie_twice L.cell_beside v m inv.walk.walked g.Q.Sought.name (parts_of rest) c.in-Ok.place (first_of (parts_of rest)) in
    let stood = trie_standing C.cell R.trie R.with_trie C.noted L.trie_with L.trie_twice L.cell_beside v w g.Q.Sought.name (parts_of rest) c.in-Ok.place (first_of (parts_of rest)) is in
    record {
      walk = record {
        table = c.in-Ok.ensures.seat.0.0 ∙ inv.walk.table;
        id = c.in-Ok.ensures.seat.0.1 ∙ inv.walk.id;
        rights = c.in-Ok.ensures.seat.1 ∙ inv.walk.rights;
        walked = walked_to C.cell R.trie R.with_trie C.noted L.trie_with L.trie_twice L.cell_beside v w g.Q.Sought.name (parts_of rest) c.in-Ok.place (first_of (parts_of rest)) is;
      };
      leads = child_leads (R.trie w) (R.trie v) g.Q.Sought.name (parts_of rest) (parts_of behind) c.in-Ok.place (take n rest) first.0 first.1 stood
          c.requires.rests.live c.requires.rests.no_adding (c.first_part-len.ensures.first ∙ ap (λ r. take n rest ∷ r) (ap (parts_behind n) whole ∙ more_parts name c.parts.from n inv.within c.if-end-name.false)) first.2;
      inside =
          let k = ends.0.0 in
          let same : g.R.CellRule.words m ≡ g.R.CellRule.words v = ap g.R.CellRule.words inv.walk.walked.is ∙ L.words_stay v _ in
          let all = c.requires.table.1.0 in
          omega arith;
      within =
          let short = c.first_part-len.ensures.inside in
          let same = ap length whole in
          let long = length-drop c.parts.from name in
          let more = c.if-end-name.false in
          omega arith;
    }
