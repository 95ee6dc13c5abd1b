use Rattle.std.proofs.Common.{◌≡◌, ◌≢◌, ◌+◌, ◌-◌, ◌≤◌, ℕ, suc, List, [], ◌∷◌, ◌++◌, take, drop, length, sym, ap, ◌∙◌, subst, arith}
use Rattle.std.proofs.lemmas.List.{length-drop, length-take-le}
use Rattle.property_trie.specs.TrieSteps.{tree_of}
use Rattle.property_trie.specs.Parts.{parts_of, parts_behind}
use Rattle.property_trie.proofs.Grown.{NewFrom, levels_last, levels_next, new_from, next_new, put_changes, tail_is}
use Rattle.property_trie.proofs.levels.Levels.add_new.Goals as goal

pub parts-init : goal.parts-init
parts-init c = record {
  within = c.requires.within;
  begins = c.requires.begins;
  low = omega arith;
  ends = λ sets value g ends. (ends, new_from sets c.args.name.now value c.args.first c.args.mark g c.requires.begins);
}

pub returns-then-end-name : goal.returns-then-end-name
returns-then-end-name c = λ sets value g ends.
    let name = c.args.name.now in
    let from = c.parts.from in
    let n = c.part_len-len.result in
    let inv = c.parts.invariant in
    let tail = tail_is name from inv.within in
    let rest = take (length name - from) (drop from name) in
    let here = inv.ends sets value g ends in
    levels_last (sets ++ (name, value) ∷ []) name rest from n c.parts.place tail inv.begins inv.within c.part_len-len.ensures.inside c.part_len-len.ensures.first here.1
    c.if-end-name.true c.parts.self c.put.new.self c.empty.result c.empty.ensures
    (put_changes (take (from + n) name) c.empty.result c.parts.self c.put.new.self c.in_ok-put.ensures.top c.in_ok-put.ensures.below) here.0

pub parts-preserved : goal.parts-preserved
parts-preserved c =
    let name = c.args.name.now in
    let from = c.parts.from in
    let n = c.part_len-len.result in
    let inv = c.parts.invariant in
    let tail = tail_is name from inv.within in
    let rest = take (length name - from) (drop from name) in
    let end : ℕ = from + n in
    let one_on : end + 1 ≡ suc end = omega arith in
    let inside = c.part_len-len.ensures.inside in
    let long : length rest ≡ length name - from = ap (λ (l : List ℕ). length l) tail ∙ length-drop from name in
    let short : length (take n rest) ≡ n = length-take-le n rest inside in
    let more : end ≢ length name = λ e. let off = c.if-end-name.false in absurd (off e) in
    let on : end + 1 ≤ length name = omega (arith, inside, long, inv.within, more) in
    let next = take (length name - (end + 1)) (drop (end + 1) name) in
    let m = c.part_len.result in
    let then : parts_of (drop (suc end) name) ≡ take m next ∷ parts_behind m next =
    ap (λ (k : ℕ). parts_of (drop k name)) (sym one_on) ∙ ap parts_of (sym (tail_is name (end + 1) on)) ∙ c.part_len.ensures.first in
    let size = c.node_size.ensures in
    let level = c.in_ok-level.level in
    let low = inv.low in
    record {
      within = on;
      begins = c.begins_part.ensures c.if-not-begins_part.false;
      low = omega (arith, low, size, short);
      ends = λ sets value g ends.
          let here = inv.ends sets value g ends in
          let new = next_new (sets ++ (name, value) ∷ []) name rest from n c.parts.place tail inv.begins inv.within inside c.part_len-len.ensures.first here.1 more (take m next) (parts_behind m next) then
          (c.parts.place + c.node_size.result) (ap (λ (k : ℕ). c.parts.place + k) size) in (
            levels_next (sets ++ (name, value) ∷ []) name rest from n c.parts.place tail inv.begins inv.within inside c.part_len-len.ensures.first here.1 more (take m next) (parts_behind m next) then
                c.parts.self c.put-in-parts.new.self level (c.in_ok-level.ensures ∙ ap (λ (k : ℕ). record { link = c.parts.place + 3; nodes = (take m next, c.parts.place + k) ∷ [] }) size)
                (put_changes (take (from + n) name) level c.parts.self c.put-in-parts.new.self c.in_ok-put-2.ensures.top c.in_ok-put-2.ensures.below) here.0,
            subst (λ (k : ℕ). NewFrom (tree_of (sets ++ (name, value) ∷ [])) name k (c.parts.place + c.node_size.result)) (sym one_on) new,
          );
    }
