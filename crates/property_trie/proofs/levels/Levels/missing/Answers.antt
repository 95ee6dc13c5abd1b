use Rattle.std.proofs.Common.{◌≡◌, ◌-◌, ◌∷◌, Some, take, drop, length, sym, ap, ◌∙◌}
use Rattle.std.specs.Option.{option_copied}
use Rattle.property_trie.specs.Parts.{parts_of, parts_behind}
use Rattle.property_trie.specs.Levels.{front_of, noted_at}
use Rattle.property_trie.proofs.Grown.{linked_at, tail_is}
use Rattle.property_trie.proofs.levels.Levels.missing.Goals as goal

pub returns-in-Some : goal.returns-in-Some
returns-in-Some c = λ sets ends.
    let name = c.args.name.now in
    let from = c.fronts.from in
    let level = c.in-Some.level.now in
    let tail = tail_is name from c.fronts.invariant.within in
    let rest = take (length name - from) (drop from name) in
    let n = c.part_len.result in
    let first : parts_of (drop from name) ≡ take n rest ∷ parts_behind n rest = ap parts_of (sym tail) ∙ c.part_len.ensures.first in
    let noted : noted_at c.args.self.now (front_of from name) ≡ Some level =
    ap (noted_at c.args.self.now) (sym c.front_of.ensures) ∙ sym c.level.ensures ∙ ap option_copied c.in-Some.is in
    linked_at sets c.args.self.now name from level (take n rest) (parts_behind n rest) c.in_ok-link.link ends c.fronts.invariant.within c.fronts.invariant.begins noted first c.in_ok-link.ensures
