use Rattle.std.proofs.Common.{◌≡◌, ◌-◌, ℕ, List, ◌∷◌, Option, take, drop, length, sym, ap, ◌∙◌, subst}
use Rattle.std.specs.Option.{option_map}
use Rattle.property_trie.specs.Parts.{parts_of, parts_behind}
use Rattle.property_trie.specs.Siblings.{with_node}
use Rattle.property_trie.specs.Levels.{ChangesLevel, level_noted}
use Rattle.property_trie.proofs.Grown.{levels_extended, tail_is}
use Rattle.property_trie.proofs.levels.Levels.extend.Goals as goal

pub returns : goal.returns
returns c = λ sets value g ends.
    let name = c.args.name.now in
    let from = c.args.from in
    let old = c.args.self.now in
    let tail = tail_is name from c.requires.within in
    let rest = take (length name - from) (drop from name) in
    let n = c.part_len.result in
    let first : parts_of (drop from name) ≡ take n rest ∷ parts_behind n rest = ap parts_of (sym tail) ∙ c.part_len.ensures.first in
    let change = subst (λ (f : Option (List ℕ)). ChangesLevel f (option_map (with_node (take n rest) c.args.mark) (level_noted old f)) old c.add.new.self) c.front_of-front.ensures c.in_ok-add.ensures in
    levels_extended sets name value from c.args.mark g c.requires.begins (take n rest) (parts_behind n rest) first old c.add.new.self ends change
