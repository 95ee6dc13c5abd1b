-- What the sets of an area mean as a store of properties.
use Rattle.std.specs.Prelude.{ℕ, List, [], ◌∷◌}
use Rattle.init_machine.specs.Sets.{Set}
use Rattle.init_machine.specs.Props.{Props, with_set}

-- the store once these sets are accepted too
abbrev pub props_from : Props → List Set → Props
props_from p [] = p
props_from p (s ∷ sets) = props_from (with_set p s.0 s.1) sets

-- the store of these sets, with the number of words as its capacity
abbrev pub props_of : ℕ → List Set → Props
props_of words sets = props_from (record { held = []; count = 0; capacity = words }) sets
