-- Why there is no room for a set, by the words that its name needs.
use Rattle.std.specs.Prelude.{ℕ, ◌+◌, ◌==◌, nat_lt, Option, Some, None, if◌then◌else◌}
use Rattle.init_machine.specs.Props.{last_number}
use Rattle.init_machine.specs.declared.store.Full.{Full}
use Rattle.init_machine.specs.declared.store.Full.TheVariants.{Words, Numbers}

-- the numbers of sets are used up
abbrev pub numbers_full : ℕ → Option Full
numbers_full last = if last == last_number then Some (Numbers last) else None

-- a name that is there needs no words, and an absent one may need more than the capacity has
abbrev pub full_with : Option ℕ → ℕ → ℕ → ℕ → Option Full
full_with None used capacity last = numbers_full last
full_with (Some need) used capacity last = if nat_lt capacity (used + need) then Some (Words used need) else numbers_full last
