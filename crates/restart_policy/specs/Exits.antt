-- The counted exits of critical services, by place.
use Rattle.std.specs.Prelude.{ℕ, Bool, nat_lt, List, length, slice_index_or}
use Rattle.init_machine.specs.Reaping.{counted}
use Rattle.init_machine.specs.State.{Exits, no_exits}
use Rattle.restart_policy.specs.declared.exits.Counted.{Counted}

abbrev pub counted_of : Counted → Exits
counted_of e = record { count = length e.exits; since = e.since }

-- the exits at a place, and one more (a place that has no service isn't asked for)
abbrev pub exits_behind : List Exits → ℕ → ℕ → Bool → ℕ → Exits
exits_behind exits at window booted now = counted booted now window (slice_index_or exits at no_exits)

-- the fifth counted exit is one too many
abbrev pub is_fatal : Exits → Bool
is_fatal exits = nat_lt 4 exits.count
