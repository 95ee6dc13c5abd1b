-- Times by place.
use Rattle.std.specs.Prelude.{◌≡◌, ℕ, Bool, false, ◌==◌, nat_le, List, Option, Some, None, slice_index_or, if◌then◌else◌}
use Rattle.std.specs.List.{enumerate_from, filter_map}
use Rattle.std.specs.Option.{option_map}
use Rattle.collections.specs.Moments.{is_held}
use Rattle.init_base.specs.declared.units.Millis.{Millis}

abbrev pub number_of : Option Millis → Option ℕ
number_of time = option_map (λ time. time.0) time

-- whether this is the time that is kept
abbrev pub is_kept : ℕ → Option ℕ → Bool
is_kept time None = false
is_kept time (Some kept) = time == kept

-- moments in order hold exactly the times that are kept
abbrev pub HoldsKept : List (Option ℕ) → List (ℕ × ℕ) → Type 0
HoldsKept times moments = (time at : ℕ) → is_held time at moments ≡ is_kept time (slice_index_or times at None)

-- whether a time has come
abbrev pub has_come : ℕ → Option ℕ → Bool
has_come now None = false
has_come now (Some time) = nat_le time now

-- a place whose time has come
abbrev pub place_if_come : ℕ → ℕ × Option ℕ → Option ℕ
place_if_come now placed = if has_come now placed.1 then Some placed.0 else None

-- the places whose time has come, ascending
abbrev pub places_due : ℕ → List (Option ℕ) → List ℕ
places_due now times = filter_map (place_if_come now) (enumerate_from 0 times)
