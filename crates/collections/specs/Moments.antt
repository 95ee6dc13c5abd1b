-- Pairs of a time and a number.
use Rattle.std.specs.Prelude.{ℕ, Bool, ◌==◌, ◌&&◌, nat_le, List}
use Rattle.std.specs.List.{list_any}
use Rattle.std.specs.Ordering.{nat_cmp, ordering_then}
use Rattle.std.specs.declared.cmp.Ordering.{Ordering}

-- whether a number stands at a time
abbrev pub is_held : ℕ → ℕ → List (ℕ × ℕ) → Bool
is_held time number moments = list_any (λ moment. time == moment.0 && number == moment.1) moments

-- whether a number stands at a time up to this one
abbrev pub is_due : ℕ → ℕ → List (ℕ × ℕ) → Bool
is_due now number moments = list_any (λ moment. nat_le moment.0 now && number == moment.1) moments

-- moments go by their times, and then by their numbers
abbrev pub moment_cmp : ℕ × ℕ → ℕ × ℕ → Ordering
moment_cmp a b = ordering_then (nat_cmp a.0 b.0) (nat_cmp a.1 b.1)
