-- The pairs so far are before the place.
use Rattle.std.proofs.Common.{◌≡◌, ◌+◌, drop}
use Rattle.machine_parts.proofs.SavedPairs.{place}
use Rattle.machine_parts.proofs.saved.place_for.Given as goal

abbrev pub invariant-loop-place : goal.invariant-loop-place
invariant-loop-place l = l.place + place l.name (drop l.place l.pairs) ≡ place l.name l.pairs
