use Rattle.std.proofs.Common.{◌≡◌, ◌++◌, map, Some}
use Rattle.property_area.specs.Seats.{Seated}
use Rattle.prop_dispatch.specs.declared.seat.Seat.{Seat}
use Rattle.prop_dispatch.proofs.dispatching.parted.Given as goal

-- what is left decides
abbrev pub invariant-loop-seat : goal.invariant-loop-seat
invariant-loop-seat l = record {
  readers : map (λ (r : Seated). Some r) l.readers ++ map (λ (s : Seat). s.reader) l.seat-iterator.rest.items ≡ map (λ (s : Seat). s.reader) l.fn.seats.items;
  verdicts : l.verdicts ++ map (λ (s : Seat). s.verdicts) l.seat-iterator.rest.items ≡ map (λ (s : Seat). s.verdicts) l.fn.seats.items;
}
