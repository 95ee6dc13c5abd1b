use Rattle.std.proofs.Common.{length}
use Rattle.property_service.proofs.GivenBack.{Giving}
use Rattle.property_service.proofs.leaving.take_in_all.Given as goal

abbrev pub invariant-loop-reader : goal.invariant-loop-reader
invariant-loop-reader l = Giving l.fn.writer l.fn.seats l.fn.readers l.readers l.writer l.seats

abbrev pub decreases-loop-reader : goal.decreases-loop-reader
decreases-loop-reader l = length l.readers
