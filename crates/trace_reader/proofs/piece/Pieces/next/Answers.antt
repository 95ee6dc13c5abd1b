use Rattle.std.proofs.Common.{◌∙◌, arith}
use Rattle.trace_reader.proofs.Counts.{taken_fewer}
use Rattle.trace_reader.proofs.Fronts.{front_left}
use Rattle.trace_reader.proofs.piece.Pieces.next.Goals as goal

pub returns-in-Some-clause-next : goal.returns-in-Some-clause-next
returns-in-Some-clause-next c =
    c.loop-self.invariant.left ∙ front_left c.loop-self.self.draft c.take_entry.new.self c.in-Some.entry c.loop-self.self.rest.now c.in-Some.ensures

pub returns-in-Some-clause-fewer : goal.returns-in-Some-clause-fewer
returns-in-Some-clause-fewer c =
    let fewer = taken_fewer c.loop-self.self.draft c.take_entry.new.self c.in-Some.entry c.in-Some.ensures in
    omega (arith, c.loop-self.invariant.most)
