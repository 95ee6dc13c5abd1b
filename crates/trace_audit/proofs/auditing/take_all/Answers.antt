use Rattle.std.proofs.Common.{arith}
use Rattle.trace_reader.specs.Pieces.{left_of, most_entries}
use Rattle.trace_audit.proofs.Texts.{entry_fewer, entry_next, text_next}
use Rattle.trace_audit.proofs.auditing.take_all.Goals as goal

pub loop-entry-preserved : goal.loop-entry-preserved
loop-entry-preserved c =
    let amid = c.loop-entry.invariant in
    text_next c.args.script.now c.args.audit.now c.loop-entry.audit c.take.new.self (left_of c.args.pieces.now) (left_of c.loop-entry.pieces) (left_of c.next.new.self)
    (most_entries c.args.pieces.now) (most_entries c.loop-entry.pieces) (most_entries c.next.new.self) c.in-Entry.entry
    (entry_next (left_of c.loop-entry.pieces) (left_of c.next.new.self) c.in_ok-entry.field-0 c.in-Entry.entry c.in-Entry.is c.in_ok-entry.ensures.next)
    (omega (arith, entry_fewer (most_entries c.loop-entry.pieces) (most_entries c.next.new.self) c.in_ok-entry.field-0 c.in-Entry.entry c.in-Entry.is c.in_ok-entry.ensures.fewer)) amid (λ o taken. c.in_ok-take-in-Entry.ensures.taken o amid.history taken)
