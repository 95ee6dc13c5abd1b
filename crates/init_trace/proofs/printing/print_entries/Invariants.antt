use Rattle.std.proofs.Common.{◌≡◌, drop}
use Rattle.init_trace.specs.Report.{EntriesText}
use Rattle.init_trace.proofs.Adding.{Left}
use Rattle.init_trace.proofs.printing.print_entries.Given as goal

-- the entries so far were added
abbrev pub invariant-loop-entry : goal.invariant-loop-entry
invariant-loop-entry g l = record {
  added : Left (g.K.Sink.taken l.initial.out) (g.K.Sink.taken l.out) l.initial.printer.bytes l.printer.bytes (EntriesText l.entries) (EntriesText (drop l.entry-index l.entries));
  faults : g.K.Sink.fault_count l.out ≡ g.K.Sink.fault_count l.initial.out;
}
