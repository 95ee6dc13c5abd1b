use Rattle.std.proofs.Common.{◌≡◌, ◌+◌, drop}
use Rattle.init_trace.specs.Line.{lines_text}
use Rattle.init_trace.specs.Report.{clients_lines}
use Rattle.init_trace.proofs.Adding.{Left}
use Rattle.init_trace.proofs.printer.add_parts.Given as goal

-- the lines of the parts so far were added
abbrev pub invariant-loop-index : goal.invariant-loop-index
invariant-loop-index g l = record {
  added : Left (g.K.Sink.taken l.initial.out) (g.K.Sink.taken l.out) l.initial.page.items l.page.items (lines_text (clients_lines 1 l.parts)) (lines_text (clients_lines (l.index + 1) (drop l.index l.parts)));
  faults : g.K.Sink.fault_count l.out ≡ g.K.Sink.fault_count l.initial.out;
}
