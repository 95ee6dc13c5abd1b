use Rattle.std.proofs.Common.{◌≡◌, drop, map}
use Rattle.init_trace.specs.Line.{lines_text}
use Rattle.init_trace.proofs.Adding.{Left}
use Rattle.init_trace.proofs.page.add_lines.Given as goal

-- the lines of the items so far were added
abbrev pub invariant-loop-item : goal.invariant-loop-item
invariant-loop-item g l = record {
  added : Left (g.K.Sink.taken l.initial.out) (g.K.Sink.taken l.out) l.initial.page.items l.page.items (lines_text (map g.L.Line.fields l.items)) (lines_text (map g.L.Line.fields (drop l.item-index l.items)));
  faults : g.K.Sink.fault_count l.out ≡ g.K.Sink.fault_count l.initial.out;
}
