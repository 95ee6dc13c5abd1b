use Rattle.std.proofs.Common.{◌≡◌, ◌-◌}
use Rattle.prop_wire.specs.Limit.{max_stream}
use Rattle.prop_wire.specs.Serving.{place_of}
use Rattle.prop_wire.specs.internal.Course.{IsBack, who_in}
use Rattle.prop_wire.proofs.Pasts.{Past}
use Rattle.prop_wire.proofs.serving.serve_pieces.Given as goal

-- the messages that are whole by now are answered
abbrev pub invariant-loop-desk : goal.invariant-loop-desk
invariant-loop-desk g l = record {
  past : Past (who_in l.initial.reader) (g.S.Source.left l.initial.from) (g.S.Source.left l.from) l.stream
      (place_of (g.D.WireDesk.view l.initial.desk) (g.K.Sink.taken l.initial.to)) (place_of (g.D.WireDesk.view l.desk) (g.K.Sink.taken l.to));
  back : IsBack l.initial.reader l.reader;
  source : g.S.Source.fault_count l.from ≡ g.S.Source.fault_count l.initial.from;
  sink : g.K.Sink.fault_count l.to ≡ g.K.Sink.fault_count l.initial.to;
}

abbrev pub decreases-loop-desk : goal.decreases-loop-desk
decreases-loop-desk g l = max_stream - l.stream.read
