use Rattle.std.proofs.Common.{◌≡◌, true, false, take}
use Rattle.wire_format.specs.declared.message.Rest.TheVariants as rest
use Rattle.prop_wire.specs.Serving.{Answers, place_of}
use Rattle.prop_wire.specs.internal.Course.{IsBack, who_in}
use Rattle.prop_wire.proofs.answering.answer_all.Given as goal

-- the messages so far are answered
abbrev pub invariant-loop-message : goal.invariant-loop-message
invariant-loop-message g l = record {
  answers : Answers true (who_in l.initial.reader) (take l.message-index l.messages) rest.End
      (place_of (g.D.WireDesk.view l.initial.desk) (g.K.Sink.taken l.initial.to)) (place_of (g.D.WireDesk.view l.desk) (g.K.Sink.taken l.to));
  ready : (g.D.WireDesk.view l.desk).spent ≡ false;
  back : IsBack l.initial.reader l.reader;
  faults : g.K.Sink.fault_count l.to ≡ g.K.Sink.fault_count l.initial.to;
}
