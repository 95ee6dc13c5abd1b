use Rattle.std.proofs.Common.{List, ◌++◌, subst, refl, false, true}
use Rattle.std.proofs.lemmas.Result.{err_from_is_err_and}
use Rattle.wire_format.specs.declared.message.Message.{Message}
use Rattle.wire_format.specs.declared.message.Rest.TheVariants as rest
use Rattle.prop_wire.specs.Serving.{place_of, Answers}
use Rattle.prop_wire.specs.internal.Course.{who_in}
use Rattle.prop_wire.specs.internal.Streams.{tail_of}
use Rattle.prop_wire.specs.declared.refusal.WireRefusal.TheVariants as refusal
use Rattle.prop_wire.proofs.Batches.{counted_in, cut_comes, piece_answered, piece_cut, room_in}
use Rattle.prop_wire.proofs.Ends.{serves_none}
use Rattle.prop_wire.proofs.serving.answer_piece.Goals as goal

pub returns-in_err-batch-clause-answers : goal.returns-in_err-batch-clause-answers
returns-in_err-batch-clause-answers g c =
    let p = err_from_is_err_and c.from_residual.result c.from_residual.ensures.1 in
    let s = c.args.stream.now in
    let a = place_of (g.D.WireDesk.view c.args.desk.now) (g.K.Sink.taken c.args.to.now) in
    rw (p.1, p.2) (tt, serves_none (who_in c.args.reader.now) s.whole (tail_of s.feeder ++ s.piece) a refusal.NoMemory (λ _ _ _. tt) refl)

pub returns-in_err-answer_all-clause-answers : goal.returns-in_err-answer_all-clause-answers
returns-in_err-answer_all-clause-answers g c =
    let p = err_from_is_err_and c.from_residual-in_err-answer_all.result c.from_residual-in_err-answer_all.ensures.1 in
    let s = c.args.stream.now in
    let who = who_in c.args.reader.now in
    let a = place_of (g.D.WireDesk.view c.args.desk.now) (g.K.Sink.taken c.args.to.now) in
    let b = place_of (g.D.WireDesk.view c.answer_all.new.desk) (g.K.Sink.taken c.answer_all.new.to) in
    rw (p.1, p.2) (
      cut_comes c.in_err-answer_all.field-0.0,
      piece_cut who s.whole (tail_of s.feeder ++ s.piece) c.in_ok-batch.batch.messages c.in_ok-batch.batch.bad c.feed.new.self.feeder a b c.in_err-answer_all.field-0.0
          c.in_ok-batch.ensures.reads (subst (λ (ms : List Message). Answers false who ms rest.End a b) c.items.ensures c.in_err-answer_all.ensures.answers),
    )

pub count_in-requires-clause-fits : goal.count_in-requires-clause-fits
count_in-requires-clause-fits g c =
    room_in c.args.stream.now c.feed.new.self c.items-2.result.now c.in_ok-batch.batch.messages c.in_ok-batch.batch.bad c.feed.new.self.feeder c.requires.read c.requires.within
    c.feed.ensures.rest c.items-2.ensures c.in_ok-batch.ensures.reads

pub returns-clause-answers : goal.returns-clause-answers
returns-clause-answers g c =
    let s = c.args.stream.now in
    let who = who_in c.args.reader.now in
    let a = place_of (g.D.WireDesk.view c.args.desk.now) (g.K.Sink.taken c.args.to.now) in
    let b = place_of (g.D.WireDesk.view c.answer_all.new.desk) (g.K.Sink.taken c.answer_all.new.to) in
    piece_answered c.refuse.result c.in_ok-batch.batch.bad who s c.count_in.new.self c.in_ok-batch.batch.messages c.feed.new.self.feeder a b (g.K.Sink.taken c.refuse.new.to)
    c.requires.few c.requires.read (counted_in s c.feed.new.self c.count_in.new.self c.items-2.result.now c.in_ok-batch.batch.messages c.feed.ensures.rest c.count_in.ensures c.items-2.ensures)
    c.in_ok-batch.ensures.reads (subst (λ (ms : List Message). Answers true who ms rest.End a b) c.items.ensures c.in_ok-answer_all.ensures.answers) c.refuse.ensures.refuses
