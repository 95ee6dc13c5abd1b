-- A piece of a stream that is answered.
use Rattle.std.proofs.Common.{◌≡◌, ℕ, ◌+◌, ◌≤◌, Bool, true, false, List, [], ◌∷◌, ◌++◌, length, Option, Some, None, Result, Ok, Err, refl, sym, ap, subst, ◌∙◌, arith, append-nil, length-append}
use Rattle.std.proofs.lemmas.Bool.{cond_both}
use Rattle.std.proofs.lemmas.List.Sums.{sum_by-cons}
use Rattle.std.specs.Io.KnownBytes.{append_known}
use Rattle.init_base.specs.declared.outside.refusal.IoRefusal.{IoRefusal}
use Rattle.init_base.specs.declared.outside.refusal.IoRefusal.TheVariants as io
use Rattle.init_trace.specs.Written.{TakesFront}
use Rattle.wire_format.specs.Feeding.{Feeding}
use Rattle.wire_format.specs.Spelling.{message_len}
use Rattle.wire_format.specs.Wire.{unfinished, Wire}
use Rattle.wire_format.specs.declared.message.Message.{Message}
use Rattle.wire_format.specs.declared.message.Rest.{Rest}
use Rattle.wire_format.specs.declared.message.Rest.TheVariants as rest
use Rattle.wire_format.proofs.Readings.{stream_len}
use Rattle.prop_wire.specs.Limit.{max_stream}
use Rattle.prop_wire.specs.Refusals.{refusal_of}
use Rattle.prop_wire.specs.Replies.{rest_reply}
use Rattle.prop_wire.specs.Serving.{place_of, Answers, IsPart, Place, Serves, TakesBytes}
use Rattle.prop_wire.specs.internal.Course.{AnswersPiece, ComesOfPiece, GoesBehind}
use Rattle.prop_wire.specs.Reply.{reply_bytes}
use Rattle.prop_wire.specs.internal.Streams.{refusal_at, reply_to, rest_of, tail_of, total_len, EndsWith, ReadsPiece, Refuses}
use Rattle.prop_wire.specs.declared.refusal.WireRefusal.{WireRefusal}
use Rattle.prop_wire.specs.declared.refusal.WireRefusal.TheVariants as refusal
use Rattle.prop_wire.specs.declared.stream.Bad.{Bad}
use Rattle.prop_wire.specs.declared.stream.Bad.TheVariants as bad
use Rattle.prop_wire.specs.declared.stream.Stream.{Stream}
use Rattle.prop_wire.proofs.Courses.{answers_end, answers_more, bytes_then, part_of_whole, replies_at}
use Rattle.prop_wire.proofs.Ends.{serves_at}
use Rattle.prop_wire.proofs.Readings.{unfinished_is_open, wire_of}

-- ---- lengths

count_len : (messages : List Message) → length messages ≤ total_len messages
count_len [] = omega arith
count_len (message ∷ more) =
    let P : ℕ → Type 0 = λ n. 12 ≤ n in
    let one : 12 ≤ message_len message = cond_both message.second (12 + length message.name + length message.value) 128 P (λ _. omega arith) (λ _. omega arith) in
    let others = count_len more in
    omega (arith, sum_by-cons message_len message more)

-- the messages are no longer than the bytes
pub piece_fits : (bytes : List ℕ) (messages : List Message) (found : Option Bad) (after : Feeding) → ReadsPiece bytes messages found after → total_len messages ≤ length bytes
piece_fits bytes messages None after h =
    let left = h.0 in let leaves = h.1 in let len : length bytes ≡ total_len messages + length left = stream_len bytes messages left leaves.begins in omega arith
piece_fits bytes messages (Some found) after h =
    let len : length bytes ≡ total_len messages + length h.left = stream_len bytes messages h.left h.begins in omega arith

-- ---- a fault while the messages were answered

pub piece_cut : (who before : ℕ) (bytes : List ℕ) (messages : List Message) (found : Option Bad) (after : Feeding) (a b : Place) (why : IoRefusal)
    → ReadsPiece bytes messages found after → Answers false who messages rest.End a b → Serves who before bytes a b (Err (refusal_of why))
piece_cut who before bytes messages None after a b io.Failed h answers =
    serves_at who before bytes messages (unfinished h.0) a b (Err refusal.WriteFault) (wire_of bytes messages h.0 h.1) tt
    (answers_end false who messages (unfinished h.0) a b (unfinished_is_open h.0) answers)
piece_cut who before bytes messages None after a b io.NoMemory h answers =
    serves_at who before bytes messages (unfinished h.0) a b (Err refusal.NoMemory) (wire_of bytes messages h.0 h.1) tt
    (answers_end false who messages (unfinished h.0) a b (unfinished_is_open h.0) answers)
piece_cut who before bytes messages (Some found) after a b io.Failed h answers =
    serves_at who before bytes messages (rest_of found) a b (Err refusal.WriteFault) h tt
    (answers_more who messages [] messages (rest_of found) a b (append-nil messages) answers)
piece_cut who before bytes messages (Some found) after a b io.NoMemory h answers =
    serves_at who before bytes messages (rest_of found) a b (Err refusal.NoMemory) h tt
    (answers_more who messages [] messages (rest_of found) a b (append-nil messages) answers)

pub cut_comes : (why : IoRefusal) → ComesOfPiece (refusal_of why)
cut_comes io.Failed = tt
cut_comes io.NoMemory = tt

-- ---- what is bad behind the messages

part_any : {X : Type 0} (whole : Bool) (part all : List X) → IsPart true part all → IsPart whole part all
part_any true part all is = is
part_any false part all is = part_of_whole part all is

-- the messages were answered, and then the rest, or a prefix of that
answers_rest : (whole : Bool) (who : ℕ) (messages : List Message) (last : Rest) (a b : Place) (now : Option (List ℕ)) → Answers true who messages rest.End a b
    → TakesBytes whole (rest_reply last) b.taken now → Answers whole who messages last a (place_of b.desk now)
answers_rest whole who messages last a b now h k = record {
  sets = λ ready. let sets = h.sets ready in record {
    set = sets.set;
    part = part_any whole sets.set messages sets.part;
    added = sets.added;
    history = sets.history;
    inputs = sets.inputs;
    opening = sets.opening;
  };
  replies = bytes_then whole (replies_at a who messages) (rest_reply last) (replies_at a who messages ++ rest_reply last) a.taken b.taken now refl h.replies k;
}

front_taken : (before now : Option (List ℕ)) (bytes : List ℕ) → TakesFront before now bytes → TakesBytes false bytes before now
front_taken before now bytes h = record { written = h.front; part = (h.rest, h.whole); taken = h.taken }

refused_by : (found : Bad) (at who before : ℕ) (bytes : List ℕ) (messages : List Message) (a b : Place) (now : Option (List ℕ)) → at ≡ before + total_len messages
    → Wire bytes messages (rest_of found) → Answers true who messages rest.End a b → now ≡ append_known b.taken (rest_reply (rest_of found))
    → ComesOfPiece (refusal_at found at) × Serves who before bytes a (place_of b.desk now) (Err (refusal_at found at))
refused_by (bad.Command word) at who before bytes messages a b now place wire h taken = (
  tt,
  serves_at who before bytes messages (rest.BadCommand word) a (place_of b.desk now) (Err (refusal.BadCommand at word)) wire (refl, place)
      (answers_rest true who messages (rest.BadCommand word) a b now h (record { written = _; part = refl; taken = taken })),
)
refused_by (bad.Length len) at who before bytes messages a b now place wire h taken = (
  tt,
  serves_at who before bytes messages (rest.BadLength len) a (place_of b.desk now) (Err (refusal.BadLength at len)) wire (refl, place)
      (answers_rest true who messages (rest.BadLength len) a b now h (record { written = _; part = refl; taken = taken })),
)

-- ---- the piece as a whole

-- the stream before a piece, and once its messages were counted
pub record Counted (s t : Stream) (messages : List Message) (after : Feeding) : Type 0 where
  pub feeder : t.feeder ≡ after
  pub read : t.read ≡ s.read
  pub messages_is : t.messages ≡ s.messages + length messages
  pub whole : t.whole ≡ s.whole + total_len messages

goes_behind : (who : ℕ) (s t : Stream) (messages : List Message) (after : Feeding) (a b c : Place) → s.messages ≤ s.whole
    → s.whole + length (tail_of s.feeder) + length s.piece ≡ s.read → Counted s t messages after → ReadsPiece (tail_of s.feeder ++ s.piece) messages None after
    → Answers true who messages rest.End a b → c ≡ b → GoesBehind who s t a c
goes_behind who s t messages after a b c few read k h answers same =
    let left = h.0 in
    let leaves = h.1 in
    let len : length (tail_of s.feeder ++ s.piece) ≡ total_len messages + length left = stream_len (tail_of s.feeder ++ s.piece) messages left leaves.begins in
    let each = count_len messages in
    let t_read = k.read in
    let t_whole = k.whole in
    let t_count = k.messages_is in record {
      messages = messages;
      left = left;
      leaves = leaves;
      feeder = k.feeder ∙ h.2;
      read = k.read;
      whole = omega (arith, length-append (tail_of s.feeder) s.piece);
      count = k.messages_is;
      few = omega arith;
      answers = subst (λ (p : Place). Answers true who messages rest.End a p) (sym same) answers;
    }

stopped_by : (who : ℕ) (s t : Stream) (messages : List Message) (found : Bad) (a b : Place) (now : Option (List ℕ)) (why : WireRefusal) → t.whole ≡ s.whole + total_len messages
    → Wire (tail_of s.feeder ++ s.piece) messages (rest_of found) → Answers true who messages rest.End a b → why ≡ refusal_at found t.whole
    → now ≡ append_known b.taken (rest_reply (rest_of found))
    → ComesOfPiece why × Serves who s.whole (tail_of s.feeder ++ s.piece) a (place_of b.desk now) (Err why)
stopped_by who s t messages found a b now why place wire answers is taken =
    subst (λ (y : WireRefusal). ComesOfPiece y × Serves who s.whole (tail_of s.feeder ++ s.piece) a (place_of b.desk now) (Err y)) (sym is)
    (refused_by found t.whole who s.whole (tail_of s.feeder ++ s.piece) messages a b now place wire answers taken)

rest_is : (found : Bad) → reply_bytes (Some (reply_to found)) ≡ rest_reply (rest_of found)
rest_is (bad.Command word) = refl
rest_is (bad.Length len) = refl

ends_with : (who : ℕ) (s t : Stream) (messages : List Message) (found : Bad) (a b : Place) (now : Option (List ℕ)) (why : WireRefusal) → t.whole ≡ s.whole + total_len messages
    → Wire (tail_of s.feeder ++ s.piece) messages (rest_of found) → Answers true who messages rest.End a b → EndsWith found t.whole b.taken now why
    → ComesOfPiece why × Serves who s.whole (tail_of s.feeder ++ s.piece) a (place_of b.desk now) (Err why)
ends_with who s t messages found a b now refusal.WriteFault place wire answers ends = (
  tt,
  serves_at who s.whole (tail_of s.feeder ++ s.piece) messages (rest_of found) a (place_of b.desk now) (Err refusal.WriteFault) wire tt
      (answers_rest false who messages (rest_of found) a b now answers (front_taken b.taken now (rest_reply (rest_of found)) (subst (λ (l : List ℕ). TakesFront b.taken now l) (rest_is found) ends))),
)
ends_with who s t messages found a b now refusal.NoMemory place wire answers ends = (
  tt,
  serves_at who s.whole (tail_of s.feeder ++ s.piece) messages (rest_of found) a (place_of b.desk now) (Err refusal.NoMemory) wire tt
      (answers_rest false who messages (rest_of found) a b now answers (front_taken b.taken now (rest_reply (rest_of found)) (subst (λ (l : List ℕ). TakesFront b.taken now l) (rest_is found) ends))),
)
ends_with who s t messages found a b now refusal.Spent place wire answers ends =
    stopped_by who s t messages found a b now refusal.Spent place wire answers ends.0 (ends.1 ∙ ap (λ l. append_known b.taken l) (rest_is found))
ends_with who s t messages found a b now (refusal.BadCommand at word) place wire answers ends =
    stopped_by who s t messages found a b now (refusal.BadCommand at word) place wire answers ends.0 (ends.1 ∙ ap (λ l. append_known b.taken l) (rest_is found))
ends_with who s t messages found a b now (refusal.BadLength at len) place wire answers ends =
    stopped_by who s t messages found a b now (refusal.BadLength at len) place wire answers ends.0 (ends.1 ∙ ap (λ l. append_known b.taken l) (rest_is found))
ends_with who s t messages found a b now (refusal.TooLong taken) place wire answers ends =
    stopped_by who s t messages found a b now (refusal.TooLong taken) place wire answers ends.0 (ends.1 ∙ ap (λ l. append_known b.taken l) (rest_is found))
ends_with who s t messages found a b now (refusal.Torn at) place wire answers ends =
    stopped_by who s t messages found a b now (refusal.Torn at) place wire answers ends.0 (ends.1 ∙ ap (λ l. append_known b.taken l) (rest_is found))
ends_with who s t messages found a b now refusal.ReadFault place wire answers ends =
    stopped_by who s t messages found a b now refusal.ReadFault place wire answers ends.0 (ends.1 ∙ ap (λ l. append_known b.taken l) (rest_is found))

-- what is bad, if anything, was answered behind the messages
pub piece_answered : {T : Type 0} (r : Result T WireRefusal) (found : Option Bad) (who : ℕ) (s t : Stream) (messages : List Message) (after : Feeding) (a b : Place) (now : Option (List ℕ))
    → s.messages ≤ s.whole → s.whole + length (tail_of s.feeder) + length s.piece ≡ s.read → Counted s t messages after
    → ReadsPiece (tail_of s.feeder ++ s.piece) messages found after → Answers true who messages rest.End a b → Refuses found t.whole b.taken now r
    → AnswersPiece who s t a (place_of b.desk now) r
piece_answered (Ok value) None who s t messages after a b now few read k h answers refused =
    goes_behind who s t messages after a b (place_of b.desk now) few read k h answers (ap (λ (y : Option (List ℕ)). place_of b.desk y) refused)
piece_answered (Err why) None who s t messages after a b now few read k h answers refused = absurd refused
piece_answered (Ok value) (Some found) who s t messages after a b now few read k h answers refused = absurd refused
piece_answered (Err why) (Some found) who s t messages after a b now few read k h answers refused =
    ends_with who s t messages found a b now why k.whole h answers refused

-- what `feed` and `count_in` leave
pub counted_in : (s f t : Stream) (seen messages : List Message) → f ≡ record s { feeder = f.feeder }
    → t ≡ record f { messages = f.messages + length seen; whole = f.whole + total_len seen } → seen ≡ messages → Counted s t messages f.feeder
counted_in s f t seen messages fed counted same = record {
  feeder = ap (λ (x : Stream). x.feeder) counted;
  read = ap (λ (x : Stream). x.read) counted ∙ ap (λ (x : Stream). x.read) fed;
  messages_is =
      ap (λ (x : Stream). x.messages) counted ∙ ap (λ (x : Stream). x.messages + length seen) fed
      ∙ ap (λ (ms : List Message). s.messages + length ms) same;
  whole =
      ap (λ (x : Stream). x.whole) counted ∙ ap (λ (x : Stream). x.whole + total_len seen) fed
      ∙ ap (λ (ms : List Message). s.whole + total_len ms) same;
}

-- the messages of a piece are within the limit
pub room_in : (s f : Stream) (seen messages : List Message) (found : Option Bad) (after : Feeding) → s.whole + length (tail_of s.feeder) + length s.piece ≡ s.read → s.read ≤ max_stream
    → f ≡ record s { feeder = f.feeder } → seen ≡ messages → ReadsPiece (tail_of s.feeder ++ s.piece) messages found after → f.whole + total_len seen ≤ max_stream
room_in s f seen messages found after read within fed same reads =
    let fits = piece_fits (tail_of s.feeder ++ s.piece) messages found after reads in
    let whole : f.whole ≡ s.whole = ap (λ (x : Stream). x.whole) fed in
    let total : total_len seen ≡ total_len messages = ap (λ (ms : List Message). total_len ms) same in
    omega (arith, length-append (tail_of s.feeder) s.piece)
