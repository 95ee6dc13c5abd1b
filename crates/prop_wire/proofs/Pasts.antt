-- What was read and answered of a stream before its next piece.
use Rattle.std.proofs.Common.{◌≡◌, ◌≢◌, ℕ, ◌+◌, ◌<◌, ◌≤◌, Bool, true, false, eqb, eqb-true, cond, List, [], ◌∷◌, ◌++◌, length, Option, Some, None, Result, Ok, Err, refl, sym, ap, subst, ◌∙◌, inl, inr, arith, append-nil, append_assoc, length-append}
use Rattle.std.proofs.lemmas.Bool.{cases_Bool, eqb-false}
use Rattle.std.proofs.lemmas.List.{nil_from_length}
use Rattle.std.specs.Io.KnownBytes.{Consumes, IsAtEnd, Keeps}
use Rattle.wire_format.specs.Feeding.{tail, LeavesTail}
use Rattle.wire_format.specs.Wire.{front_of, unfinished, BeginsWith}
use Rattle.wire_format.specs.declared.message.Message.{Message}
use Rattle.wire_format.specs.declared.message.Rest.TheVariants as rest
use Rattle.wire_format.proofs.Readings.{stream_len}
use Rattle.wire_format.proofs.Streams.{begins_join, begins_stays}
use Rattle.prop_wire.specs.Limit.{max_stream}
use Rattle.prop_wire.specs.Serving.{Answers, Place, Serves}
use Rattle.prop_wire.specs.internal.Course.{ComesOfPiece, DrawsAll, GoesBehind, ServesSource}
use Rattle.prop_wire.specs.internal.Streams.{tail_of, total_len, DrawsPiece}
use Rattle.prop_wire.specs.declared.refusal.WireRefusal.{WireRefusal}
use Rattle.prop_wire.specs.declared.refusal.WireRefusal.TheVariants as refusal
use Rattle.prop_wire.specs.declared.stream.Stream.{Stream}
use Rattle.prop_wire.proofs.Courses.{answers_end, answers_nothing, answers_part, answers_then}
use Rattle.prop_wire.proofs.Ends.{serves_at, serves_behind, serves_none}
use Rattle.prop_wire.proofs.Readings.{unfinished_is_open, wire_of}

pub record Past (who : ℕ) (old new : Option (List ℕ)) (stream : Stream) (a b : Place) : Type 0 where
  pub given : List ℕ
  pub done : List Message
  pub had : List ℕ
  pub consumed : Consumes old new given
  pub leaves : LeavesTail given done had
  pub feeder : stream.feeder ≡ tail had
  pub read : stream.read ≡ length given
  pub within : stream.read ≤ max_stream
  pub whole : stream.whole + length had ≡ stream.read
  pub count : stream.messages ≡ length done
  pub few : stream.messages ≤ stream.whole
  pub answers : Answers true who done rest.End a b
  pub ready : b.desk.spent ≡ false

-- ---- a source

consumes_nothing : (old : Option (List ℕ)) → Consumes old old []
consumes_nothing None = tt
consumes_nothing (Some xs) = refl

consumes_then : (old mid new : Option (List ℕ)) (given piece : List ℕ) → Consumes old mid given → Consumes mid new piece → Consumes old new (given ++ piece)
consumes_then None mid new given piece h k = tt
consumes_then (Some xs) None new given piece h k = absurd h
consumes_then (Some xs) (Some ys) None given piece h k = k
consumes_then (Some xs) (Some ys) (Some zs) given piece h k = h ∙ ap (λ l. given ++ l) k ∙ sym (append_assoc given piece zs)

consumes_kept : (old mid new : Option (List ℕ)) (given : List ℕ) → Consumes old mid given → Keeps mid new → Consumes old new given
consumes_kept None mid new given h k = tt
consumes_kept (Some xs) None new given h k = absurd h
consumes_kept (Some xs) (Some ys) None given h k = k
consumes_kept (Some xs) (Some ys) (Some zs) given h k = h ∙ ap (λ l. given ++ l) (sym k)

-- ---- the beginning

nothing_left : LeavesTail [] [] []
unfolding front_of
nothing_left = record { begins = refl; rests = refl }

pub past_none : (who : ℕ) (source : Option (List ℕ)) (stream : Stream) (a : Place) → stream.feeder ≡ tail [] → stream.read ≡ 0 → stream.messages ≡ 0 → stream.whole ≡ 0
    → a.desk.spent ≡ false → Past who source source stream a a
past_none who source stream a feeder read count whole ready = record {
  given = [];
  done = [];
  had = [];
  consumed = consumes_nothing source;
  leaves = nothing_left;
  feeder = feeder;
  read = read;
  within = omega arith;
  whole = omega arith;
  count = count;
  few = omega arith;
  answers = answers_nothing who a;
  ready = ready;
}

-- ---- a piece more

-- a piece was read
pub record HasRead (mid new : Option (List ℕ)) (s t : Stream) : Type 0 where
  pub consumed : Consumes mid new t.piece
  pub some : 0 < length t.piece
  pub within : s.read + length t.piece ≤ max_stream
  pub read : t.read ≡ s.read + length t.piece
  pub feeder : t.feeder ≡ s.feeder
  pub messages : t.messages ≡ s.messages
  pub whole : t.whole ≡ s.whole

pub past_more : (who : ℕ) (old mid new : Option (List ℕ)) (s t u : Stream) (a b c : Place) → (h : Past who old mid s a b) → HasRead mid new s t → GoesBehind who t u b c
    → c.desk.spent ≡ false → Past who old new u a c
past_more who old mid new s t u a b c h r k ready =
    let had_is : tail_of t.feeder ≡ h.had = ap tail_of (r.feeder ∙ h.feeder) in
    let goes : BeginsWith (h.had ++ t.piece) k.messages k.left = subst (λ (l : List ℕ). BeginsWith (l ++ t.piece) k.messages k.left) had_is k.leaves.begins in
    let s_read = h.read in
    let s_count = h.count in
    let t_read = r.read in
    let t_within = r.within in
    let t_messages = r.messages in
    let u_read = k.read in
    let u_whole = k.whole in
    let u_count = k.count in record {
      given = h.given ++ t.piece;
      done = h.done ++ k.messages;
      had = k.left;
      consumed = consumes_then old mid new h.given t.piece h.consumed r.consumed;
      leaves = record {
        begins = begins_join (h.given ++ t.piece) h.done (h.had ++ t.piece) k.messages k.left (begins_stays h.given h.done h.had t.piece h.leaves.begins) goes;
        rests = k.leaves.rests;
      };
      feeder = k.feeder;
      read = omega (arith, length-append h.given t.piece);
      within = omega arith;
      whole = u_whole;
      count = omega (arith, length-append h.done k.messages);
      few = k.few;
      answers = answers_then true who h.done k.messages rest.End a b c h.answers h.ready k.answers;
      ready = ready;
    }

-- ---- the ends

comes_all : (why : WireRefusal) (new : Option (List ℕ)) (given more : List ℕ) → ComesOfPiece why → DrawsAll new given more (Err why)
comes_all refusal.Spent new given more h = absurd h
comes_all (refusal.BadCommand at word) new given more h = tt
comes_all (refusal.BadLength at len) new given more h = tt
comes_all (refusal.TooLong taken) new given more h = absurd h
comes_all (refusal.Torn at) new given more h = absurd h
comes_all refusal.ReadFault new given more h = absurd h
comes_all refusal.WriteFault new given more h = tt
comes_all refusal.NoMemory new given more h = tt

-- a piece ended the stream
pub past_stopped : (who : ℕ) (old mid new : Option (List ℕ)) (s t : Stream) (a b c : Place) (why : WireRefusal) → (h : Past who old mid s a b) → HasRead mid new s t
    → ComesOfPiece why → Serves who t.whole (tail_of t.feeder ++ t.piece) b c (Err why) → ServesSource old new who a c (Err why)
past_stopped who old mid new s t a b c why h r comes k =
    let had_is : tail_of t.feeder ≡ h.had = ap tail_of (r.feeder ∙ h.feeder) in
    let serves : Serves who t.whole (h.had ++ t.piece) b c (Err why) = subst (λ (l : List ℕ). Serves who t.whole (l ++ t.piece) b c (Err why)) had_is k in
    let s_read = h.read in
    let s_whole = h.whole in
    let t_whole = r.whole in
    let t_within = r.within in
    let size : t.whole + length h.had ≡ length h.given = omega arith in record {
      given = h.given ++ t.piece;
      more = [];
      consumed = subst (λ (l : List ℕ). Consumes old new l) (sym (append-nil (h.given ++ t.piece))) (consumes_then old mid new h.given t.piece h.consumed r.consumed);
      within = omega (arith, length-append h.given t.piece);
      all = comes_all why new (h.given ++ t.piece) [] comes;
      serves = serves_behind who t.whole h.given h.had t.piece h.done a b c why h.leaves.begins size h.answers h.ready serves;
    }

-- no piece was read
pub past_unread : (who : ℕ) (old mid new : Option (List ℕ)) (s : Stream) (piece : List ℕ) (a b : Place) (why : WireRefusal) → Past who old mid s a b
    → DrawsPiece mid new s.read piece (Err why) → ServesSource old new who a b (Err why)
past_unread who old mid new s piece a b refusal.ReadFault h draws =
    let s_read = h.read in
    let s_within = h.within in record {
      given = h.given;
      more = [];
      consumed = subst (λ (l : List ℕ). Consumes old new l) (sym (append-nil h.given)) (consumes_kept old mid new h.given h.consumed draws);
      within = omega arith;
      all = tt;
      serves = serves_at who 0 h.given h.done (unfinished h.had) a b (Err refusal.ReadFault) (wire_of h.given h.done h.had h.leaves) tt
          (answers_end false who h.done (unfinished h.had) a b (unfinished_is_open h.had) (answers_part who h.done rest.End a b h.answers));
    }
past_unread who old mid new s piece a b (refusal.TooLong taken) h draws =
    let s_read = h.read in
    let s_within = h.within in
    let full = draws.2 in record {
      given = h.given;
      more = piece;
      consumed = consumes_then old mid new h.given piece h.consumed draws.0;
      within = omega arith;
      all = (draws.1, omega arith);
      serves = serves_at who 0 h.given h.done (unfinished h.had) a b (Err (refusal.TooLong taken)) (wire_of h.given h.done h.had h.leaves) (unfinished_is_open h.had, draws.3)
          (answers_end true who h.done (unfinished h.had) a b (unfinished_is_open h.had) h.answers);
    }
past_unread who old mid new s piece a b refusal.Spent h draws = absurd draws
past_unread who old mid new s piece a b (refusal.BadCommand at word) h draws = absurd draws
past_unread who old mid new s piece a b (refusal.BadLength at len) h draws = absurd draws
past_unread who old mid new s piece a b (refusal.Torn at) h draws = absurd draws
past_unread who old mid new s piece a b refusal.WriteFault h draws = absurd draws
past_unread who old mid new s piece a b refusal.NoMemory h draws = absurd draws

-- the source is at its end
pub record HasEnded (mid new : Option (List ℕ)) (s t : Stream) : Type 0 where
  pub consumed : Consumes mid new []
  pub at_end : IsAtEnd new
  pub read : t.read ≡ s.read
  pub messages : t.messages ≡ s.messages
  pub whole : t.whole ≡ s.whole

torn_of : (had : List ℕ) → 0 < length had → unfinished had ≡ rest.Torn (length had)
torn_of [] some = absurd (omega arith)
torn_of (byte ∷ had) some = refl

pub past_ended : (who : ℕ) (old mid new : Option (List ℕ)) (s t : Stream) (a b : Place) (r : Result ℕ WireRefusal) → Past who old mid s a b → HasEnded mid new s t
    → r ≡ cond (eqb t.whole t.read) (Ok t.messages) (Err (refusal.Torn t.whole)) → ServesSource old new who a b r
past_ended who old mid new s t a b r h e is =
    let s_read = h.read in
    let s_within = h.within in
    let s_whole = h.whole in
    let s_count = h.count in
    let t_read = e.read in
    let t_whole = e.whole in
    let t_count = e.messages in
    let len : length h.given ≡ total_len h.done + length h.had = stream_len h.given h.done h.had h.leaves.begins in
    let consumed : Consumes old new (h.given ++ []) = consumes_then old mid new h.given [] h.consumed e.consumed in
    elim (cases_Bool (eqb t.whole t.read)) [
      | inl all ↦
          (let same : t.whole ≡ t.read = eqb-true t.whole t.read all in
          let none : h.had ≡ [] = nil_from_length h.had (omega arith) in
          let r_is : r ≡ Ok t.messages = is ∙ ap (λ (w : Bool). cond w (Ok t.messages) (Err (refusal.Torn t.whole))) all in
          subst (λ (x : Result ℕ WireRefusal). ServesSource old new who a b x) (sym r_is) (record {
            given = h.given;
            more = [];
            consumed = consumed;
            within = omega arith;
            all = (refl, e.at_end);
            serves = serves_at who 0 h.given h.done (unfinished h.had) a b (Ok t.messages) (wire_of h.given h.done h.had h.leaves) (ap unfinished none, e.messages ∙ h.count)
                (answers_end true who h.done (unfinished h.had) a b (unfinished_is_open h.had) h.answers);
          }))
      | inr torn ↦
          (let differ : t.whole ≢ t.read = eqb-false t.whole t.read torn in
          let some : 0 < length h.had = omega arith in
          let r_is : r ≡ Err (refusal.Torn t.whole) = is ∙ ap (λ (w : Bool). cond w (Ok t.messages) (Err (refusal.Torn t.whole))) torn in
          let place : t.whole ≡ 0 + total_len h.done = omega arith in
          subst (λ (x : Result ℕ WireRefusal). ServesSource old new who a b x) (sym r_is) (record {
            given = h.given;
            more = [];
            consumed = consumed;
            within = omega arith;
            all = (refl, e.at_end);
            serves = serves_at who 0 h.given h.done (unfinished h.had) a b (Err (refusal.Torn t.whole)) (wire_of h.given h.done h.had h.leaves) (length h.had, torn_of h.had some, place)
                (answers_end true who h.done (unfinished h.had) a b (unfinished_is_open h.had) h.answers);
          }))
    ]

-- ---- what `read_on` leaves

pub has_read : (mid new : Option (List ℕ)) (s t : Stream) (more : Bool) → more ≡ true → DrawsPiece mid new s.read t.piece (Ok more)
    → ((r : Result Bool WireRefusal) → r ≡ Ok more → r ≡ Ok true → t.read ≡ s.read + length t.piece) → t ≡ record s { piece = t.piece; read = t.read } → HasRead mid new s t
has_read mid new s t more is draws read rest =
    let drawn : DrawsPiece mid new s.read t.piece (Ok true) = subst (λ (b : Bool). DrawsPiece mid new s.read t.piece (Ok b)) is draws in
    let answer : Result Bool WireRefusal = Ok more in
    let ok : answer ≡ Ok true = ap (λ (b : Bool). let r : Result Bool WireRefusal = Ok b in r) is in record {
      consumed = drawn.0;
      some = drawn.1;
      within = drawn.2;
      read = read answer refl ok;
      feeder = ap (λ (x : Stream). x.feeder) rest;
      messages = ap (λ (x : Stream). x.messages) rest;
      whole = ap (λ (x : Stream). x.whole) rest;
    }

pub has_ended : (mid new : Option (List ℕ)) (s t : Stream) (more : Bool) → more ≡ false → DrawsPiece mid new s.read t.piece (Ok more)
    → ((r : Result Bool WireRefusal) → r ≡ Ok more → r ≡ Ok false → t.read ≡ s.read) → t ≡ record s { piece = t.piece; read = t.read } → HasEnded mid new s t
has_ended mid new s t more is draws read rest =
    let drawn : DrawsPiece mid new s.read t.piece (Ok false) = subst (λ (b : Bool). DrawsPiece mid new s.read t.piece (Ok b)) is draws in
    let answer : Result Bool WireRefusal = Ok more in
    let ok : answer ≡ Ok false = ap (λ (b : Bool). let r : Result Bool WireRefusal = Ok b in r) is in record {
      consumed = drawn.0;
      at_end = drawn.1;
      read = read answer refl ok;
      messages = ap (λ (x : Stream). x.messages) rest;
      whole = ap (λ (x : Stream). x.whole) rest;
    }

-- nothing was read
pub source_none : (who : ℕ) (source : Option (List ℕ)) (a : Place) → ServesSource source source who a a (Err refusal.NoMemory)
source_none who source a = record {
  given = [];
  more = [];
  consumed = consumes_nothing source;
  within = omega arith;
  all = tt;
  serves = serves_none who 0 [] a refusal.NoMemory (λ _ _ _. tt) refl;
}
