-- How a stream that is served ends.
use Rattle.std.proofs.Common.{◌≡◌, ℕ, ◌+◌, ◌-◌, ◌≤◌, Bool, true, false, List, [], ◌++◌, length, take, Option, Some, None, Result, Ok, Err, refl, sym, ap, subst, ◌∙◌, inl, inr, arith, append-nil, append_assoc, length-append}
use Rattle.std.proofs.Math.Seq.{take-append_seam, take-append-add}
use Rattle.std.proofs.lemmas.Bool.{cases_Bool}
use Rattle.std.proofs.lemmas.List.{take_all}
use Rattle.std.specs.Io.KnownBytes.{Consumes, IsAtEnd}
use Rattle.wire_format.specs.Wire.{is_open, BeginsWith, Wire}
use Rattle.wire_format.specs.declared.message.Message.{Message}
use Rattle.wire_format.specs.declared.message.Rest.{Rest}
use Rattle.wire_format.specs.declared.message.Rest.TheVariants as rest
use Rattle.wire_format.proofs.Joining.{some_reading}
use Rattle.wire_format.proofs.Readings.{stream_len}
use Rattle.wire_format.proofs.Streams.{begins_join, begins_stays}
use Rattle.prop_wire.specs.Limit.{max_stream, stream_of}
use Rattle.prop_wire.specs.Serving.{is_whole, Answers, Place, Serves, TellsEnd, TellsLimit}
use Rattle.prop_wire.specs.internal.Course.{ServesSource}
use Rattle.prop_wire.specs.internal.Streams.{total_len}
use Rattle.prop_wire.specs.declared.refusal.WireRefusal.{WireRefusal}
use Rattle.prop_wire.specs.declared.refusal.WireRefusal.TheVariants as refusal
use Rattle.prop_wire.proofs.Courses.{answers_more, answers_none, answers_open, answers_then}
use Rattle.prop_wire.proofs.Readings.{reads_on, stays_len, wire_stays}

-- ---- one end

-- the place of the rest is that behind the messages
pub serves_at : (who before : ℕ) (bytes : List ℕ) (messages : List Message) (last : Rest) (a b : Place) (r : Result ℕ WireRefusal) → Wire bytes messages last
    → TellsEnd messages last (before + total_len messages) r → Answers (is_whole r) who messages last a b → Serves who before bytes a b r
serves_at who before bytes messages last a b r wire end answers =
    let len : length bytes ≡ total_len messages + length wire.left = stream_len bytes messages wire.left wire.begins in record {
      messages = messages;
      last = last;
      wire = wire;
      place = before + total_len messages;
      place_is = omega arith;
      end = end;
      answers = answers;
    }

-- nothing is served where a fault came at once
pub serves_none : (who before : ℕ) (bytes : List ℕ) (a : Place) (why : WireRefusal) → ((messages : List Message) (last : Rest) (place : ℕ) → TellsEnd messages last place (Err why))
    → is_whole (Err why) ≡ false → Serves who before bytes a a (Err why)
serves_none who before bytes a why tells cut =
    let reading = some_reading bytes in
    serves_at who before bytes reading.0 reading.1 a a (Err why) reading.2 (tells reading.0 reading.1 (before + total_len reading.0))
    (subst (λ (w : Bool). Answers w who reading.0 reading.1 a a) (sym cut) (answers_none who reading.0 reading.1 a))

-- ---- behind messages that were answered

tells_behind : (why : WireRefusal) (messages others : List Message) (last : Rest) (place : ℕ) → TellsEnd messages last place (Err why) → TellsEnd others last place (Err why)
tells_behind refusal.Spent messages others last place h = h
tells_behind (refusal.BadCommand at word) messages others last place h = h
tells_behind (refusal.BadLength at len) messages others last place h = h
tells_behind (refusal.TooLong taken) messages others last place h = h
tells_behind (refusal.Torn at) messages others last place h = h
tells_behind refusal.ReadFault messages others last place h = h
tells_behind refusal.WriteFault messages others last place h = h
tells_behind refusal.NoMemory messages others last place h = h

pub serves_behind : (who before : ℕ) (given had piece : List ℕ) (done : List Message) (a b c : Place) (why : WireRefusal) → BeginsWith given done had
    → before + length had ≡ length given → Answers true who done rest.End a b → b.desk.spent ≡ false → Serves who before (had ++ piece) b c (Err why)
    → Serves who 0 (given ++ piece) a c (Err why)
serves_behind who before given had piece done a b c why begins len h ready k = record {
  messages = done ++ k.messages;
  last = k.last;
  wire = record {
    left = k.wire.left;
    begins = begins_join (given ++ piece) done (had ++ piece) k.messages k.wire.left (begins_stays given done had piece begins) k.wire.begins;
    rests = k.wire.rests;
  };
  place = k.place;
  place_is = (let at = k.place_is in omega (arith, length-append given piece, length-append had piece));
  end = tells_behind why k.messages (done ++ k.messages) k.last k.place k.end;
  answers = answers_then (is_whole (Err why)) who done k.messages k.last a b c h ready k.answers;
}

-- ---- bytes that are added

bad_more : (who : ℕ) (bytes more : List ℕ) (a b : Place) (why : WireRefusal) → (h : Serves who 0 bytes a b (Err why)) → is_open h.last ≡ false
    → Serves who 0 (bytes ++ more) a b (Err why)
bad_more who bytes more a b why h bad =
    let wire = wire_stays bytes more h.messages h.last bad h.wire in record {
      messages = h.messages;
      last = h.last;
      wire = wire;
      place = h.place;
      place_is = (let at = h.place_is in omega (arith, length-append bytes more, stays_len bytes more h.messages h.last bad h.wire));
      end = h.end;
      answers = h.answers;
    }

fault_more : (who : ℕ) (bytes more : List ℕ) (a b : Place) (why : WireRefusal) → ((messages : List Message) (last : Rest) (place : ℕ) → TellsEnd messages last place (Err why))
    → is_whole (Err why) ≡ false → Serves who 0 bytes a b (Err why) → Serves who 0 (bytes ++ more) a b (Err why)
fault_more who bytes more a b why tells cut h = elim (cases_Bool (is_open h.last)) [
  | inr bad ↦ bad_more who bytes more a b why h bad
  | inl may ↦
      (let on = reads_on bytes more h.messages h.wire.left h.wire.begins in
      let part : Answers false who h.messages h.last a b = subst (λ (w : Bool). Answers w who h.messages h.last a b) cut h.answers in
      serves_at who 0 (bytes ++ more) (h.messages ++ on.others) on.last a b (Err why) on.wire (tells (h.messages ++ on.others) on.last (0 + total_len (h.messages ++ on.others)))
      (subst (λ (w : Bool). Answers w who (h.messages ++ on.others) on.last a b) (sym cut)
      (answers_more who h.messages on.others (h.messages ++ on.others) on.last a b refl (answers_open false who h.messages h.last a b may part))))
]

-- ---- what a source held

-- the first bytes of what was held, of which not all may have been read
front_held : (given more rest held : List ℕ) → held ≡ (given ++ more) ++ rest → length given ≤ max_stream
    → (behind : List ℕ) × (given ++ behind ≡ stream_of held)
front_held given more rest held is within =
    let room : max_stream ≡ length given + (max_stream - length given) = omega arith in (
      take (max_stream - length given) (more ++ rest),
      sym (ap (λ (l : List ℕ). take max_stream l) (is ∙ append_assoc given more rest)
          ∙ ap (λ n. take n (given ++ (more ++ rest))) room
          ∙ take-append-add given (more ++ rest) (max_stream - length given)),
    )

whole_held : (given more rest held : List ℕ) → held ≡ (given ++ more) ++ rest → length given ≤ max_stream → more ≡ [] → rest ≡ [] → held ≡ given
whole_held given more rest held is within none end = is ∙ ap (λ l. (given ++ l) ++ rest) none ∙ ap (λ l. (given ++ []) ++ l) end ∙ append-nil (given ++ []) ∙ append-nil given

all_served : (given held : List ℕ) → held ≡ given → length given ≤ max_stream → given ≡ stream_of held
all_served given held is within = sym (take_all max_stream given within) ∙ ap (λ (l : List ℕ). take max_stream l) (sym is)

-- what is consumed of known bytes
pub record Held (held given more : List ℕ) (new : Option (List ℕ)) : Type 0 where
  pub rest : List ℕ
  pub new_is : new ≡ Some rest
  pub held_is : held ≡ (given ++ more) ++ rest

held_of : (old new : Option (List ℕ)) (held given more : List ℕ) → old ≡ Some held → Consumes old new (given ++ more) → Held held given more new
held_of old None held given more is h = absurd (subst (λ (o : Option (List ℕ)). Consumes o None (given ++ more)) is h)
held_of old (Some rest) held given more is h = record {
  rest = rest;
  new_is = refl;
  held_is = subst (λ (o : Option (List ℕ)). Consumes o (Some rest) (given ++ more)) is h;
}

ended : (new : Option (List ℕ)) (rest : List ℕ) → new ≡ Some rest → IsAtEnd new → rest ≡ []
ended new rest is h = subst (λ (o : Option (List ℕ)). IsAtEnd o) is h

pub held_serves : (old new : Option (List ℕ)) (held : List ℕ) (who : ℕ) (a b : Place) (r : Result ℕ WireRefusal) → old ≡ Some held → ServesSource old new who a b r
    → Serves who 0 (stream_of held) a b r
held_serves old new held who a b (Ok count) is h =
    let k = held_of old new held h.given h.more is h.consumed in
    let all = whole_held h.given h.more k.rest held k.held_is h.within h.all.0 (ended new k.rest k.new_is h.all.1) in
    subst (λ (l : List ℕ). Serves who 0 l a b (Ok count)) (all_served h.given held all h.within) h.serves
held_serves old new held who a b (Err (refusal.Torn at)) is h =
    let k = held_of old new held h.given h.more is h.consumed in
    let all = whole_held h.given h.more k.rest held k.held_is h.within h.all.0 (ended new k.rest k.new_is h.all.1) in
    subst (λ (l : List ℕ). Serves who 0 l a b (Err (refusal.Torn at))) (all_served h.given held all h.within) h.serves
held_serves old new held who a b (Err (refusal.TooLong taken)) is h =
    let k = held_of old new held h.given h.more is h.consumed in
    let front : h.given ≡ stream_of held =
    sym (ap (λ (l : List ℕ). take max_stream l) (k.held_is ∙ append_assoc h.given h.more k.rest) ∙ ap (λ n. take n (h.given ++ (h.more ++ k.rest))) (sym h.all.1) ∙ take-append_seam h.given (h.more ++ k.rest)) in
    subst (λ (l : List ℕ). Serves who 0 l a b (Err (refusal.TooLong taken))) front h.serves
held_serves old new held who a b (Err (refusal.BadCommand at word)) is h =
    let k = held_of old new held h.given h.more is h.consumed in
    let front = front_held h.given h.more k.rest held k.held_is h.within in
    let bad : is_open h.serves.last ≡ false = ap is_open h.serves.end.0 in
    subst (λ (l : List ℕ). Serves who 0 l a b (Err (refusal.BadCommand at word))) front.1 (bad_more who h.given front.0 a b (refusal.BadCommand at word) h.serves bad)
held_serves old new held who a b (Err (refusal.BadLength at len)) is h =
    let k = held_of old new held h.given h.more is h.consumed in
    let front = front_held h.given h.more k.rest held k.held_is h.within in
    let bad : is_open h.serves.last ≡ false = ap is_open h.serves.end.0 in
    subst (λ (l : List ℕ). Serves who 0 l a b (Err (refusal.BadLength at len))) front.1 (bad_more who h.given front.0 a b (refusal.BadLength at len) h.serves bad)
held_serves old new held who a b (Err refusal.Spent) is h = absurd h.all
held_serves old new held who a b (Err refusal.ReadFault) is h =
    let k = held_of old new held h.given h.more is h.consumed in
    let front = front_held h.given h.more k.rest held k.held_is h.within in
    subst (λ (l : List ℕ). Serves who 0 l a b (Err refusal.ReadFault)) front.1 (fault_more who h.given front.0 a b refusal.ReadFault (λ _ _ _. tt) refl h.serves)
held_serves old new held who a b (Err refusal.WriteFault) is h =
    let k = held_of old new held h.given h.more is h.consumed in
    let front = front_held h.given h.more k.rest held k.held_is h.within in
    subst (λ (l : List ℕ). Serves who 0 l a b (Err refusal.WriteFault)) front.1 (fault_more who h.given front.0 a b refusal.WriteFault (λ _ _ _. tt) refl h.serves)
held_serves old new held who a b (Err refusal.NoMemory) is h =
    let k = held_of old new held h.given h.more is h.consumed in
    let front = front_held h.given h.more k.rest held k.held_is h.within in
    subst (λ (l : List ℕ). Serves who 0 l a b (Err refusal.NoMemory)) front.1 (fault_more who h.given front.0 a b refusal.NoMemory (λ _ _ _. tt) refl h.serves)

pub never_spent : (old new : Option (List ℕ)) (who : ℕ) (a b : Place) (r : Result ℕ WireRefusal) → ServesSource old new who a b r → r ≡ Err refusal.Spent → ⊥
never_spent old new who a b r h is = let at : ServesSource old new who a b (Err refusal.Spent) = subst (λ (x : Result ℕ WireRefusal). ServesSource old new who a b x) is h in at.all

pub held_tells : (old new : Option (List ℕ)) (held : List ℕ) (who : ℕ) (a b : Place) (r : Result ℕ WireRefusal) → old ≡ Some held → ServesSource old new who a b r
    → TellsLimit held r
held_tells old new held who a b (Ok count) is h =
    let k = held_of old new held h.given h.more is h.consumed in
    let all = whole_held h.given h.more k.rest held k.held_is h.within h.all.0 (ended new k.rest k.new_is h.all.1) in
    subst (λ (l : List ℕ). length l ≤ max_stream) (sym all) h.within
held_tells old new held who a b (Err (refusal.Torn at)) is h =
    let k = held_of old new held h.given h.more is h.consumed in
    let all = whole_held h.given h.more k.rest held k.held_is h.within h.all.0 (ended new k.rest k.new_is h.all.1) in
    subst (λ (l : List ℕ). length l ≤ max_stream) (sym all) h.within
held_tells old new held who a b (Err (refusal.TooLong taken)) is h =
    let k = held_of old new held h.given h.more is h.consumed in
    let len = ap length k.held_is in
    let some = h.all.0 in
    let full = h.all.1 in
    omega (arith, length-append (h.given ++ h.more) k.rest, length-append h.given h.more)
held_tells old new held who a b (Err (refusal.BadCommand at word)) is h = tt
held_tells old new held who a b (Err (refusal.BadLength at len)) is h = tt
held_tells old new held who a b (Err refusal.Spent) is h = tt
held_tells old new held who a b (Err refusal.ReadFault) is h = tt
held_tells old new held who a b (Err refusal.WriteFault) is h = tt
held_tells old new held who a b (Err refusal.NoMemory) is h = tt
