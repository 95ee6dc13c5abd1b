-- Pieces of a stream, and the stream that they join to.
use Rattle.std.proofs.Common.{◌≡◌, ℕ, zero, suc, ◌+◌, ◌<◌, ◌≤◌, List, [], ◌∷◌, ◌++◌, length, drop, refl, ap, ◌∙◌, arith}
use Rattle.std.proofs.lemmas.List.{append-nil, append_assoc, length-drop, nil_from_length}
use Rattle.wire_format.specs.Feeding.{answers_of, bytes_of, Fed, IsFedTo, LeavesTail}
use Rattle.wire_format.specs.Format.{word_from}
use Rattle.wire_format.specs.Wire.{front_by, front_of, no_message, shape_of, unfinished, whole, BeginsWith, Front, IsThere, Wire}
use Rattle.wire_format.specs.declared.message.Message.{Message}
use Rattle.wire_format.specs.declared.message.Rest.{Rest}
use Rattle.wire_format.specs.declared.message.Rest.TheVariants as rest
use Rattle.wire_format.specs.declared.shape.Shape.{Shape}
use Rattle.wire_format.specs.declared.shape.Shape.TheVariants as shape
use Rattle.wire_format.proofs.Fronts.{shape_there}
use Rattle.wire_format.proofs.Streams.{begins_join, begins_stays, one_way}

pub same_messages : (bytes : List ℕ) (messages others : List Message) (last other : Rest) → Wire bytes messages last → Wire bytes others other → messages ≡ others
same_messages bytes messages others last other wire also =
    (one_way bytes messages wire.left last others also.left other wire.begins wire.rests also.begins also.rests).0

pub same_rest : (bytes : List ℕ) (messages others : List Message) (last other : Rest) → Wire bytes messages last → Wire bytes others other → last ≡ other
same_rest bytes messages others last other wire also =
    (one_way bytes messages wire.left last others also.left other wire.begins wire.rests also.begins also.rests).1

-- ---- pieces

-- what is answered behind a tail is answered behind any stream that left it
pub fed_from : (stream had : List ℕ) (before : List Message) (fed : List Fed) (left : List ℕ) → BeginsWith stream before had → IsFedTo had fed left
    → BeginsWith (stream ++ bytes_of fed) (before ++ answers_of fed) left
fed_from stream had before [] left begins fed =
    let same : BeginsWith stream before left = rw fed begins in rw (append-nil stream, append-nil before) same
fed_from stream had before (one ∷ more) left begins fed =
    let feeds = fed.1 in
    let leaves = feeds.1 in
    let next_is : fed.0 ≡ feeds.0 = cc (feeds.2) in
    let goes_on : BeginsWith (had ++ one.piece) one.messages fed.0 = rw next_is leaves.begins in
    let step : BeginsWith (stream ++ one.piece) (before ++ one.messages) fed.0
    = begins_join (stream ++ one.piece) before (had ++ one.piece) one.messages fed.0 (begins_stays stream before had one.piece begins) goes_on in
    let all : BeginsWith (stream ++ one.piece ++ bytes_of more) (before ++ one.messages ++ answers_of more) left
    = fed_from (stream ++ one.piece) fed.0 (before ++ one.messages) more left step fed.2 in
    rw (append_assoc stream one.piece (bytes_of more), append_assoc before one.messages (answers_of more)) at all

-- the tail is always less than a message
tail_rests : (had : List ℕ) (fed : List Fed) (left : List ℕ) → front_of had ≡ no_message (unfinished had) → IsFedTo had fed left
    → front_of left ≡ no_message (unfinished left)
tail_rests had [] left rests fed = rw fed rests
tail_rests had (one ∷ more) left rests fed =
    let feeds = fed.1 in
    let leaves = feeds.1 in
    let next_is : fed.0 ≡ feeds.0 = cc (feeds.2) in
    let next_rests : front_of fed.0 ≡ no_message (unfinished fed.0) = rw next_is leaves.rests in
    tail_rests fed.0 more left next_rests fed.2

nothing_rests : front_of [] ≡ no_message (unfinished [])
unfolding front_of
nothing_rests = refl

pub joined : (fed : List Fed) (left : List ℕ) → IsFedTo [] fed left → LeavesTail (bytes_of fed) (answers_of fed) left
joined fed left is = record { begins = fed_from [] [] [] fed left refl is; rests = tail_rests [] fed left nothing_rests is }

pub joined_more : (fed : List Fed) (left piece : List ℕ) (messages : List Message) (last : Rest) → IsFedTo [] fed left
    → Wire (left ++ piece) messages last → Wire (bytes_of fed ++ piece) (answers_of fed ++ messages) last
joined_more fed left piece messages last is wire = record {
  left = wire.left;
  begins = begins_join (bytes_of fed ++ piece) (answers_of fed) (left ++ piece) messages wire.left
      (begins_stays (bytes_of fed) (answers_of fed) left piece (joined fed left is).begins) wire.begins;
  rests = wire.rests;
}

-- ---- each stream has a reading

shorter_by : (s : Shape) (bytes : List ℕ) (message : Message) (left : List ℕ) → IsThere (length bytes) s → front_by s bytes ≡ whole message left
    → length left < length bytes
shorter_by shape.First bytes message left there is = let drops : left ≡ drop 128 bytes = cc in rw drops (omega (arith, length-drop 128 bytes))
shorter_by (shape.Second name value) bytes message left there is =
    let drops : left ≡ drop (12 + name + value) bytes = cc in rw drops (omega (arith, length-drop (12 + name + value) bytes))
shorter_by (shape.Wants len) bytes message left there is = cc
shorter_by (shape.BadCommand word) bytes message left there is = cc
shorter_by (shape.BadLength len) bytes message left there is = cc

whole_shorter : (bytes : List ℕ) (message : Message) (left : List ℕ) → front_of bytes ≡ whole message left → length left < length bytes
unfolding front_of
whole_shorter bytes message left = shorter_by (shape_of bytes) bytes message left
    (shape_there (length bytes) (word_from bytes 0) (word_from bytes 4) (word_from bytes (8 + word_from bytes 4)))

abbrev pub HasReading : List ℕ → Type 0
HasReading bytes = (messages : List Message) × (last : Rest) × Wire bytes messages last

by_front : (found : Front) (bytes : List ℕ) (n : ℕ) → front_of bytes ≡ found → length bytes ≤ n + 1
    → ((left : List ℕ) → length left ≤ n → HasReading left) → HasReading bytes
by_front (no_message last) bytes n is le shorter = ([], last, record { left = bytes; begins = refl; rests = is })
by_front (whole message left) bytes n is le shorter =
    let lt : length left < length bytes = whole_shorter bytes message left is in
    let more = shorter left (omega arith) in
    let wire = more.2 in
    (message ∷ more.0, more.1, record { left = wire.left; begins = (left, is, wire.begins); rests = wire.rests })

reading_within : (n : ℕ) (bytes : List ℕ) → length bytes ≤ n → HasReading bytes
reading_within zero bytes le = ([], rest.End, record { left = bytes; begins = refl; rests = ap front_of (nil_from_length bytes (omega arith)) ∙ nothing_rests })
reading_within (suc n) bytes le = by_front (front_of bytes) bytes n refl (omega arith) (λ left short. reading_within n left short)

pub some_reading : (bytes : List ℕ) → HasReading bytes
some_reading bytes = reading_within (length bytes) bytes (omega arith)
