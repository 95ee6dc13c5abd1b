-- A stream of messages has one reading, so one status.
use Rattle.std.proofs.Common.{◌≡◌, ℕ, ◌+◌, ◌<◌, ◌≤◌, nat_lt, IsTrue, List, [], ◌∷◌, length, sym, ap, ◌∙◌, subst, arith, sum_by}
use Rattle.std.proofs.lemmas.Bool.{cond-false, cond-true, le-ltb, lt-ltb}
use Rattle.std.proofs.lemmas.List.{take_all}
use Rattle.init_machine.specs.State.{Opening}
use Rattle.init_machine.specs.declared.limit.Limit.TheVariants as limits
use Rattle.job_reader.specs.declared.status.Status.{Status}
use Rattle.job_reader.specs.declared.status.Status.TheVariants as status
use Rattle.prop_wire.specs.Limit.{max_stream, stream_of}
use Rattle.wire_format.proofs.Joining.{same_messages, same_rest}
use Rattle.wire_format.proofs.Readings.{stream_len}
use Rattle.wire_format.specs.Spelling.{message_len}
use Rattle.wire_format.specs.Wire.{BeginsWith, Wire, is_open, whole}
use Rattle.wire_format.specs.declared.message.Message.{Message}
use Rattle.wire_format.specs.declared.message.Rest.{Rest}
use Rattle.wire_format.specs.declared.message.Rest.TheVariants as rest
use Rattle.init_forms.specs.Serving.{AreMessages, IsAnsweredStream, stream_status, unless_too_long}

-- ---- the status of a stream

-- a stream ends with this status, whatever the replies to it are
pub record IsStreamStatus (bytes : List ℕ) (how : Status) : Type 0 where
  pub messages : List Message
  pub last : Rest
  pub wire : Wire (stream_of bytes) messages last
  pub place : ℕ
  pub place_is : place + length wire.left ≡ length (stream_of bytes)
  pub how_is : how ≡ stream_status last place (length bytes)

pub answered_status : (o : Opening) (bytes : List ℕ) (how : Status) (replies : List ℕ) → IsAnsweredStream o bytes how replies → IsStreamStatus bytes how
answered_status o bytes how replies is = record {
  messages = is.messages;
  last = is.last;
  wire = is.wire;
  place = is.place;
  place_is = is.place_is;
  how_is = is.how_is;
}

same_left : (bytes : List ℕ) (messages : List Message) (left end : List ℕ) → BeginsWith bytes messages left → BeginsWith bytes messages end → left ≡ end
same_left bytes [] left end begins also = sym begins ∙ also
same_left bytes (message ∷ more) left end begins also =
    let fronts : whole message begins.0 ≡ whole message also.0 = sym begins.1 ∙ also.1 in
    let next : also.0 ≡ begins.0 = cc in
    same_left begins.0 more left end begins.2 (subst (λ l. BeginsWith l more end) next also.2)

same_place : (place next left end all : ℕ) → place + left ≡ all → next + end ≡ all → left ≡ end → place ≡ next
same_place place next left end all one other same = omega arith

pub one_stream_status : (bytes : List ℕ) (s t : Status) → IsStreamStatus bytes s → IsStreamStatus bytes t → s ≡ t
one_stream_status bytes s t one other =
    let stream = stream_of bytes in
    let messages : one.messages ≡ other.messages = same_messages stream one.messages other.messages one.last other.last one.wire other.wire in
    let last : one.last ≡ other.last = same_rest stream one.messages other.messages one.last other.last one.wire other.wire in
    let begins : BeginsWith stream other.messages one.wire.left = subst (λ (m : List Message). BeginsWith stream m one.wire.left) messages one.wire.begins in
    let left : one.wire.left ≡ other.wire.left = same_left stream other.messages one.wire.left other.wire.left begins other.wire.begins in
    let place : one.place ≡ other.place = same_place one.place other.place (length one.wire.left) (length other.wire.left) (length stream) one.place_is other.place_is (ap length left) in
    one.how_is
    ∙ ap (λ (l : Rest). stream_status l one.place (length bytes)) last
    ∙ ap (λ (p : ℕ). stream_status other.last p (length bytes)) place
    ∙ sym other.how_is

-- ---- how long it is

pub short_stream : (many : ℕ) (how : Status) → many ≤ max_stream → unless_too_long many how ≡ how
short_stream many how short = cond-false (nat_lt max_stream many) _ how (le-ltb max_stream many short)

long_stream : (many : ℕ) (how : Status) → max_stream < many → unless_too_long many how ≡ status.TooLarge limits.ScriptBytes (max_stream + 1)
long_stream many how long = cond-true (nat_lt max_stream many) _ how (lt-ltb max_stream many long)

-- a stream that is too long, before anything bad in it
pub open_stream : (last : Rest) (place many : ℕ) → IsTrue (is_open last) → max_stream < many
    → stream_status last place many ≡ status.TooLarge limits.ScriptBytes (max_stream + 1)
open_stream rest.End place many is long = long_stream many status.Done long
open_stream (rest.Torn have) place many is long = long_stream many (status.BadWire place) long
open_stream (rest.BadCommand word) place many is long = cc
open_stream (rest.BadLength len) place many is long = cc

-- ---- messages, and nothing after them

-- a stream of messages alone is done
pub messages_are_done : (bytes : List ℕ) → AreMessages bytes → IsStreamStatus bytes status.Done
messages_are_done bytes are =
    let all : bytes ≡ stream_of bytes = sym (take_all max_stream bytes are.short) in
    let wire : Wire (stream_of bytes) are.messages rest.End = subst (λ (b : List ℕ). Wire b are.messages rest.End) all are.wire in
    record {
      messages = are.messages;
      last = rest.End;
      wire = wire;
      place = sum_by message_len are.messages;
      place_is = sym (stream_len (stream_of bytes) are.messages wire.left wire.begins);
      how_is = sym (short_stream (length bytes) status.Done are.short);
    }
