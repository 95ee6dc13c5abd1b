-- What a feeder answers to a piece.
use Rattle.std.proofs.Common.{◌≡◌, ℕ, ◌+◌, ◌≤◌, ◌⊎◌, ⊎_elim, true, List, ◌++◌, length, Ok, Err, refl, ap, sym, ◌∙◌, inl, inr, arith}
use Rattle.std.proofs.lemmas.Bool.{cases_Bool, both_ways}
use Rattle.wire_format.specs.Feeding.{tail, Feeding, Feeds, IsOnly}
use Rattle.wire_format.specs.Format.{word_from}
use Rattle.wire_format.specs.Wire.{front_by, front_of, is_open, no_message, shape_of, unfinished, waits, IsThere, Wire}
use Rattle.wire_format.specs.declared.message.Message.{Message}
use Rattle.wire_format.specs.declared.message.Rest.{Rest}
use Rattle.wire_format.specs.declared.message.Rest.TheVariants as rest
use Rattle.wire_format.specs.declared.refusal.FeedRefusal.TheVariants as refusal
use Rattle.wire_format.specs.declared.shape.Shape.{Shape}
use Rattle.wire_format.specs.declared.shape.Shape.TheVariants as shape
use Rattle.wire_format.specs.internal.Pieces.{ReadsOn}
use Rattle.wire_format.proofs.Fronts.{shape_there}
use Rattle.wire_format.proofs.Streams.{one_way}
use Rattle.wire_format.proofs.Tails.{closed}

-- ---- what waits

waiting_by : (s : Shape) (bytes : List ℕ) → waits s ≡ true → front_by s bytes ≡ no_message (unfinished bytes)
waiting_by shape.First bytes waiting = cc
waiting_by (shape.Second name value) bytes waiting = cc
waiting_by (shape.Wants len) bytes waiting = refl
waiting_by (shape.BadCommand word) bytes waiting = cc
waiting_by (shape.BadLength len) bytes waiting = cc

waiting_front : (bytes : List ℕ) → waits (shape_of bytes) ≡ true → front_of bytes ≡ no_message (unfinished bytes)
unfolding front_of
waiting_front bytes = waiting_by (shape_of bytes) bytes

few_by : (s : Shape) (have : ℕ) → waits s ≡ true → IsThere have s → have ≤ 9227
few_by shape.First have waiting there = cc
few_by (shape.Second name value) have waiting there = cc
few_by (shape.Wants len) have waiting there = let lt = there.0 in let le = there.1 in omega arith
few_by (shape.BadCommand word) have waiting there = cc
few_by (shape.BadLength len) have waiting there = cc

open_waits : (bytes : List ℕ) (last : Rest) → front_of bytes ≡ no_message last → is_open last ≡ true → waits (shape_of bytes) ≡ true
open_waits bytes last front may = elim (cases_Bool (waits (shape_of bytes))) [
  | inl waiting ↦ waiting
  | inr told ↦ absurd (both_ways (is_open last) (closed bytes last told front) may)
]

pub is_open_of : (last : Rest) → (last ≡ rest.End) ⊎ ((have : ℕ) × (last ≡ rest.Torn have)) → is_open last ≡ true
is_open_of last is = ⊎_elim (λ (end : last ≡ rest.End). ap is_open end) (λ (torn : (have : ℕ) × (last ≡ rest.Torn have)). ap is_open torn.1) is

pub kept_waits : (stream : List ℕ) (messages : List Message) (had : List ℕ) (last : Rest) → ReadsOn stream messages had last → is_open last ≡ true
    → waits (shape_of had) ≡ true
kept_waits stream messages had last reads may = open_waits had last (ap front_of (reads.kept may) ∙ reads.rests) may

pub kept_few : (stream : List ℕ) (messages : List Message) (had : List ℕ) (last : Rest) → ReadsOn stream messages had last → is_open last ≡ true → length had ≤ 9227
kept_few stream messages had last reads may =
    few_by (shape_of had) (length had) (kept_waits stream messages had last reads may)
    (shape_there (length had) (word_from had 0) (word_from had 4) (word_from had (8 + word_from had 4)))

-- ---- what is answered

pub feeds_on : (fed : Feeding) (had piece : List ℕ) (messages : List Message) (after : List ℕ) (last : Rest) → fed ≡ tail had
    → ReadsOn (had ++ piece) messages after last → is_open last ≡ true → Feeds fed piece (Ok messages) (tail after)
feeds_on fed had piece messages after last is reads may =
    rw is (reads.left, record { begins = reads.begins; rests = (rw (sym (reads.kept may)) (waiting_front after (kept_waits (had ++ piece) messages after last reads may))) }, ap tail (reads.kept may))

one_answer : (bytes : List ℕ) (messages : List Message) (after : List ℕ) (last : Rest) (others : List Message) (other : Rest)
    → ReadsOn bytes messages after last → Wire bytes others other → (messages ≡ others) × (last ≡ other)
one_answer bytes messages after last others other reads wire =
    one_way bytes messages reads.left last others wire.left other reads.begins reads.rests wire.begins wire.rests

pub only_open : (fed : Feeding) (had piece : List ℕ) (messages : List Message) (after : List ℕ) (last : Rest) → fed ≡ tail had
    → ReadsOn (had ++ piece) messages after last → is_open last ≡ true → IsOnly fed piece (Ok messages)
only_open fed had piece messages after last is reads may = rw is (λ others other wire.
    let same = one_answer (had ++ piece) messages after last others other reads wire in (same.0, ap is_open (sym same.1) ∙ may))

pub only_command : (fed : Feeding) (had piece : List ℕ) (messages : List Message) (after : List ℕ) (last : Rest) (word : ℕ) → fed ≡ tail had
    → ReadsOn (had ++ piece) messages after last → last ≡ rest.BadCommand word → IsOnly fed piece (Err (refusal.BadCommand messages word))
only_command fed had piece messages after last word is reads bad = rw is (λ others other wire.
    let same = one_answer (had ++ piece) messages after last others other reads wire in (same.0, sym same.1 ∙ bad))

pub only_length : (fed : Feeding) (had piece : List ℕ) (messages : List Message) (after : List ℕ) (last : Rest) (len : ℕ) → fed ≡ tail had
    → ReadsOn (had ++ piece) messages after last → last ≡ rest.BadLength len → IsOnly fed piece (Err (refusal.BadLength messages len))
only_length fed had piece messages after last len is reads bad = rw is (λ others other wire.
    let same = one_answer (had ++ piece) messages after last others other reads wire in (same.0, sym same.1 ∙ bad))
