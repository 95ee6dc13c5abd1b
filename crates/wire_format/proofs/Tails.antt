-- Reading a piece behind a tail.
use Rattle.std.proofs.Common.{◌≡◌, ℕ, false, List, [], ◌∷◌, ◌++◌, drop, Result, Ok, Err, refl, ap, sym, subst, ◌∙◌, inl, inr}
use Rattle.std.specs.Prelude.{IfOk, IsTrue}
use Rattle.std.proofs.lemmas.Bool.{cases_Bool, both_ways}
use Rattle.std.proofs.lemmas.List.{append-nil}
use Rattle.wire_format.specs.Wire.{front_by, front_of, is_open, shape_of, waits, whole, no_message, BeginsWith}
use Rattle.wire_format.specs.declared.message.Message.{Message}
use Rattle.wire_format.specs.declared.message.Rest.{Rest}
use Rattle.wire_format.specs.declared.message.Rest.TheVariants as rest
use Rattle.wire_format.specs.declared.reading.Front.{Front as Read}
use Rattle.wire_format.specs.declared.reading.Front.TheVariants as read
use Rattle.wire_format.specs.declared.shape.Shape.{Shape}
use Rattle.wire_format.specs.declared.shape.Shape.TheVariants as shape
use Rattle.wire_format.specs.internal.Pieces.{IsFront, ReadsOn}
use Rattle.wire_format.proofs.Fronts.{added, front_stays, waiting_is_not_whole}

closed_by : (s : Shape) (bytes : List ℕ) (last : Rest) → waits s ≡ false → front_by s bytes ≡ no_message last → is_open last ≡ false
closed_by shape.First bytes last told is = cc
closed_by (shape.Second name value) bytes last told is = cc
closed_by (shape.Wants len) bytes last told is = cc
closed_by (shape.BadCommand word) bytes last told is = (let same : last ≡ rest.BadCommand word = cc in ap is_open same)
closed_by (shape.BadLength len) bytes last told is = (let same : last ≡ rest.BadLength len = cc in ap is_open same)

-- a rest for which nothing is waited is bad
pub closed : (bytes : List ℕ) (last : Rest) → waits (shape_of bytes) ≡ false → front_of bytes ≡ no_message last → is_open last ≡ false
unfolding front_of
closed bytes last = closed_by (shape_of bytes) bytes last

-- the tail is no message, and no byte is behind it if it waits for one
pub rest_reads : (stream tail behind : List ℕ) (messages : List Message) (last : Rest) → stream ≡ tail ++ behind
    → (IsTrue (waits (shape_of tail)) → behind ≡ []) → messages ≡ [] → front_of tail ≡ no_message last → ReadsOn stream messages tail last
rest_reads stream tail behind messages last is enough none front = elim (cases_Bool (waits (shape_of tail))) [
  | inl waiting ↦ record {
    left = tail;
    begins = (let all : stream ≡ tail = is ∙ ap (λ l. tail ++ l) (enough waiting) ∙ append-nil tail in rw none all);
    rests = front;
    kept = λ _. refl;
  }
  | inr told ↦ record {
    left = stream;
    begins = rw none refl;
    rests = ap front_of is ∙ front_stays tail behind told ∙ ap (added behind) front;
    kept = λ may. absurd (both_ways (is_open last) (closed tail last told front) may);
  }
]

-- the tail is a message with nothing behind it
pub whole_begins : (stream tail behind : List ℕ) (messages after : List Message) (message : Message) (len : ℕ) → stream ≡ tail ++ behind
    → ((other : Message) (left : List ℕ) → front_of tail ≡ whole other left → left ≡ []) → messages ≡ []
    → front_of tail ≡ whole message (drop len tail) → after ≡ messages ++ message ∷ [] → BeginsWith stream after behind
whole_begins stream tail behind messages after message len is exact none front is_after = elim (cases_Bool (waits (shape_of tail))) [
  | inl waiting ↦ absurd (waiting_is_not_whole tail message (drop len tail) waiting front)
  | inr told ↦
      (let at : front_of stream ≡ whole message (drop len tail ++ behind) = ap front_of is ∙ front_stays tail behind told ∙ ap (added behind) front in
      let all : front_of stream ≡ whole message behind = at ∙ ap (λ l. whole message (l ++ behind)) (exact message (drop len tail) front) in
      let one : after ≡ message ∷ [] = is_after ∙ ap (λ l. l ++ message ∷ []) none in
      rw one (behind, all, refl))
]

-- what holds of each Ok holds of this one
pub under_ok : {E : Type 0} (stream behind tail : List ℕ) (messages after : List Message) (result : Result Rest E)
    → IfOk result (λ last. (stream : List ℕ) → BeginsWith stream messages behind → ReadsOn stream after tail last)
    → BeginsWith stream messages behind → IfOk result (λ last. ReadsOn stream after tail last)
under_ok stream behind tail messages after (Ok last) reads begins = reads stream begins
under_ok stream behind tail messages after (Err why) reads begins = tt

-- a rest that a read answers is there
pub read_rest : (bytes seen : List ℕ) (found : Read) (last : Rest) → seen ≡ bytes → found ≡ read.Rest last → IsFront seen found → front_of bytes ≡ no_message last
read_rest bytes seen found last same is there = ap front_of (sym same) ∙ subst (λ (f : Read). IsFront seen f) is there
