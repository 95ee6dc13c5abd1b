-- Messages at the front of bytes.
use Rattle.std.proofs.Common.{◌≡◌, ℕ, List, [], ◌∷◌, ◌++◌, drop, refl, subst, sym, ap, ◌∙◌}
use Rattle.wire_format.specs.Wire.{BeginsWith, front_of, whole, no_message}
use Rattle.wire_format.specs.declared.message.Rest.{Rest}
use Rattle.wire_format.proofs.Fronts.{whole_stays}
use Rattle.wire_format.specs.internal.Pieces.{IsFront}
use Rattle.wire_format.specs.declared.reading.Front.{Front as Read}
use Rattle.wire_format.specs.declared.reading.Front.TheVariants as read
use Rattle.wire_format.specs.declared.message.Message.{Message}

-- one message more
pub begins_more : (bytes : List ℕ) (messages : List Message) (left : List ℕ) (message : Message) (next : List ℕ)
    → BeginsWith bytes messages left → front_of left ≡ whole message next → BeginsWith bytes (messages ++ message ∷ []) next
begins_more bytes [] left message next begins front = (next, ap front_of begins ∙ front, refl)
begins_more bytes (first ∷ more) left message next begins front = (begins.0, begins.1, begins_more begins.0 more left message next begins.2 front)

-- the same, by what a read at the front answers
pub begins_at : (stream : List ℕ) (messages after : List Message) (left next : List ℕ) (message : Message) (len : ℕ)
    → BeginsWith stream messages left → front_of left ≡ whole message (drop len left) → after ≡ messages ++ message ∷ []
    → next ≡ drop len left → BeginsWith stream after next
begins_at stream messages after left next message len begins front is_after is_next =
    let more : BeginsWith stream (messages ++ message ∷ []) (drop len left) = begins_more stream messages left message (drop len left) begins front in
    rw is_after (rw is_next more)

-- a whole message that a read answers is there
pub read_front : (bytes seen : List ℕ) (found : Read) (message : Message) (len : ℕ) → seen ≡ bytes → found ≡ read.Whole message len → IsFront seen found
    → front_of bytes ≡ whole message (drop len bytes)
read_front bytes seen found message len same is there =
    ap front_of (sym same) ∙ (subst (λ (f : Read). IsFront seen f) is there).0 ∙ ap (λ l. whole message (drop len l)) same

-- bytes that are added stand behind what is left
pub begins_stays : (bytes : List ℕ) (messages : List Message) (left more : List ℕ) → BeginsWith bytes messages left → BeginsWith (bytes ++ more) messages (left ++ more)
begins_stays bytes [] left more begins = ap (λ l. l ++ more) begins
begins_stays bytes (message ∷ messages) left more begins =
    (begins.0 ++ more, whole_stays bytes more message begins.0 begins.1, begins_stays begins.0 messages left more begins.2)

-- messages behind messages
pub begins_join : (bytes : List ℕ) (messages : List Message) (left : List ℕ) (others : List Message) (end : List ℕ)
    → BeginsWith bytes messages left → BeginsWith left others end → BeginsWith bytes (messages ++ others) end
begins_join bytes [] left others end begins goes_on = rw begins goes_on
begins_join bytes (message ∷ messages) left others end begins goes_on =
    (begins.0, begins.1, begins_join begins.0 messages left others end begins.2 goes_on)

-- a stream is read in one way
pub one_way : (bytes : List ℕ) (messages : List Message) (left : List ℕ) (last : Rest) (others : List Message) (end : List ℕ) (other : Rest)
    → BeginsWith bytes messages left → front_of left ≡ no_message last → BeginsWith bytes others end → front_of end ≡ no_message other
    → (messages ≡ others) × (last ≡ other)
one_way bytes [] left last [] end other begins rests also also_rests = let fronts : no_message last ≡ no_message other = cc (ap front_of begins, ap front_of also) in (refl, cc)
one_way bytes [] left last (message ∷ more) end other begins rests also also_rests = absurd (let front : no_message last ≡ whole message also.0 = cc (ap front_of begins, also.1) in cc)
one_way bytes (message ∷ more) left last [] end other begins rests also also_rests = absurd (let front : no_message other ≡ whole message begins.0 = cc (ap front_of also, begins.1) in cc)
one_way bytes (message ∷ more) left last (next ∷ others) end other begins rests also also_rests =
    let fronts : whole message begins.0 ≡ whole next also.0 = sym begins.1 ∙ also.1 in
    let messages_are : message ≡ next = cc in
    let bytes_are : also.0 ≡ begins.0 = cc in
    let again : (more ≡ others) × (last ≡ other)
    = one_way begins.0 more left last others end other begins.2 rests (subst (λ l. BeginsWith l others end) bytes_are also.2) also_rests in
    let tails : more ≡ others = again.0 in
    (cc, again.1)
