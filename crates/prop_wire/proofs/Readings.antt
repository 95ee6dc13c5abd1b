-- What bytes that are added change of messages and a rest.
use Rattle.std.proofs.Common.{◌≡◌, ℕ, ◌+◌, true, false, nat_lt, ◌==◌, List, [], ◌∷◌, ◌++◌, length, refl, ap, sym, ◌∙◌, length-append}
use Rattle.std.proofs.lemmas.Bool.{both_ways, cond_both}
use Rattle.wire_format.specs.Feeding.{LeavesTail}
use Rattle.wire_format.specs.Format.{first, second, word_from}
use Rattle.wire_format.specs.Wire.{front_by, front_of, is_open, no_message, shape_by, unfinished, waits, BeginsWith, Wire}
use Rattle.wire_format.specs.declared.message.Message.{Message}
use Rattle.wire_format.specs.declared.message.Rest.{Rest}
use Rattle.wire_format.proofs.Fronts.{added, front_stays}
use Rattle.wire_format.proofs.Joining.{some_reading}
use Rattle.wire_format.proofs.Streams.{begins_join, begins_stays}

pub unfinished_is_open : (bytes : List ℕ) → is_open (unfinished bytes) ≡ true
unfinished_is_open [] = refl
unfinished_is_open (byte ∷ bytes) = refl

-- what is cut off isn't bad
not_bad : (bytes : List ℕ) (last : Rest) → is_open last ≡ false → no_message (unfinished bytes) ≡ no_message last → true ≡ false
not_bad bytes last bad is =
    let same : unfinished bytes ≡ last = cc in absurd (both_ways (is_open last) bad (ap is_open (sym same) ∙ unfinished_is_open bytes))

-- for a bad rest nothing is waited
bad_by : (bytes : List ℕ) (last : Rest) → is_open last ≡ false → (have command name value : ℕ)
    → front_by (shape_by have command name value) bytes ≡ no_message last → waits (shape_by have command name value) ≡ false
bad_by bytes last bad have command name value =
    cond_both (nat_lt have 4) _ _ (λ s. front_by s bytes ≡ no_message last → waits s ≡ false) (λ _ is. not_bad bytes last bad is)
    (λ _. cond_both (command == first) _ _ (λ s. front_by s bytes ≡ no_message last → waits s ≡ false)
    (λ _. cond_both (nat_lt have 128) _ _ (λ s. front_by s bytes ≡ no_message last → waits s ≡ false) (λ _ is. not_bad bytes last bad is) (λ _ _. refl))
    (λ _. cond_both (command == second) _ _ (λ s. front_by s bytes ≡ no_message last → waits s ≡ false)
    (λ _. cond_both (nat_lt have 8) _ _ (λ s. front_by s bytes ≡ no_message last → waits s ≡ false) (λ _ is. not_bad bytes last bad is)
    (λ _. cond_both (nat_lt 1024 name) _ _ (λ s. front_by s bytes ≡ no_message last → waits s ≡ false) (λ _ _. refl)
    (λ _. cond_both (nat_lt have (12 + name)) _ _ (λ s. front_by s bytes ≡ no_message last → waits s ≡ false) (λ _ is. not_bad bytes last bad is)
    (λ _. cond_both (nat_lt 8192 value) _ _ (λ s. front_by s bytes ≡ no_message last → waits s ≡ false) (λ _ _. refl)
    (λ _. cond_both (nat_lt have (12 + name + value)) _ _ (λ s. front_by s bytes ≡ no_message last → waits s ≡ false) (λ _ is. not_bad bytes last bad is) (λ _ _. refl))))))
    (λ _ _. refl)))

bad_stays : (bytes more : List ℕ) (last : Rest) → is_open last ≡ false → front_of bytes ≡ no_message last → front_of (bytes ++ more) ≡ no_message last
unfolding front_of
bad_stays bytes more last bad is =
    front_stays bytes more (bad_by bytes last bad (length bytes) (word_from bytes 0) (word_from bytes 4) (word_from bytes (8 + word_from bytes 4)) is)
    ∙ ap (added more) is

-- a bad rest stays
pub wire_stays : (bytes more : List ℕ) (messages : List Message) (last : Rest) → is_open last ≡ false → Wire bytes messages last
    → Wire (bytes ++ more) messages last
wire_stays bytes more messages last bad wire = record {
  left = wire.left ++ more;
  begins = begins_stays bytes messages wire.left more wire.begins;
  rests = bad_stays wire.left more last bad wire.rests;
}

pub stays_len : (bytes more : List ℕ) (messages : List Message) (last : Rest) (bad : is_open last ≡ false) (wire : Wire bytes messages last)
    → length (wire_stays bytes more messages last bad wire).left ≡ length wire.left + length more
unfolding wire_stays
stays_len bytes more messages last bad wire = length-append wire.left more

-- messages stay, and others may follow them
pub record ReadsOn (bytes : List ℕ) (messages : List Message) : Type 0 where
  pub others : List Message
  pub last : Rest
  pub wire : Wire bytes (messages ++ others) last

pub reads_on : (bytes more : List ℕ) (messages : List Message) (left : List ℕ) → BeginsWith bytes messages left → ReadsOn (bytes ++ more) messages
reads_on bytes more messages left begins =
    let next = some_reading (left ++ more) in record {
      others = next.0;
      last = next.1;
      wire = record {
        left = next.2.left;
        begins = begins_join (bytes ++ more) messages (left ++ more) next.0 next.2.left (begins_stays bytes messages left more begins) next.2.begins;
        rests = next.2.rests;
      };
    }

-- less than a message that is left is the rest
pub wire_of : (bytes : List ℕ) (messages : List Message) (left : List ℕ) → LeavesTail bytes messages left → Wire bytes messages (unfinished left)
wire_of bytes messages left leaves = record { left = left; begins = leaves.begins; rests = leaves.rests }
