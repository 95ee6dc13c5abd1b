-- Which bytes spell a message, in terms of neither reading nor `encode`; and what holds of spellings.
use Rattle.std.specs.Prelude.{◌≡◌, ℕ, ◌+◌, ◌<◌, ◌≤◌, true, if◌then◌else◌, List, [], ◌∷◌, ◌++◌, length, slice_index, sum_by, Some}
use Rattle.std.specs.Bool.{MatchBool}
use Rattle.std.specs.Int.{w32, from_le_bytes}
use Rattle.wire_format.specs.Format.{encoded, field_text, first, second}
use Rattle.wire_format.specs.Wire.{front_of, whole, BeginsWith}
use Rattle.wire_format.specs.declared.message.Message.{Message}

-- four bytes, lowest first
pub record IsWord (bytes : List ℕ) (number : ℕ) : Type 0 where
  pub len : length bytes ≡ 4
  pub is : from_le_bytes w32 bytes ≡ number

-- form one: the command and two fields. What is in a field after its text's end is free
pub record SpellsFirst (bytes : List ℕ) (message : Message) : Type 0 where
  pub command : List ℕ
  pub name : List ℕ
  pub value : List ℕ
  pub joined : bytes ≡ command ++ (name ++ value)
  pub command_is : IsWord command first
  pub name_len : length name ≡ 32
  pub name_is : field_text name ≡ message.name
  pub value_len : length value ≡ 92
  pub value_is : field_text value ≡ message.value

-- form two: the command, and each text after its length
pub record SpellsSecond (bytes : List ℕ) (message : Message) : Type 0 where
  pub command : List ℕ
  pub name_len : List ℕ
  pub value_len : List ℕ
  pub joined : bytes ≡ command ++ (name_len ++ (message.name ++ (value_len ++ message.value)))
  pub command_is : IsWord command second
  pub name_len_is : IsWord name_len (length message.name)
  pub value_len_is : IsWord value_len (length message.value)
  pub name_fits : length message.name ≤ 1024
  pub value_fits : length message.value ≤ 8192

-- the bytes are a spelling of the message, in its form
abbrev pub Spells : List ℕ → Message → Type 0
Spells bytes message = MatchBool message.second (SpellsSecond bytes message) (SpellsFirst bytes message)

-- the bytes are spellings of these messages, joined, and then what is left
abbrev pub SpellsAll : List ℕ → List Message → List ℕ → Type 0
SpellsAll bytes [] left = bytes ≡ left
SpellsAll bytes (message ∷ more) left =
    (spelling : List ℕ) × (next : List ℕ) × (bytes ≡ spelling ++ next) × Spells spelling message × SpellsAll next more left

-- how many bytes spell it
abbrev pub message_len : Message → ℕ
message_len message = if message.second then 12 + length message.name + length message.value else 128

-- ---- what is spelled is read

-- what `encode` gives is read as the message, whatever bytes follow
abbrev pub EncodedIsRead : Type 0
EncodedIsRead = (message : Message) (bytes more : List ℕ) → encoded message ≡ Some bytes → front_of (bytes ++ more) ≡ whole message more

-- so is each of its spellings
abbrev pub SpelledIsRead : Type 0
SpelledIsRead = (message : Message) (bytes more : List ℕ) → Spells bytes message → front_of (bytes ++ more) ≡ whole message more

abbrev pub SpelledStreamIsRead : Type 0
SpelledStreamIsRead = (bytes : List ℕ) (messages : List Message) (left : List ℕ) → SpellsAll bytes messages left
    → BeginsWith bytes messages left

-- ---- what is read is spelled

-- a message that is read is spelled by the bytes before those that follow it
abbrev pub ReadIsSpelled : Type 0
ReadIsSpelled = (bytes : List ℕ) (message : Message) (more : List ℕ) → front_of bytes ≡ whole message more
    → (spelling : List ℕ) × (bytes ≡ spelling ++ more) × Spells spelling message

abbrev pub ReadStreamIsSpelled : Type 0
ReadStreamIsSpelled = (bytes : List ℕ) (messages : List Message) (left : List ℕ) → BeginsWith bytes messages left
    → SpellsAll bytes messages left

-- a message of form two has one spelling, which `encode` gives
abbrev pub SecondIsEncoded : Type 0
SecondIsEncoded = (message : Message) (bytes : List ℕ) → ((i : ℕ) → slice_index bytes i < 256) → message.second ≡ true
    → Spells bytes message
    → encoded message ≡ Some bytes

-- ---- places

-- each spelling has its message's length
abbrev pub SpellingsHaveLengths : Type 0
SpellingsHaveLengths = (message : Message) (bytes : List ℕ) → Spells bytes message → length bytes ≡ message_len message

-- what is left after messages begins where their lengths add up to
abbrev pub LengthsGivePlaces : Type 0
LengthsGivePlaces = (bytes : List ℕ) (messages : List Message) (left : List ℕ) → BeginsWith bytes messages left
    → length bytes ≡ sum_by message_len messages + length left
