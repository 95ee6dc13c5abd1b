-- What is spelled is read.
use Rattle.std.proofs.Common.{◌≡◌, ℕ, ◌+◌, ◌-◌, ◌≤◌, Bool, true, false, List, [], ◌∷◌, ◌++◌, length, take, drop, slice_range, if◌then◌else◌, refl, ap, sym, ◌∙◌, arith, length-append}
use Rattle.std.specs.Bool.{MatchBool}
use Rattle.std.specs.Int.{w32, from_le_bytes}
use Rattle.std.proofs.lemmas.Bool.Decides.{nat_tests}
use Rattle.std.proofs.lemmas.List.{append_assoc, drop_at, take_at}
use Rattle.wire_format.specs.Format.{field_text, first, second, word_from}
use Rattle.wire_format.specs.Spelling.{message_len, IsWord, Spells, SpellsAll, SpellsFirst, SpellsSecond}
use Rattle.wire_format.specs.Wire.{first_message, front_by, front_of, second_message, shape_by, shape_of, whole, BeginsWith}
use Rattle.wire_format.specs.declared.message.Message.{Message}
use Rattle.wire_format.specs.declared.shape.Shape.TheVariants as shape

-- ---- parts of joined bytes

part_read : (before part more : List ℕ) (from to : ℕ) → length before ≡ from → from + length part ≡ to
    → slice_range (before ++ (part ++ more)) from to ≡ part
part_read before part more from to starts ends =
    let count : to - from ≡ length part = omega arith in
    ap (λ n. take n (drop from (before ++ (part ++ more)))) count
    ∙ ap (λ (l : List ℕ). take (length part) l) (drop_at before (part ++ more) from starts)
    ∙ take_at part more (length part) refl

word_read : (before word more : List ℕ) (at number : ℕ) → length before ≡ at → IsWord word number
    → word_from (before ++ (word ++ more)) at ≡ number
unfolding word_from
word_read before word more at number starts is =
    let len : length word ≡ 4 = is.len in
    ap (λ l. from_le_bytes w32 l) (part_read before word more at (at + 4) starts (omega arith)) ∙ is.is

abbrev pub message_of : Bool → List ℕ → List ℕ → Message
message_of second name value = record { second = second; name = name; value = value }

pub same_message : (message other : Message) → message.second ≡ other.second → message.name ≡ other.name → message.value ≡ other.value
    → message ≡ other
same_message message other of_second of_name of_value =
    ap (λ b. message_of b message.name message.value) of_second
    ∙ ap (λ l. message_of other.second l message.value) of_name
    ∙ ap (λ l. message_of other.second other.name l) of_value

-- ---- shapes

first_is : (have command name value : ℕ) → 128 ≤ have → command ≡ first → shape_by have command name value ≡ shape.First
first_is have command name value there is = grind (arith, nat_tests)

second_is : (have command name value : ℕ) → command ≡ second → name ≤ 1024 → value ≤ 8192 → 12 + name + value ≤ have
    → shape_by have command name value ≡ shape.Second name value
second_is have command name value is name_fits value_fits there = grind (arith, nat_tests)

-- ---- form one

first_len : (bytes : List ℕ) (message : Message) → SpellsFirst bytes message → length bytes ≡ 128
first_len bytes message spells =
    let of_command : length spells.command ≡ 4 = spells.command_is.len in
    ap length spells.joined ∙ simp length-append (omega (arith, spells.name_len, spells.value_len))

fields_read : (command name value more : List ℕ) → IsWord command first → length name ≡ 32 → length value ≡ 92
    → front_of (command ++ (name ++ (value ++ more))) ≡ whole (message_of false (field_text name) (field_text value)) more
unfolding front_of
fields_read command name value more is name_len value_len =
    let bytes : List ℕ = command ++ (name ++ (value ++ more)) in
    let of_command : length command ≡ 4 = is.len in
    let there : 128 ≤ length bytes = simp length-append (omega arith) in
    let shape_is : shape_of bytes ≡ shape.First
    = first_is (length bytes) (word_from bytes 0) (word_from bytes 4) (word_from bytes (8 + word_from bytes 4)) there
    (word_read [] command (name ++ (value ++ more)) 0 first refl is) in
    let of_name : slice_range bytes 4 36 ≡ name = part_read command name (value ++ more) 4 36 of_command (omega arith) in
    let by_value : bytes ≡ (command ++ name) ++ (value ++ more) = sym (append_assoc command name (value ++ more)) in
    let of_value : slice_range bytes 36 128 ≡ value
    = ap (λ (l : List ℕ). slice_range l 36 128) by_value
    ∙ part_read (command ++ name) value more 36 128 (simp length-append (omega arith)) (omega arith) in
    let by_more : bytes ≡ ((command ++ name) ++ value) ++ more = by_value ∙ sym (append_assoc (command ++ name) value more) in
    let left : drop 128 bytes ≡ more
    = ap (λ (l : List ℕ). drop 128 l) by_more ∙ drop_at ((command ++ name) ++ value) more 128 (simp length-append (omega arith)) in
    let message_is : first_message bytes ≡ message_of false (field_text name) (field_text value)
    = same_message (first_message bytes) (message_of false (field_text name) (field_text value)) refl (ap field_text of_name)
    (ap field_text of_value) in
    ap (λ s. front_by s bytes) shape_is ∙ cc (message_is, left)

-- what stands before the bytes that follow
joined_first : (command name value more : List ℕ) → (command ++ (name ++ value)) ++ more ≡ command ++ (name ++ (value ++ more))
joined_first command name value more = simp append_assoc

first_read : (bytes : List ℕ) (message : Message) (more : List ℕ) → message.second ≡ false → SpellsFirst bytes message
    → front_of (bytes ++ more) ≡ whole message more
first_read bytes message more of_second spells =
    ap (λ l. front_of (l ++ more)) spells.joined
    ∙ ap front_of (joined_first spells.command spells.name spells.value more)
    ∙ fields_read spells.command spells.name spells.value more spells.command_is spells.name_len spells.value_len
    ∙ ap (λ m. whole m more) (same_message (message_of false (field_text spells.name) (field_text spells.value)) message (sym of_second)
    spells.name_is spells.value_is)

-- ---- form two

second_len : (bytes : List ℕ) (message : Message) → SpellsSecond bytes message
    → length bytes ≡ 12 + length message.name + length message.value
second_len bytes message spells =
    let of_command : length spells.command ≡ 4 = spells.command_is.len in
    let of_name : length spells.name_len ≡ 4 = spells.name_len_is.len in
    let of_value : length spells.value_len ≡ 4 = spells.value_len_is.len in
    ap length spells.joined ∙ simp length-append (omega arith)

texts_read : (command name_len name value_len value more : List ℕ) → IsWord command second → IsWord name_len (length name)
    → IsWord value_len (length value)
    → length name ≤ 1024 → length value ≤ 8192
    → front_of (command ++ (name_len ++ (name ++ (value_len ++ (value ++ more))))) ≡ whole (message_of true name value) more
unfolding front_of
texts_read command name_len name value_len value more is name_is value_is name_fits value_fits =
    let bytes : List ℕ = command ++ (name_len ++ (name ++ (value_len ++ (value ++ more)))) in
    let of_command : length command ≡ 4 = is.len in
    let of_name_len : length name_len ≡ 4 = name_is.len in
    let of_value_len : length value_len ≡ 4 = value_is.len in
    let there : 12 + length name + length value ≤ length bytes = simp length-append (omega arith) in
    let command_read : word_from bytes 0 ≡ second = word_read [] command (name_len ++ (name ++ (value_len ++ (value ++ more)))) 0 second
    refl is in
    let name_len_read : word_from bytes 4 ≡ length name = word_read command name_len (name ++ (value_len ++ (value ++ more))) 4
    (length name) of_command name_is in
    let by_name : bytes ≡ (command ++ name_len) ++ (name ++ (value_len ++ (value ++ more)))
    = sym (append_assoc command name_len (name ++ (value_len ++ (value ++ more)))) in
    let by_value_len : bytes ≡ ((command ++ name_len) ++ name) ++ (value_len ++ (value ++ more))
    = by_name ∙ sym (append_assoc (command ++ name_len) name (value_len ++ (value ++ more))) in
    let by_value : bytes ≡ (((command ++ name_len) ++ name) ++ value_len) ++ (value ++ more)
    = by_value_len ∙ sym (append_assoc ((command ++ name_len) ++ name) value_len (value ++ more)) in
    let by_more : bytes ≡ ((((command ++ name_len) ++ name) ++ value_len) ++ value) ++ more
    = by_value ∙ sym (append_assoc (((command ++ name_len) ++ name) ++ value_len) value more) in
    let value_len_read : word_from bytes (8 + length name) ≡ length value
    = ap (λ l. word_from l (8 + length name)) by_value_len
    ∙ word_read ((command ++ name_len) ++ name) value_len (value ++ more) (8 + length name) (length value)
    (simp length-append (omega arith)) value_is in
    let shape_is : shape_of bytes ≡ shape.Second (length name) (length value)
    = ap (λ n. shape_by (length bytes) (word_from bytes 0) n (word_from bytes (8 + n))) name_len_read
    ∙ ap (λ n. shape_by (length bytes) (word_from bytes 0) (length name) n) value_len_read
    ∙ second_is (length bytes) (word_from bytes 0) (length name) (length value) command_read name_fits value_fits there in
    let of_name : slice_range bytes 8 (8 + length name) ≡ name
    = ap (λ (l : List ℕ). slice_range l 8 (8 + length name)) by_name
    ∙ part_read (command ++ name_len) name (value_len ++ (value ++ more)) 8 (8 + length name) (simp length-append (omega arith)) refl in
    let of_value : slice_range bytes (12 + length name) (12 + length name + length value) ≡ value
    = ap (λ (l : List ℕ). slice_range l (12 + length name) (12 + length name + length value)) by_value
    ∙ part_read (((command ++ name_len) ++ name) ++ value_len) value more (12 + length name) (12 + length name + length value)
    (simp length-append (omega arith)) refl in
    let left : drop (12 + length name + length value) bytes ≡ more
    = ap (λ (l : List ℕ). drop (12 + length name + length value) l) by_more
    ∙ drop_at ((((command ++ name_len) ++ name) ++ value_len) ++ value) more (12 + length name + length value)
    (simp length-append (omega arith)) in
    let message_is : second_message bytes (length name) (length value) ≡ message_of true name value
    = same_message (second_message bytes (length name) (length value)) (message_of true name value) refl of_name of_value in
    ap (λ s. front_by s bytes) shape_is ∙ cc (message_is, left)

joined_second : (command name_len name value_len value more : List ℕ)
    → (command ++ (name_len ++ (name ++ (value_len ++ value)))) ++ more ≡ command ++ (name_len ++ (name ++ (value_len ++ (value ++ more))))
joined_second command name_len name value_len value more = simp append_assoc

second_read : (bytes : List ℕ) (message : Message) (more : List ℕ) → message.second ≡ true → SpellsSecond bytes message
    → front_of (bytes ++ more) ≡ whole message more
second_read bytes message more of_second spells =
    ap (λ l. front_of (l ++ more)) spells.joined
    ∙ ap front_of (joined_second spells.command spells.name_len message.name spells.value_len message.value more)
    ∙ texts_read spells.command spells.name_len message.name spells.value_len message.value more
    spells.command_is spells.name_len_is spells.value_len_is spells.name_fits spells.value_fits
    ∙ ap (λ m. whole m more) (same_message (message_of true message.name message.value) message (sym of_second) refl refl)

-- ---- both

read_by : (b : Bool) (bytes : List ℕ) (message : Message) (more : List ℕ) → message.second ≡ b
    → MatchBool b (SpellsSecond bytes message) (SpellsFirst bytes message) → front_of (bytes ++ more) ≡ whole message more
read_by true bytes message more of_second spells = second_read bytes message more of_second spells
read_by false bytes message more of_second spells = first_read bytes message more of_second spells

pub spelled_read : (message : Message) (bytes more : List ℕ) → Spells bytes message → front_of (bytes ++ more) ≡ whole message more
spelled_read message bytes more spells = read_by message.second bytes message more refl spells

len_by : (b : Bool) (bytes : List ℕ) (message : Message) → MatchBool b (SpellsSecond bytes message) (SpellsFirst bytes message)
    → length bytes ≡ (if b then 12 + length message.name + length message.value else 128)
len_by true bytes message spells = second_len bytes message spells
len_by false bytes message spells = first_len bytes message spells

pub spelling_len : (message : Message) (bytes : List ℕ) → Spells bytes message → length bytes ≡ message_len message
spelling_len message bytes spells = len_by message.second bytes message spells

pub stream_read : (bytes : List ℕ) (messages : List Message) (left : List ℕ) → SpellsAll bytes messages left
    → BeginsWith bytes messages left
stream_read bytes [] left spells = spells
stream_read bytes (message ∷ messages) left spells =
    (spells.1, ap front_of spells.2 ∙ spelled_read message spells.0 spells.1 spells.3, stream_read spells.1 messages left spells.4)
