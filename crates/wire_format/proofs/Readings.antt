-- What is read is spelled.
use Rattle.std.proofs.Common.{◌≡◌, ℕ, ◌+◌, ◌-◌, ◌≤◌, nat_lt, ◌==◌, List, [], ◌∷◌, ◌++◌, length, drop, slice_range, refl, ap, sym, subst, ◌∙◌, arith, length-append, sum_by}
use Rattle.std.specs.Bool.{⊤}
use Rattle.std.proofs.lemmas.Bool.{cond_both, eqb-true, ltb-false}
use Rattle.std.proofs.lemmas.List.{append_assoc, drop-drop, length-drop, length-take-le, take-append-drop}
use Rattle.std.proofs.lemmas.List.Sums.{sum_by-cons}
use Rattle.wire_format.specs.Format.{first, second, word_from}
use Rattle.wire_format.specs.Spelling.{message_len, IsWord, Spells, SpellsAll, SpellsFirst, SpellsSecond}
use Rattle.wire_format.specs.Wire.{first_message, first_shape, front_by, front_of, second_message, second_shape, shape_by, shape_of, value_shape, whole, BeginsWith, IsThere}
use Rattle.wire_format.specs.declared.message.Message.{Message}
use Rattle.wire_format.specs.declared.shape.Shape.{Shape}
use Rattle.wire_format.specs.declared.shape.Shape.TheVariants as shape
use Rattle.wire_format.proofs.Fronts.{shape_there}
use Rattle.wire_format.proofs.Spellings.{spelling_len}

-- ---- what the words were

-- the words that a whole message's shape was told by
abbrev IsToldBy : ℕ → ℕ → ℕ → Shape → Type 0
IsToldBy command name value shape.First = command ≡ first
IsToldBy command name value (shape.Second name_len value_len) =
    (command ≡ second) × (name ≡ name_len) × (value ≡ value_len) × (name_len ≤ 1024) × (value_len ≤ 8192)
IsToldBy command name value (shape.Wants len) = ⊤
IsToldBy command name value (shape.BadCommand word) = ⊤
IsToldBy command name value (shape.BadLength len) = ⊤

value_told : (have command name value : ℕ) → command ≡ second → name ≤ 1024 → IsToldBy command name value (value_shape have name value)
value_told have command name value is small =
    cond_both (nat_lt have (12 + name)) _ _ (λ s. IsToldBy command name value s) (λ _. tt)
    (λ _. cond_both (nat_lt 8192 value) _ _ (λ s. IsToldBy command name value s) (λ _. tt)
    (λ fits. cond_both (nat_lt have (12 + name + value)) _ _ (λ s. IsToldBy command name value s) (λ _. tt)
    (λ _. (is, refl, refl, small, ltb-false _ _ fits))))

second_told : (have command name value : ℕ) → command ≡ second → IsToldBy command name value (second_shape have name value)
second_told have command name value is =
    cond_both (nat_lt have 8) _ _ (λ s. IsToldBy command name value s) (λ _. tt)
    (λ _. cond_both (nat_lt 1024 name) _ _ (λ s. IsToldBy command name value s) (λ _. tt)
    (λ fits. value_told have command name value is (ltb-false _ _ fits)))

first_told : (have command name value : ℕ) → command ≡ first → IsToldBy command name value (first_shape have)
first_told have command name value is = cond_both (nat_lt have 128) _ _ (λ s. IsToldBy command name value s) (λ _. tt) (λ _. is)

shape_told : (have command name value : ℕ) → IsToldBy command name value (shape_by have command name value)
shape_told have command name value =
    cond_both (nat_lt have 4) _ _ (λ s. IsToldBy command name value s) (λ _. tt)
    (λ _. cond_both (command == first) _ _ (λ s. IsToldBy command name value s) (λ is. first_told have command name value (eqb-true _ _ is))
    (λ _. cond_both (command == second) _ _ (λ s. IsToldBy command name value s)
    (λ is. second_told have command name value (eqb-true _ _ is)) (λ _. tt)))

-- ---- parts of bytes

part_len : (bytes : List ℕ) (from to : ℕ) → from ≤ to → to ≤ length bytes → length (slice_range bytes from to) ≡ to - from
part_len bytes from to order there = length-take-le (to - from) (drop from bytes) (omega (arith, length-drop from bytes))

cut : (bytes : List ℕ) (from to : ℕ) → from ≤ to → drop from bytes ≡ slice_range bytes from to ++ drop to bytes
cut bytes from to order =
    let sum : from + (to - from) ≡ to = omega arith in
    sym (take-append-drop (to - from) (drop from bytes))
    ∙ ap (λ (l : List ℕ). slice_range bytes from to ++ l) (drop-drop (to - from) from bytes ∙ ap (λ n. drop n bytes) sum)

word_there : (bytes : List ℕ) (at number : ℕ) → at + 4 ≤ length bytes → word_from bytes at ≡ number
    → IsWord (slice_range bytes at (at + 4)) number
unfolding word_from
word_there bytes at number there is = record { len = part_len bytes at (at + 4) (omega arith) there ∙ omega arith; is = is }

-- ---- a message

abbrev pub IsSpelled : List ℕ → Message → List ℕ → Type 0
IsSpelled bytes message more = (spelling : List ℕ) × (bytes ≡ spelling ++ more) × Spells spelling message

first_spelled : (bytes : List ℕ) → 128 ≤ length bytes → word_from bytes 0 ≡ first → IsSpelled bytes (first_message bytes) (drop 128 bytes)
first_spelled bytes there is =
    let command : List ℕ = slice_range bytes 0 4 in
    let name : List ℕ = slice_range bytes 4 36 in
    let value : List ℕ = slice_range bytes 36 128 in
    let all : bytes ≡ command ++ (name ++ (value ++ drop 128 bytes))
    = cut bytes 0 4 (omega arith) ∙ ap (λ (l : List ℕ). command ++ l)
    (cut bytes 4 36 (omega arith) ∙ ap (λ (l : List ℕ). name ++ l) (cut bytes 36 128 (omega arith))) in
    let spelled : SpellsFirst (command ++ (name ++ value)) (first_message bytes) = record {
      command = command;
      name = name;
      value = value;
      joined = refl;
      command_is = word_there bytes 0 first (omega arith) is;
      name_len = part_len bytes 4 36 (omega arith) (omega arith);
      name_is = refl;
      value_len = part_len bytes 36 128 (omega arith) there;
      value_is = refl;
    } in
    (command ++ (name ++ value), all ∙ simp append_assoc, spelled)

second_spelled : (bytes : List ℕ) (name_len value_len : ℕ) → 12 + name_len + value_len ≤ length bytes → word_from bytes 0 ≡ second
    → word_from bytes 4 ≡ name_len → word_from bytes (8 + name_len) ≡ value_len → name_len ≤ 1024 → value_len ≤ 8192
    → IsSpelled bytes (second_message bytes name_len value_len) (drop (12 + name_len + value_len) bytes)
second_spelled bytes name_len value_len there is name_is value_is name_fits value_fits =
    let command : List ℕ = slice_range bytes 0 4 in
    let of_name : List ℕ = slice_range bytes 4 8 in
    let name : List ℕ = slice_range bytes 8 (8 + name_len) in
    let of_value : List ℕ = slice_range bytes (8 + name_len) (12 + name_len) in
    let value : List ℕ = slice_range bytes (12 + name_len) (12 + name_len + value_len) in
    let left : List ℕ = drop (12 + name_len + value_len) bytes in
    let name_count : length name ≡ name_len = part_len bytes 8 (8 + name_len) (omega arith) (omega arith) ∙ omega arith in
    let value_count : length value ≡ value_len = part_len bytes (12 + name_len) (12 + name_len + value_len) (omega arith) there
    ∙ omega arith in
    let at_value : 8 + name_len + 4 ≡ 12 + name_len = omega arith in
    let all : bytes ≡ command ++ (of_name ++ (name ++ (of_value ++ (value ++ left))))
    = cut bytes 0 4 (omega arith) ∙ ap (λ (l : List ℕ). command ++ l) (cut bytes 4 8 (omega arith)
    ∙ ap (λ (l : List ℕ). of_name ++ l) (cut bytes 8 (8 + name_len) (omega arith)
    ∙ ap (λ (l : List ℕ). name ++ l) (cut bytes (8 + name_len) (12 + name_len) (omega arith)
    ∙ ap (λ (l : List ℕ). of_value ++ l) (cut bytes (12 + name_len) (12 + name_len + value_len) (omega arith))))) in
    let spelled : SpellsSecond (command ++ (of_name ++ (name ++ (of_value ++ value)))) (second_message bytes name_len value_len) = record {
      command = command;
      name_len = of_name;
      value_len = of_value;
      joined = refl;
      command_is = word_there bytes 0 second (omega arith) is;
      name_len_is = word_there bytes 4 (length name) (omega arith) (name_is ∙ sym name_count);
      value_len_is = (let word : IsWord (slice_range bytes (8 + name_len) (8 + name_len + 4)) (length value)
          = word_there bytes (8 + name_len) (length value) (omega arith) (value_is ∙ sym value_count) in
          subst (λ n. IsWord (slice_range bytes (8 + name_len) n) (length value)) at_value word);
      name_fits = omega arith;
      value_fits = omega arith;
    } in
    (command ++ (of_name ++ (name ++ (of_value ++ value))), all ∙ simp append_assoc, spelled)

spelled_at : (bytes : List ℕ) (message other : Message) (more left : List ℕ) → whole message left ≡ whole other more
    → IsSpelled bytes message left → IsSpelled bytes other more
spelled_at bytes message other more left same spelled =
    let messages_are : message ≡ other = cc in
    let lefts_are : left ≡ more = cc in
    subst (λ m. IsSpelled bytes m more) messages_are (subst (λ l. IsSpelled bytes message l) lefts_are spelled)

spelled_by : (s : Shape) (bytes : List ℕ) (message : Message) (more : List ℕ) → IsThere (length bytes) s
    → IsToldBy (word_from bytes 0) (word_from bytes 4) (word_from bytes (8 + word_from bytes 4)) s → front_by s bytes ≡ whole message more
    → IsSpelled bytes message more
spelled_by shape.First bytes message more there told is = spelled_at bytes (first_message bytes) message more (drop 128 bytes) is
    (first_spelled bytes there told)
spelled_by (shape.Second name_len value_len) bytes message more there told is =
    let at : word_from bytes (8 + name_len) ≡ value_len = ap (λ n. word_from bytes (8 + n)) (sym told.1) ∙ told.2 in
    spelled_at bytes (second_message bytes name_len value_len) message more (drop (12 + name_len + value_len) bytes) is
    (second_spelled bytes name_len value_len there told.0 told.1 at told.3 told.4)
spelled_by (shape.Wants len) bytes message more there told is = cc
spelled_by (shape.BadCommand word) bytes message more there told is = cc
spelled_by (shape.BadLength len) bytes message more there told is = cc

pub read_spelled : (bytes : List ℕ) (message : Message) (more : List ℕ) → front_of bytes ≡ whole message more → IsSpelled bytes message more
unfolding front_of
read_spelled bytes message more = spelled_by (shape_of bytes) bytes message more
    (shape_there (length bytes) (word_from bytes 0) (word_from bytes 4) (word_from bytes (8 + word_from bytes 4)))
    (shape_told (length bytes) (word_from bytes 0) (word_from bytes 4) (word_from bytes (8 + word_from bytes 4)))

-- ---- a stream

pub stream_spelled : (bytes : List ℕ) (messages : List Message) (left : List ℕ) → BeginsWith bytes messages left
    → SpellsAll bytes messages left
stream_spelled bytes [] left begins = begins
stream_spelled bytes (message ∷ messages) left begins =
    let spelled = read_spelled bytes message begins.0 begins.1 in
    (spelled.0, begins.0, spelled.1, spelled.2, stream_spelled begins.0 messages left begins.2)

-- where the bytes that are left begin
pub stream_len : (bytes : List ℕ) (messages : List Message) (left : List ℕ) → BeginsWith bytes messages left
    → length bytes ≡ sum_by message_len messages + length left
stream_len bytes [] left begins = let same : length bytes ≡ length left = ap length begins in omega arith
stream_len bytes (message ∷ messages) left begins =
    let spelled = read_spelled bytes message begins.0 begins.1 in
    let one : length bytes ≡ length spelled.0 + length begins.0 = ap length spelled.1 ∙ length-append spelled.0 begins.0 in
    let len : length spelled.0 ≡ message_len message = spelling_len message spelled.0 spelled.2 in
    let rest : length begins.0 ≡ sum_by message_len messages + length left = stream_len begins.0 messages left begins.2 in
    let sum : sum_by message_len (message ∷ messages) ≡ message_len message + sum_by message_len messages
    = sum_by-cons message_len message messages in
    omega arith
