-- What `encode` gives is a spelling, and the only one of form two.
use Rattle.std.proofs.Common.{◌≡◌, ℕ, zero, suc, ◌+◌, ◌-◌, ◌<◌, ◌≤◌, ◌^◌, Bool, true, false, cond, ◌==◌, nat_le, nat_lt, not, List, [], ◌∷◌, ◌++◌, length, take, replicate, get_or, Some, None, inl, inr, refl, ap, sym, subst, ◌∙◌, arith, length-append, one-add}
use Rattle.std.specs.List.{before_first, list_any}
use Rattle.std.proofs.lemmas.Bool.{and_from, and_parts, cases_lt, cond-true, le-leb, leb-true, ltb-true, not-true, or_parts, MatchBool-at_true}
use Rattle.std.proofs.lemmas.List.{append_assoc, get_or-append-add, get_or_append_left, get_or_past, length-replicate, replicate_more, take_at}
use Rattle.std.proofs.lemmas.Nat.{from_le_bytes-to_le_bytes_4, le_bytes_4}
use Rattle.wire_format.specs.Format.{behind_length, encoded, field_text, first, fits_field, fits_form, is_zero, message_bytes, padded, second, word_bytes}
use Rattle.wire_format.specs.Spelling.{IsWord, Spells, SpellsFirst, SpellsSecond}
use Rattle.wire_format.specs.Wire.{front_of, whole}
use Rattle.wire_format.specs.declared.message.Message.{Message}
use Rattle.wire_format.proofs.Spellings.{message_of, same_message, spelled_read}

-- ---- words and fields

word_is : (number : ℕ) → number < 2 ^ 32 → IsWord (word_bytes number) number
unfolding word_bytes
word_is number small = record { len = refl; is = from_le_bytes-to_le_bytes_4 number small }

text_before : (text : List ℕ) (count : ℕ) → list_any is_zero text ≡ false → before_first is_zero (text ++ replicate count 0) ≡ text
text_before [] zero none = refl
text_before [] (suc count) none = refl
text_before (byte ∷ text) count none =
    let parts = or_parts (is_zero byte) (list_any is_zero text) none in
    let test : (byte == 0) ≡ false = parts.0 in
    rw (test, one-add) (ap (λ (l : List ℕ). byte ∷ l) (text_before text count parts.1))

padded_len : (size : ℕ) (text : List ℕ) → length text ≤ size → length (padded size text) ≡ size
padded_len size text fits = simp (length-append, length-replicate) (omega arith)

-- the last byte of a field that is filled up
padded_last : (size count : ℕ) (text : List ℕ) → length text + count + 1 ≡ size → padded size text ≡ (text ++ replicate count 0) ++ (0 ∷ [])
padded_last size count text sum =
    let one_more : size - length text ≡ count + 1 = omega arith in
    ap (λ n. text ++ replicate n 0) one_more
    ∙ ap (λ (l : List ℕ). text ++ l) (sym (replicate_more count 0))
    ∙ sym (append_assoc text (replicate count 0) (0 ∷ []))

text_in_field : (size count : ℕ) (text : List ℕ) → length text + count + 1 ≡ size → list_any is_zero text ≡ false
    → field_text (padded size text) ≡ text
text_in_field size count text sum none =
    let front_len : length (text ++ replicate count 0) ≡ size - 1 = simp (length-append, length-replicate) (omega arith) in
    ap (λ n. before_first is_zero (take (n - 1) (padded size text))) (padded_len size text (omega arith))
    ∙ ap (λ (l : List ℕ). before_first is_zero (take (size - 1) l)) (padded_last size count text sum)
    ∙ ap (λ (l : List ℕ). before_first is_zero l) (take_at (text ++ replicate count 0) (0 ∷ []) (size - 1) front_len)
    ∙ text_before text count none

-- ---- each form

record IsFilled (size : ℕ) (text : List ℕ) : Type 0 where
  pub len : length (padded size text) ≡ size
  pub is : field_text (padded size text) ≡ text

filled : (size : ℕ) (text : List ℕ) → fits_field size text ≡ true → IsFilled size text
filled size text fits =
    let parts = and_parts (nat_lt (length text) size) (not (list_any is_zero text)) fits in
    let below : length text < size = ltb-true (length text) size parts.0 in
    record {
      len = padded_len size text (omega arith);
      is = text_in_field size (size - length text - 1) text (omega arith) (not-true (list_any is_zero text) parts.1);
    }

first_spells : (name value : List ℕ) → fits_form (message_of false name value) ≡ true
    → SpellsFirst (message_bytes (message_of false name value)) (message_of false name value)
first_spells name value fits =
    let parts = and_parts (fits_field 32 name) (fits_field 92 value) fits in
    let of_name = filled 32 name parts.0 in
    let of_value = filled 92 value parts.1 in
    record {
      command = word_bytes first;
      name = padded 32 name;
      value = padded 92 value;
      joined = append_assoc (word_bytes first) (padded 32 name) (padded 92 value);
      command_is = word_is first (omega arith);
      name_len = of_name.len;
      name_is = of_name.is;
      value_len = of_value.len;
      value_is = of_value.is;
    }

second_joined : (command name_len name value_len value : List ℕ)
    → command ++ (name_len ++ name) ++ (value_len ++ value) ≡ command ++ (name_len ++ (name ++ (value_len ++ value)))
second_joined command name_len name value_len value = simp append_assoc

second_spells : (name value : List ℕ) → fits_form (message_of true name value) ≡ true
    → SpellsSecond (message_bytes (message_of true name value)) (message_of true name value)
second_spells name value fits =
    let parts = and_parts (nat_le (length name) 1024) (nat_le (length value) 8192) fits in
    let name_fits : length name ≤ 1024 = leb-true (length name) 1024 parts.0 in
    let value_fits : length value ≤ 8192 = leb-true (length value) 8192 parts.1 in
    record {
      command = word_bytes second;
      name_len = word_bytes (length name);
      value_len = word_bytes (length value);
      joined = second_joined (word_bytes second) (word_bytes (length name)) name (word_bytes (length value)) value;
      command_is = word_is second (omega arith);
      name_len_is = word_is (length name) (omega arith);
      value_len_is = word_is (length value) (omega arith);
      name_fits = name_fits;
      value_fits = value_fits;
    }

-- ---- both

spells_by : (b : Bool) (name value : List ℕ) → fits_form (message_of b name value) ≡ true
    → Spells (message_bytes (message_of b name value)) (message_of b name value)
spells_by true name value fits = second_spells name value fits
spells_by false name value fits = first_spells name value fits

given_if : {X : Type 0} (b : Bool) (x y : X) → cond b (Some x) None ≡ Some y → (b ≡ true) × (x ≡ y)
given_if true x y is = (refl, cc)
given_if false x y is = cc

encoded_spells : (message : Message) (bytes : List ℕ) → encoded message ≡ Some bytes → Spells bytes message
encoded_spells message bytes is =
    let given = given_if (fits_form message) (message_bytes message) bytes is in
    subst (λ l. Spells l message) given.1 (spells_by message.second message.name message.value given.0)

pub encoded_read : (message : Message) (bytes more : List ℕ) → encoded message ≡ Some bytes → front_of (bytes ++ more) ≡ whole message more
encoded_read message bytes more is = spelled_read message bytes more (encoded_spells message bytes is)

-- ---- form two has one spelling

part_bytes : (before part more : List ℕ) → ((i : ℕ) → get_or (before ++ (part ++ more)) i 0 < 256) → (i : ℕ) → get_or part i 0 < 256
part_bytes before part more bytes i = elim (cases_lt i (length part)) [
  | inl within ↦
      (let at : get_or (before ++ (part ++ more)) (length before + i) 0 ≡ get_or part i 0
      = get_or-append-add before (part ++ more) i 0 ∙ get_or_append_left part more 0 i within in
      let below = bytes (length before + i) in omega arith)
  | inr past ↦ (let zero_is : get_or part i 0 ≡ 0 = get_or_past part i 0 past in omega arith)
]

word_spelled : (word : List ℕ) (number : ℕ) → ((i : ℕ) → get_or word i 0 < 256) → IsWord word number → word_bytes number ≡ word
unfolding word_bytes
word_spelled word number bytes is = le_bytes_4 word number is.len bytes (sym is.is)

second_bytes : (bytes : List ℕ) (message : Message) → ((i : ℕ) → get_or bytes i 0 < 256) → SpellsSecond bytes message
    → word_bytes second ++ behind_length message.name ++ behind_length message.value ≡ bytes
second_bytes bytes message are spells =
    let joined : bytes ≡ spells.command ++ (spells.name_len ++ (message.name ++ (spells.value_len ++ message.value))) = spells.joined in
    let all : (i : ℕ) → get_or (spells.command ++ (spells.name_len ++ (message.name ++ (spells.value_len ++ message.value)))) i 0 < 256
    = subst (λ (l : List ℕ). (i : ℕ) → get_or l i 0 < 256) joined are in
    let command_is : word_bytes second ≡ spells.command
    = word_spelled spells.command second (part_bytes [] spells.command
    (spells.name_len ++ (message.name ++ (spells.value_len ++ message.value))) all) spells.command_is in
    let name_len_is : word_bytes (length message.name) ≡ spells.name_len
    = word_spelled spells.name_len (length message.name) (part_bytes spells.command spells.name_len
    (message.name ++ (spells.value_len ++ message.value)) all) spells.name_len_is in
    let by_value : spells.command ++ (spells.name_len ++ (message.name ++ (spells.value_len ++ message.value)))
    ≡ (spells.command ++ (spells.name_len ++ message.name)) ++ (spells.value_len ++ message.value) = simp append_assoc in
    let value_len_is : word_bytes (length message.value) ≡ spells.value_len
    = word_spelled spells.value_len (length message.value) (part_bytes (spells.command ++ (spells.name_len ++ message.name))
    spells.value_len message.value
    (subst (λ (l : List ℕ). (i : ℕ) → get_or l i 0 < 256) by_value all)) spells.value_len_is in
    rw (command_is, name_len_is, value_len_is) (sym by_value ∙ sym joined)

second_fits : (name value : List ℕ) → length name ≤ 1024 → length value ≤ 8192 → fits_form (message_of true name value) ≡ true
second_fits name value name_fits value_fits =
    and_from (nat_le (length name) 1024) (nat_le (length value) 8192) (le-leb (length name) 1024 name_fits)
    (le-leb (length value) 8192 value_fits)

pub second_encoded : (message : Message) (bytes : List ℕ) → ((i : ℕ) → get_or bytes i 0 < 256) → message.second ≡ true
    → Spells bytes message
    → encoded message ≡ Some bytes
second_encoded message bytes are of_second either =
    let spells : SpellsSecond bytes message = MatchBool-at_true (SpellsSecond bytes message) (SpellsFirst bytes message) of_second either in
    ap encoded (same_message message (message_of true message.name message.value) of_second refl refl)
    ∙ cond-true (fits_form (message_of true message.name message.value)) (Some (message_bytes (message_of true message.name message.value)))
    None
    (second_fits message.name message.value spells.name_fits spells.value_fits)
    ∙ ap Some (second_bytes bytes message are spells)
