-- A line that is written is read.
use Rattle.std.proofs.Common.{◌≡◌, ℕ, zero, suc, ◌/◌, ◌%◌, ◌<◌, Bool, true, false, not, ◌&&◌, ◌==◌, cond, nat_eq, Option, Some, None, Ok, List, [], ◌∷◌, ◌++◌, slice_index, refl, ap, sym, ◌∙◌, subst, codes, arith}
use Rattle.std.specs.List.{flat_map, list_all, starts_with}
use Rattle.std.proofs.lemmas.Bool.{false≢true, and_parts, eqb-true, false_from_ne_true}
use Rattle.std.proofs.lemmas.Bool.Decides.{nat_tests}
use Rattle.std.proofs.lemmas.List.Folds.{list_all-append}
use Rattle.hex.specs.Hex.{IsBytes, encode_lower, encode_with, lower_digits, hex_digit_value}
use Rattle.hex.proofs.HexLemmas.{IsDigits-lower_digits}
use Rattle.init_base.specs.Name.{is_legal_name, is_name_byte, has_only_lone_dots}
use Rattle.init_base.specs.Quoted.{hex_byte, is_plain, quoted, quoted_byte}
use Rattle.init_base.specs.Value.{is_short_value}
use Rattle.init_base.proofs.QForms.{unquoted-quoted}
use Rattle.init_machine.specs.declared.config.Pair.{Pair}
use Rattle.persist_file.specs.Causes.{is_above, is_word, kind_named, line_reading, of_words, parts_at, value_in, words_in, Words}
use Rattle.persist_file.specs.Store.{Entry, has_kind, hex_text, is_fit, is_saved, is_saved_name, kind_word, line_text, passes}
use Rattle.persist_file.specs.declared.kind.SavedKind.{SavedKind}
use Rattle.persist_file.specs.declared.kind.SavedKind.TheVariants as kind
use Rattle.persist_file.specs.declared.version.Version.{Version}
use Rattle.persist_file.specs.declared.version.Version.TheVariants.{First, Second}
use Rattle.persist_file.proofs.Cuts.{lacks, parts_first, parts_none}
use Rattle.persist_file.proofs.Values.{byte_at, hex_read, join, legal_bytes}

-- ---- which bytes stand in the words of a line

-- neither a space nor an LF
abbrev is_inner : ℕ → Bool
is_inner byte = not (byte == 10) && not (byte == 32)

abbrev pub are_inner : List ℕ → Bool
are_inner text = list_all is_inner text

pub inner_lacks_end : (text : List ℕ) → are_inner text ≡ true → lacks 10 text ≡ true
inner_lacks_end [] h = refl
inner_lacks_end (b ∷ text) h =
    let parts = and_parts (is_inner b) (are_inner text) h in
    join (not (b == 10)) (lacks 10 text) (and_parts (not (b == 10)) (not (b == 32)) parts.0).0 (inner_lacks_end text parts.1)

pub inner_lacks_space : (text : List ℕ) → are_inner text ≡ true → lacks 32 text ≡ true
inner_lacks_space [] h = refl
inner_lacks_space (b ∷ text) h =
    let parts = and_parts (is_inner b) (are_inner text) h in
    join (not (b == 32)) (lacks 32 text) (and_parts (not (b == 10)) (not (b == 32)) parts.0).1 (inner_lacks_space text parts.1)

plain_inner : (b : ℕ) → is_plain b ≡ true → is_inner b ≡ true
plain_inner b h = grind (arith, nat_tests)

hex_inner : (b : ℕ) → are_inner (hex_byte true b) ≡ true
hex_inner b = grind (arith, nat_tests)

spelled_inner : (plain : Bool) (b : ℕ) → is_plain b ≡ plain → are_inner (cond plain (b ∷ []) (37 ∷ hex_byte true b)) ≡ true
spelled_inner true b h = rw (plain_inner b h) refl
spelled_inner false b h = hex_inner b

bytes_inner : (text : List ℕ) → are_inner (flat_map quoted_byte text) ≡ true
bytes_inner [] = refl
bytes_inner (b ∷ rest) =
    list_all-append is_inner (quoted_byte b) (flat_map quoted_byte rest)
    ∙ join (are_inner (quoted_byte b)) (are_inner (flat_map quoted_byte rest)) (spelled_inner (is_plain b) b refl) (bytes_inner rest)

pub quoted_inner : (text : List ℕ) → are_inner (quoted text) ≡ true
unfolding quoted
quoted_inner [] = refl
quoted_inner (b ∷ rest) = bytes_inner (b ∷ rest)

word_choice : (plain : Bool) (b : ℕ) (rest : List ℕ) → is_word (cond plain (b ∷ []) (37 ∷ hex_byte true b) ++ rest) ≡ true
word_choice true b rest = refl
word_choice false b rest = refl

quoted_word : (text : List ℕ) → is_word (quoted text) ≡ true
unfolding quoted
quoted_word [] = refl
quoted_word (b ∷ rest) = word_choice (is_plain b) b (flat_map quoted_byte rest)

name_byte_inner : (b : ℕ) → is_name_byte b ≡ true → is_inner b ≡ true
name_byte_inner b h = grind (arith, nat_tests)

name_bytes_inner : (name : List ℕ) → list_all is_name_byte name ≡ true → are_inner name ≡ true
name_bytes_inner [] h = refl
name_bytes_inner (b ∷ name) h =
    let parts = and_parts (is_name_byte b) (list_all is_name_byte name) h in
    join (is_inner b) (are_inner name) (name_byte_inner b parts.0) (name_bytes_inner name parts.1)

pub name_inner : (name : List ℕ) → is_legal_name name ≡ true → are_inner name ≡ true
name_inner name h = name_bytes_inner name (and_parts _ (list_all is_name_byte name) (and_parts _ (has_only_lone_dots name) h).0).1

name_word : (name : List ℕ) → is_legal_name name ≡ true → is_word name ≡ true
name_word [] h = absurd (false≢true h)
name_word (b ∷ name) h = refl

digit_differs : (d c : ℕ) → d < 16 → hex_digit_value c ≡ None → (slice_index lower_digits d == c) ≡ false
digit_differs d c low none = false_from_ne_true _ (λ e.
    let is : slice_index lower_digits d ≡ c = eqb-true _ c e in
    let read : hex_digit_value (slice_index lower_digits d) ≡ Some d = IsDigits-lower_digits d low in
    let other : None ≡ Some d = sym none ∙ subst (λ b. hex_digit_value b ≡ Some d) is read in
    absurd (cc other))

digit_inner : (d : ℕ) → d < 16 → is_inner (slice_index lower_digits d) ≡ true
digit_inner d low =
    join (not (slice_index lower_digits d == 10)) (not (slice_index lower_digits d == 32)) (ap not (digit_differs d 10 low refl)) (ap not (digit_differs d 32 low refl))

tail_bytes : (b : ℕ) (rest : List ℕ) → IsBytes (b ∷ rest) → IsBytes rest
tail_bytes b rest h i = h (suc i)

digits_inner : (bytes : List ℕ) → IsBytes bytes → are_inner (encode_lower bytes) ≡ true
unfolding encode_with
digits_inner [] h = refl
digits_inner (b ∷ rest) h =
    let small : b < 256 = h zero in
    join (is_inner (slice_index lower_digits (b / 16))) _ (digit_inner (b / 16) (omega arith))
    (join (is_inner (slice_index lower_digits (b % 16))) _ (digit_inner (b % 16) (omega arith)) (digits_inner rest (tail_bytes b rest h)))

hex_text_inner : (value : List ℕ) → is_short_value value ≡ true → are_inner (hex_text value) ≡ true
hex_text_inner [] h = refl
hex_text_inner (b ∷ rest) h = digits_inner (b ∷ rest) (byte_at (b ∷ rest) (legal_bytes (b ∷ rest) h))

hex_text_word : (value : List ℕ) → is_word (hex_text value) ≡ true
unfolding encode_with
hex_text_word [] = refl
hex_text_word (b ∷ rest) = refl

kind_inner : (k : SavedKind) → are_inner (kind_word k) ≡ true
kind_inner kind.Any = refl
kind_inner kind.Bool = refl
kind_inner kind.Int = refl
kind_inner kind.Uint = refl
kind_inner kind.Enum = refl

kind_is_word : (k : SavedKind) → is_word (kind_word k) ≡ true
kind_is_word kind.Any = refl
kind_is_word kind.Bool = refl
kind_is_word kind.Int = refl
kind_is_word kind.Uint = refl
kind_is_word kind.Enum = refl

pub kind_read : (k : SavedKind) → kind_named (kind_word k) ≡ Some k
kind_read kind.Any = refl
kind_read kind.Bool = refl
kind_read kind.Int = refl
kind_read kind.Uint = refl
kind_read kind.Enum = refl

-- ---- a pair that may be saved

pub record Saved (p : Pair) : Type 0 where
  pub name : is_legal_name p.name ≡ true
  pub saved_name : is_saved_name p.name ≡ true
  pub value : is_short_value p.value ≡ true

pub saved_parts : (p : Pair) → is_saved p ≡ true → Saved p
saved_parts p h =
    let parts = and_parts (is_saved_name p.name) (is_short_value p.value) h in
    record { name = (and_parts (is_legal_name p.name) (starts_with nat_eq p.name (codes "persist.")) parts.0).0; saved_name = parts.0; value = parts.1 }

-- a line has no LF inside
pub line_lacks : (version : Version) (e : Entry) → is_saved e.pair ≡ true → lacks 10 (line_text version e) ≡ true
line_lacks First e h =
    let saved = saved_parts e.pair h in
    list_all-append (λ b. not (b == 10)) e.pair.name (32 ∷ hex_text e.pair.value)
    ∙ join (lacks 10 e.pair.name) (lacks 10 (hex_text e.pair.value)) (inner_lacks_end e.pair.name (name_inner e.pair.name saved.name)) (inner_lacks_end (hex_text e.pair.value) (hex_text_inner e.pair.value saved.value))
line_lacks Second e h =
    let saved = saved_parts e.pair h in
    let behind : lacks 10 (kind_word e.kind ++ 32 ∷ quoted e.pair.value) ≡ true =
    list_all-append (λ b. not (b == 10)) (kind_word e.kind) (32 ∷ quoted e.pair.value)
    ∙ join (lacks 10 (kind_word e.kind)) (lacks 10 (quoted e.pair.value)) (inner_lacks_end (kind_word e.kind) (kind_inner e.kind)) (inner_lacks_end (quoted e.pair.value) (quoted_inner e.pair.value)) in
    list_all-append (λ b. not (b == 10)) e.pair.name (32 ∷ (kind_word e.kind ++ 32 ∷ quoted e.pair.value))
    ∙ join (lacks 10 e.pair.name) (lacks 10 (kind_word e.kind ++ 32 ∷ quoted e.pair.value)) (inner_lacks_end e.pair.name (name_inner e.pair.name saved.name)) behind

-- ---- its words

abbrev words : List ℕ → List ℕ → List ℕ → Words
words name kind value = record { name = name; kind = kind; value = value }

-- the word of a value
abbrev pub written : Version → List ℕ → List ℕ
written First value = hex_text value
written Second value = quoted value

-- a line's words are its name, its type and its value
words_read : (version : Version) (e : Entry) → is_saved e.pair ≡ true → has_kind version e.kind ≡ true
    → words_in version (line_text version e) ≡ Some (words e.pair.name (kind_word e.kind) (written version e.pair.value))
words_read First e h has = by e.kind refl has
  where
    parts : Saved e.pair → parts_at 32 (e.pair.name ++ 32 ∷ hex_text e.pair.value) ≡ e.pair.name ∷ hex_text e.pair.value ∷ []
    parts saved =
        parts_first 32 e.pair.name (hex_text e.pair.value) (inner_lacks_space e.pair.name (name_inner e.pair.name saved.name))
        ∙ ap (λ ps. e.pair.name ∷ ps) (parts_none 32 (hex_text e.pair.value) (inner_lacks_space (hex_text e.pair.value) (hex_text_inner e.pair.value saved.value)))

    any : words_in First (line_text First e) ≡ Some (words e.pair.name (codes "any") (hex_text e.pair.value))
    any =
        let saved = saved_parts e.pair h in
        rw (parts saved, name_word e.pair.name saved.name, hex_text_word e.pair.value) refl

    by : (k : SavedKind) → e.kind ≡ k → has_kind First k ≡ true → words_in First (line_text First e) ≡ Some (words e.pair.name (kind_word e.kind) (hex_text e.pair.value))
    by kind.Any is has = any ∙ ap (λ k. Some (words e.pair.name (kind_word k) (hex_text e.pair.value))) (sym is)
    by kind.Bool is has = absurd (false≢true has)
    by kind.Int is has = absurd (false≢true has)
    by kind.Uint is has = absurd (false≢true has)
    by kind.Enum is has = absurd (false≢true has)
words_read Second e h has =
    let saved = saved_parts e.pair h in
    let parts : parts_at 32 (line_text Second e) ≡ e.pair.name ∷ kind_word e.kind ∷ quoted e.pair.value ∷ [] =
    parts_first 32 e.pair.name (kind_word e.kind ++ 32 ∷ quoted e.pair.value) (inner_lacks_space e.pair.name (name_inner e.pair.name saved.name))
    ∙ ap (λ ps. e.pair.name ∷ ps) (parts_first 32 (kind_word e.kind) (quoted e.pair.value) (inner_lacks_space (kind_word e.kind) (kind_inner e.kind)))
    ∙ ap (λ ps. e.pair.name ∷ kind_word e.kind ∷ ps) (parts_none 32 (quoted e.pair.value) (inner_lacks_space (quoted e.pair.value) (quoted_inner e.pair.value))) in
    rw (parts, name_word e.pair.name saved.name, kind_is_word e.kind, quoted_word e.pair.value) refl

value_read : (version : Version) (value : List ℕ) → is_short_value value ≡ true → value_in version (written version value) ≡ Some value
value_read First value h = hex_read value h
value_read Second value h = unquoted-quoted value (legal_bytes value h)

-- ---- a line

pub line_read : (version : Version) (before : Option (List ℕ)) (e : Entry) → is_saved e.pair ≡ true → is_fit version e ≡ true → is_above before e.pair.name ≡ true
    → line_reading version before (line_text version e) ≡ Ok e.pair
line_read version before e h fit above =
    let saved = saved_parts e.pair h in
    let parts = and_parts (has_kind version e.kind) (passes e.kind e.pair.value) fit in
    ap (of_words version before) (words_read version e h parts.0)
    ∙ rw (saved.saved_name, above, kind_read e.kind, value_read version e.pair.value saved.value, saved.value, parts.1) refl
