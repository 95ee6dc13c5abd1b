-- A text is read from its q form, and a word from which it is read is that form.
use Rattle.std.proofs.Common.{◌≡◌, ◌≢◌, ℕ, ◌/◌, ◌%◌, ◌<◌, Bool, true, false, ◌&&◌, ◌==◌, cond, IsTrue, List, [], ◌∷◌, ◌++◌, length, Option, Some, None, MatchOption, Result, Ok, Err, IfOk, refl, sym, ap, subst, ◌∙◌, append_assoc, append-nil, arith}
use Rattle.std.proofs.lemmas.Bool.{ltb-true}
use Rattle.std.proofs.lemmas.List.{append_cancel_left, flat_map_more}
use Rattle.std.proofs.lemmas.List.Concat.{flat_map-append}
use Rattle.std.proofs.lemmas.List.Folds.{list_all-append}
use Rattle.std.specs.Fmt.{digit_glyph}
use Rattle.std.specs.List.{flat_map, list_all}
use Rattle.std.specs.Str.{bytes_eq}
use Rattle.std.proofs.lemmas.Bool.Decides.{nat_tests}
use Rattle.std.specs.Cmp.Lexicographic.{same_text, other_text}
use Rattle.init_base.specs.Quoted.{is_byte, is_plain, hex_byte, quoted_byte, quoted, hex_value, between, spelled_from, spelled, unquoted}
use Rattle.std.specs.Cmp.{first_so, second_so}

-- ---- what a q form spells

hex_value-digit_glyph : (d : ℕ) → hex_value (digit_glyph true d) ≡ d
hex_value-digit_glyph d = grind (arith, nat_tests)

spelled_choice : (plain : Bool) (b : ℕ) (rest : List ℕ) → is_plain b ≡ plain
    → spelled_from between (cond plain (b ∷ []) (37 ∷ hex_byte true b) ++ rest) ≡ b ∷ spelled_from between rest
spelled_choice true b rest h =
    let other : (b == 37) ≡ false = grind (arith, nat_tests) in
    rw other refl
spelled_choice false b rest h =
    ap (λ v. v ∷ spelled_from between rest) (rw (hex_value-digit_glyph (b / 16), hex_value-digit_glyph (b % 16)) (omega arith))

spelled-quoted_bytes : (text rest : List ℕ) → spelled_from between (flat_map quoted_byte text ++ rest) ≡ text ++ spelled_from between rest
spelled-quoted_bytes [] rest = refl
spelled-quoted_bytes (b ∷ text) rest =
    ap (spelled_from between) (append_assoc (quoted_byte b) (flat_map quoted_byte text) rest)
    ∙ spelled_choice (is_plain b) b (flat_map quoted_byte text ++ rest) refl
    ∙ ap (λ t. b ∷ t) (spelled-quoted_bytes text rest)

pub spelled-bytes : (text : List ℕ) → spelled (flat_map quoted_byte text) ≡ text
spelled-bytes text =
    ap spelled (sym (append-nil (flat_map quoted_byte text))) ∙ spelled-quoted_bytes text [] ∙ append-nil text

spelled-quoted : (text : List ℕ) → spelled (quoted text) ≡ text
unfolding quoted
spelled-quoted [] = refl
spelled-quoted (b ∷ text) = spelled-bytes (b ∷ text)

-- ---- reading

bytes_eq-same : (xs : List ℕ) → bytes_eq xs xs ≡ true
bytes_eq-same xs =
    elim (bytes_eq xs xs) as (λ b. b ≡ bytes_eq xs xs → b ≡ true) [ true ↦ λ e. refl | false ↦ λ e. absurd (other_text xs xs e refl) ] refl

pub unquoted-quoted : (text : List ℕ) → IsTrue (list_all is_byte text) → unquoted (quoted text) ≡ Some text
unfolding unquoted
unquoted-quoted text bytes = rw (spelled-quoted text, bytes, bytes_eq-same (quoted text)) refl

from_test : (all same : Bool) (word spelling text : List ℕ) → same ≡ bytes_eq (quoted spelling) word
    → cond (all && same) (Some spelling) None ≡ Some text → word ≡ quoted text
from_test true true word spelling text e read =
    let is : spelling ≡ text = cc in sym (same_text (quoted spelling) word e) ∙ ap quoted is
from_test true false word spelling text e read = cc
from_test false same word spelling text e read = cc

pub quoted-unquoted : (word text : List ℕ) → unquoted word ≡ Some text → word ≡ quoted text
unfolding unquoted
quoted-unquoted word text read =
    from_test (list_all is_byte (spelled word)) (bytes_eq (quoted (spelled word)) word) word (spelled word) text refl read

all_bytes : (all same : Bool) (spelling text : List ℕ) → all ≡ list_all is_byte spelling
    → cond (all && same) (Some spelling) None ≡ Some text → IsTrue (list_all is_byte text)
all_bytes true true spelling text e read =
    let is : spelling ≡ text = cc in subst (λ t. IsTrue (list_all is_byte t)) is (sym e)
all_bytes true false spelling text e read = cc
all_bytes false same spelling text e read = cc

pub bytes-unquoted : (word text : List ℕ) → unquoted word ≡ Some text → IsTrue (list_all is_byte text)
unfolding unquoted
bytes-unquoted word text read =
    all_bytes (list_all is_byte (spelled word)) (bytes_eq (quoted (spelled word)) word) (spelled word) text refl read

-- a word from which no text is read is the q form of none
pub none_quoted : (word : List ℕ) → ((text : List ℕ) → IsTrue (list_all is_byte text) → word ≢ quoted text) → unquoted word ≡ None
unfolding unquoted
none_quoted word none =
    elim (unquoted word) as (λ o. unquoted word ≡ o → o ≡ None) [
      | None ↦ λ e. refl
      | Some text ↦ λ e. absurd (none text
          (all_bytes (list_all is_byte (spelled word)) (bytes_eq (quoted (spelled word)) word) (spelled word) text refl e)
          (quoted-unquoted word text e))
    ] refl

-- ---- reading byte by byte

cut : (bytes text rest : List ℕ) → flat_map quoted_byte bytes ++ rest ≡ flat_map quoted_byte text
    → (more : List ℕ) × (text ≡ bytes ++ more) × (rest ≡ flat_map quoted_byte more)
cut [] text rest e = (text, refl, e)
cut (b ∷ bytes) text rest e =
    let spelling : b ∷ bytes ++ spelled rest ≡ text =
    sym (spelled-quoted_bytes (b ∷ bytes) rest) ∙ ap spelled e ∙ spelled-bytes text in (
      spelled rest,
      sym spelling,
      append_cancel_left (flat_map quoted_byte (b ∷ bytes)) rest (flat_map quoted_byte (spelled rest))
          (e ∙ ap (flat_map quoted_byte) (sym spelling) ∙ flat_map-append quoted_byte (b ∷ bytes) (spelled rest)),
    )

-- no text is spelled where behind the bytes of one no byte is spelled
pub no_text : (word bytes rest text : List ℕ) → word ≡ flat_map quoted_byte bytes ++ rest → rest ≢ []
    → ((byte : ℕ) (behind : List ℕ) → byte < 256 → rest ≢ quoted_byte byte ++ behind)
    → IsTrue (list_all is_byte text) → word ≢ flat_map quoted_byte text
no_text word bytes rest text there some none all e = behind (cut bytes text rest (sym there ∙ e))
  where
    behind : ((more : List ℕ) × (text ≡ bytes ++ more) × (rest ≡ flat_map quoted_byte more)) → ⊥
    behind ([], whole, left) = some left
    behind (b ∷ more, whole, left) =
        let more_bytes : list_all is_byte (b ∷ more) ≡ true =
        second_so (list_all is_byte bytes) (list_all is_byte (b ∷ more))
        (sym (list_all-append is_byte bytes (b ∷ more)) ∙ ap (list_all is_byte) (sym whole) ∙ all) in
        none b (flat_map quoted_byte more) (ltb-true b 256 (first_so (is_byte b) (list_all is_byte more) more_bytes)) left

-- a byte more
pub one_more : (word bytes rest : List ℕ) (byte : ℕ) (behind : List ℕ) → word ≡ flat_map quoted_byte bytes ++ rest
    → rest ≡ quoted_byte byte ++ behind → word ≡ flat_map quoted_byte (bytes ++ byte ∷ []) ++ behind
one_more word bytes rest byte behind there next =
    there ∙ ap (λ r. flat_map quoted_byte bytes ++ r) next
    ∙ sym (append_assoc (flat_map quoted_byte bytes) (quoted_byte byte) behind)
    ∙ ap (λ r. r ++ behind) (flat_map_more quoted_byte [] bytes byte)

pub more_bytes : (bytes : List ℕ) (byte : ℕ) → IsTrue (list_all is_byte bytes) → byte < 256 → IsTrue (list_all is_byte (bytes ++ byte ∷ []))
more_bytes bytes byte all small =
    list_all-append is_byte bytes (byte ∷ []) ∙ rw all (grind (arith, nat_tests))

-- ---- whole words

-- where each byte stands for itself, the word is its own form
pub own_form : (word : List ℕ) → list_all is_plain word ≡ true → flat_map quoted_byte word ≡ word
own_form [] all = refl
own_form (b ∷ word) all =
    let plain : is_plain b ≡ true = first_so (is_plain b) (list_all is_plain word) all in
    rw plain (ap (λ w. b ∷ w) (own_form word (second_so (is_plain b) (list_all is_plain word) all)))

plain_bytes : (word : List ℕ) → list_all is_plain word ≡ true → list_all is_byte word ≡ true
plain_bytes [] all = refl
plain_bytes (b ∷ word) all =
    let plain : is_plain b ≡ true = first_so (is_plain b) (list_all is_plain word) all in
    let small : is_byte b ≡ true = grind (arith, nat_tests) in
    rw small (plain_bytes word (second_so (is_plain b) (list_all is_plain word) all))

pub empty_word : (word : List ℕ) → word ≡ [] → unquoted word ≡ None
unfolding unquoted quoted
empty_word word e = rw e refl

pub lone_sign : (word : List ℕ) → word ≡ 37 ∷ [] → unquoted word ≡ Some []
unfolding unquoted quoted
lone_sign word e = rw e refl

-- a text that isn't empty, by its bytes
bytes_quoted : (word text : List ℕ) → word ≢ [] → word ≡ flat_map quoted_byte text → word ≡ quoted text
unfolding quoted
bytes_quoted word [] some e = absurd (some e)
bytes_quoted word (b ∷ text) some e = e

quoted_bytes : (word text : List ℕ) → word ≢ 37 ∷ [] → word ≡ quoted text → word ≡ flat_map quoted_byte text
unfolding quoted
quoted_bytes word [] other e = absurd (other e)
quoted_bytes word (b ∷ text) other e = e

pub read_bytes : (word text : List ℕ) → word ≢ [] → IsTrue (list_all is_byte text) → word ≡ flat_map quoted_byte text
    → unquoted word ≡ Some text
read_bytes word text some all e =
    ap unquoted (bytes_quoted word text some e) ∙ unquoted-quoted text all

pub read_plain : (word : List ℕ) → word ≢ [] → list_all is_plain word ≡ true → unquoted word ≡ Some word
read_plain word some all = read_bytes word word some (plain_bytes word all) (sym (own_form word all))

pub read_none : (word : List ℕ) → word ≢ 37 ∷ []
    → ((text : List ℕ) → IsTrue (list_all is_byte text) → word ≢ flat_map quoted_byte text) → unquoted word ≡ None
read_none word other none = none_quoted word (λ text all e. none text all (quoted_bytes word text other e))

pub is_nil : (xs : List ℕ) → true ≡ (length xs == 0) → xs ≡ []
is_nil [] h = refl
is_nil (x ∷ xs) h = absurd (grind (arith, nat_tests))

pub isnt_nil : (xs : List ℕ) → false ≡ (length xs == 0) → xs ≢ []
isnt_nil xs h e = let same : false ≡ true = h ∙ ap (λ (ys : List ℕ). length ys == 0) e in cc

-- what was found byte by byte
abbrev pub IsSpelled : List ℕ → Option (List ℕ) → Type 0
IsSpelled word found = MatchOption found
    ((text : List ℕ) → IsTrue (list_all is_byte text) → word ≢ flat_map quoted_byte text)
    (λ text. IsTrue (list_all is_byte text) × (word ≡ flat_map quoted_byte text))

found_is_read : (word : List ℕ) (found : Option (List ℕ)) → word ≢ [] → word ≢ 37 ∷ [] → IsSpelled word found → found ≡ unquoted word
found_is_read word None some other none = sym (read_none word other none)
found_is_read word (Some text) some other is = sym (read_bytes word text some is.0 is.1)

pub spelled_is_read : {E : Type 0} (word : List ℕ) (result : Result (Option (List ℕ)) E) → word ≢ [] → word ≢ 37 ∷ []
    → IfOk result (IsSpelled word) → IfOk result (λ found. found ≡ unquoted word)
spelled_is_read word (Ok found) some other is = found_is_read word found some other is
spelled_is_read word (Err e) some other is = tt
