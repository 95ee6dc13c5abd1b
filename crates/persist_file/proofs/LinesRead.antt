-- A line that is read is a line that is written.
use Rattle.std.proofs.Common.{◌≡◌, ℕ, Bool, true, false, ◌&&◌, cond, Option, Some, None, Ok, Err, List, [], ◌∷◌, ◌++◌, refl, ap, sym, ◌∙◌, codes}
use Rattle.std.specs.List.{join_with_byte}
use Rattle.std.specs.Str.{bytes_eq}
use Rattle.std.specs.Cmp.Lexicographic.{same_text}
use Rattle.std.proofs.lemmas.Bool.{false≢true, and_parts}
use Rattle.std.proofs.lemmas.List.Splits.{join_with_byte-slice_split}
use Rattle.init_base.specs.Value.{is_short_value}
use Rattle.init_base.proofs.QForms.{quoted-unquoted}
use Rattle.init_machine.specs.Pairs.{pair}
use Rattle.init_machine.specs.declared.config.Pair.{Pair}
use Rattle.persist_file.specs.Causes.{is_above, kind_named, line_reading, of_words, parts_at, three_words, value_in, with_kind, with_value, words_in, words_of, Words}
use Rattle.persist_file.specs.Store.{entry, has_kind, is_fit, is_saved, is_saved_name, kind_word, line_text, passes}
use Rattle.persist_file.specs.declared.kind.SavedKind.{SavedKind}
use Rattle.persist_file.specs.declared.kind.SavedKind.TheVariants as kind
use Rattle.persist_file.specs.declared.refusal.StoreCause.TheVariants as cause
use Rattle.persist_file.specs.declared.version.Version.{Version}
use Rattle.persist_file.specs.declared.version.Version.TheVariants.{First, Second}
use Rattle.persist_file.proofs.Values.{hex_written, join}
use Rattle.persist_file.proofs.Written.{written}

-- ---- words

filled_is : (all : Bool) (w found : Words) → cond all (Some w) None ≡ Some found → w ≡ found
filled_is true w found h = cc h
filled_is false w found h = absurd (cc h)

record Three (name kind : List ℕ) (parts : List (List ℕ)) (found : Words) : Type 0 where
  value : List ℕ
  parts_are : parts ≡ value ∷ []
  is : found ≡ record { name = name; kind = kind; value = value }

three_is : (name kind : List ℕ) (parts : List (List ℕ)) (found : Words) → three_words name kind parts ≡ Some found → Three name kind parts found
three_is name kind [] found h = absurd (cc h)
three_is name kind (value ∷ []) found h = record { value = value; parts_are = refl; is = sym (filled_is _ _ found h) }
three_is name kind (value ∷ next ∷ more) found h = absurd (cc h)

-- the line of these words
abbrev joined : Version → Words → List ℕ
joined First w = w.name ++ 32 ∷ w.value
joined Second w = w.name ++ 32 ∷ (w.kind ++ 32 ∷ w.value)

-- what a line's words say of it
record Parts (version : Version) (line : List ℕ) (found : Words) : Type 0 where
  text : line ≡ joined version found
  kind : version ≡ First → found.kind ≡ codes "any"

parts_are : (version : Version) (line : List ℕ) (parts : List (List ℕ)) (found : Words) → join_with_byte 32 parts ≡ line → words_of version parts ≡ Some found → Parts version line found
parts_are First line [] found is h = absurd (cc h)
parts_are First line (name ∷ rest) found is h =
    let three = three_is name (codes "any") rest found h in
    record {
      text = sym is ∙ ap (λ ps. join_with_byte 32 (name ∷ ps)) three.parts_are ∙ ap (λ (w : Words). w.name ++ 32 ∷ w.value) (sym three.is);
      kind = (λ first. ap (λ (w : Words). w.kind) three.is);
    }
parts_are Second line [] found is h = absurd (cc h)
parts_are Second line (name ∷ []) found is h = absurd (cc h)
parts_are Second line (name ∷ kind ∷ rest) found is h =
    let three = three_is name kind rest found h in
    record {
      text = sym is ∙ ap (λ ps. join_with_byte 32 (name ∷ kind ∷ ps)) three.parts_are ∙ ap (λ (w : Words). w.name ++ 32 ∷ (w.kind ++ 32 ∷ w.value)) (sym three.is);
      kind = (λ first. absurd (cc first));
    }

kind_choice : (word text : List ℕ) (found k : SavedKind) (other : Option SavedKind) → kind_word found ≡ text → (other ≡ Some k → word ≡ kind_word k)
    → cond (bytes_eq word text) (Some found) other ≡ Some k → word ≡ kind_word k
kind_choice word text found k other is left h = by (bytes_eq word text) refl h
  where
    by : (same : Bool) → bytes_eq word text ≡ same → cond same (Some found) other ≡ Some k → word ≡ kind_word k
    by true e i = let same : found ≡ k = cc i in same_text word text (sym e) ∙ sym is ∙ ap kind_word same
    by false e i = left i

kind_written : (word : List ℕ) (k : SavedKind) → kind_named word ≡ Some k → word ≡ kind_word k
kind_written word k h =
    kind_choice word (codes "any") kind.Any k _ refl
    (kind_choice word (codes "bool") kind.Bool k _ refl
    (kind_choice word (codes "int") kind.Int k _ refl
    (kind_choice word (codes "uint") kind.Uint k _ refl
    (kind_choice word (codes "enum") kind.Enum k None refl (λ none. absurd (cc none)))))) h

value_written : (version : Version) (word value : List ℕ) → value_in version word ≡ Some value → word ≡ written version value
value_written First word value h = hex_written word value h
value_written Second word value h = quoted-unquoted word value h

-- ---- a line

pub record IsLine (version : Version) (before : Option (List ℕ)) (line : List ℕ) (p : Pair) : Type 0 where
  pub kind : SavedKind
  pub text : line ≡ line_text version (entry p kind)
  pub saved : is_saved p ≡ true
  pub fit : is_fit version (entry p kind) ≡ true
  pub above : is_above before p.name ≡ true

-- what the words of a line that is read say
record Fits (version : Version) (before : Option (List ℕ)) (w : Words) (p : Pair) : Type 0 where
  kind : SavedKind
  kind_is : w.kind ≡ kind_word kind
  name_is : w.name ≡ p.name
  value_is : w.value ≡ written version p.value
  named : is_saved_name p.name ≡ true
  above : is_above before p.name ≡ true
  legal : is_short_value p.value ≡ true
  passed : passes kind p.value ≡ true

record Valued (name : List ℕ) (k : SavedKind) (value : List ℕ) (p : Pair) : Type 0 where
  name_is : name ≡ p.name
  value_is : value ≡ p.value
  fits : (is_short_value value && passes k value) ≡ true

valued : (name : List ℕ) (k : SavedKind) (value : List ℕ) (p : Pair) → with_value name k (Some value) ≡ Ok p → Valued name k value p
valued name k value p h = by (is_short_value value && passes k value) refl h
  where
    by : (fits : Bool) → (is_short_value value && passes k value) ≡ fits → cond fits (Ok (pair name value)) (Err cause.Value) ≡ Ok p → Valued name k value p
    by true e i =
        let same : pair name value ≡ p = cc i in
        record { name_is = ap (λ (q : Pair). q.name) same; value_is = ap (λ (q : Pair). q.value) same; fits = e }
    by false e i = absurd (cc i)

kind_fits : (version : Version) (before : Option (List ℕ)) (w : Words) (p : Pair) → is_saved_name w.name ≡ true → is_above before w.name ≡ true
    → (named : Option SavedKind) → kind_named w.kind ≡ named → with_kind version w named ≡ Ok p → Fits version before w p
kind_fits version before w p name above None is h = absurd (cc h)
kind_fits version before w p name above (Some k) is h = by (value_in version w.value) refl h
  where
    by : (found : Option (List ℕ)) → value_in version w.value ≡ found → with_value w.name k found ≡ Ok p → Fits version before w p
    by None e i = absurd (cc i)
    by (Some value) e i =
        let of = valued w.name k value p i in
        let fits = and_parts (is_short_value value) (passes k value) of.fits in
        record {
          kind = k;
          kind_is = kind_written w.kind k is;
          name_is = of.name_is;
          value_is = value_written version w.value value e ∙ ap (written version) of.value_is;
          named = ap is_saved_name (sym of.name_is) ∙ name;
          above = ap (is_above before) (sym of.name_is) ∙ above;
          legal = ap is_short_value (sym of.value_is) ∙ fits.0;
          passed = ap (passes k) (sym of.value_is) ∙ fits.1;
        }

words_fit : (version : Version) (before : Option (List ℕ)) (w : Words) (p : Pair) → of_words version before (Some w) ≡ Ok p → Fits version before w p
words_fit version before w p h = by (is_saved_name w.name) (is_above before w.name) refl refl h
  where
    by : (name above : Bool) → is_saved_name w.name ≡ name → is_above before w.name ≡ above
        → cond name (cond above (with_kind version w (kind_named w.kind)) (Err cause.Order)) (Err cause.Name) ≡ Ok p → Fits version before w p
    by true true e f i = kind_fits version before w p e f (kind_named w.kind) refl i
    by true false e f i = absurd (cc i)
    by false above e f i = absurd (cc i)

any_is : (k : SavedKind) → codes "any" ≡ kind_word k → has_kind First k ≡ true
any_is kind.Any h = refl
any_is kind.Bool h = absurd (false≢true (sym (ap (bytes_eq (codes "any")) h)))
any_is kind.Int h = absurd (false≢true (sym (ap (bytes_eq (codes "any")) h)))
any_is kind.Uint h = absurd (false≢true (sym (ap (bytes_eq (codes "any")) h)))
any_is kind.Enum h = absurd (false≢true (sym (ap (bytes_eq (codes "any")) h)))

kind_had : (version : Version) (line : List ℕ) (w : Words) (k : SavedKind) → Parts version line w → w.kind ≡ kind_word k → has_kind version k ≡ true
kind_had First line w k parts is = any_is k (sym (parts.kind refl) ∙ is)
kind_had Second line w k parts is = refl

text_is : (version : Version) (line : List ℕ) (w : Words) (p : Pair) (k : SavedKind) → Parts version line w → w.name ≡ p.name → w.kind ≡ kind_word k → w.value ≡ written version p.value
    → line ≡ line_text version (entry p k)
text_is First line w p k parts name kind value = parts.text ∙ (λ i. name i ++ 32 ∷ value i)
text_is Second line w p k parts name kind value = parts.text ∙ (λ i. name i ++ 32 ∷ (kind i ++ 32 ∷ value i))

pub line_is : (version : Version) (before : Option (List ℕ)) (line : List ℕ) (p : Pair) → line_reading version before line ≡ Ok p → IsLine version before line p
line_is version before line p h = by (words_in version line) refl h
  where
    by : (found : Option Words) → words_in version line ≡ found → of_words version before found ≡ Ok p → IsLine version before line p
    by None e i = absurd (cc i)
    by (Some w) e i =
        let parts = parts_are version line (parts_at 32 line) w (join_with_byte-slice_split 32 line) e in
        let fits = words_fit version before w p i in
        record {
          kind = fits.kind;
          text = text_is version line w p fits.kind parts fits.name_is fits.kind_is fits.value_is;
          saved = join (is_saved_name p.name) (is_short_value p.value) fits.named fits.legal;
          fit = join (has_kind version fits.kind) (passes fits.kind p.value) (kind_had version line w fits.kind parts fits.kind_is) fits.passed;
          above = fits.above;
        }
