-- From the steps of a read to what the whole read answers.
use Rattle.std.proofs.Common.{◌≡◌, ◌≢◌, ℕ, ◌+◌, ◌<◌, ◌≤◌, List, [], ◌∷◌, ◌++◌, length, get_or, set, take, max, Some, None, sym, ap, ◌∙◌, subst, arith, add-one}
use mathlib.Core.Logic.{dite}
use native.Mathlib.Decide.{ℕ_discrete}
use Rattle.std.proofs.Math.Seq.{take-suc-set}
use Rattle.std.proofs.lemmas.List.{take_all, length-take-le, get_or-set_same, get_or-set_other, ext_get_or}
use Rattle.std.proofs.lemmas.List.{get_or-take}
use Rattle.init_machine.specs.Serial.{top_byte, clean_serial, top_in, number_in, is_dirty}
use Rattle.init_machine.specs.Sets.{LastSet}
use Rattle.init_machine.specs.Orderly.{seen_again}
use Rattle.init_machine.specs.declared.report.Reading.{Reading}
use Rattle.init_machine.specs.declared.report.Reading.TheVariants.{Found, Again}
use Rattle.serial_value.specs.declared.view.Copying.{Copying}
use Rattle.serial_value.specs.declared.view.CellView.{CellView}
use Rattle.serial_value.specs.declared.view.CellView.TheVariants.{Writer, Reader}
use Rattle.serial_value.specs.declared.read.CellAnswer.{CellAnswer}
use Rattle.serial_value.specs.declared.read.CellAnswer.TheVariants.{Found as AnswerFound, Again as AnswerAgain}
use Rattle.serial_value.specs.Words.{body_word, HasWords, HasBody, HasBytes}
use Rattle.serial_value.specs.Cell.{making_of, HasBegun, ReadsFrom, LiesAt, Copies, Gathers, Ends, Answers, Closes, words_place}
use Rattle.serial_value.specs.impl_laws.Serials.{layout, top_byte-short}
use Rattle.serial_value.specs.impl_laws.Bodies.{twelve, short_size, short_by_top, place-clean, copy_size-short}
use Rattle.serial_value.specs.impl_laws.Sets.{at_last_set}

more_words : (words value : List ℕ) (k word : ℕ) → k < length words → HasWords words k value → word ≡ body_word value k → HasWords (set words k word) (k + 1) value
more_words words value k word inside has right j small = dite (ℕ_discrete j k)
    (λ e. subst (λ (i : ℕ). get_or (set words k word) i 0 ≡ body_word value i) (sym e) (get_or-set_same words k word 0 inside ∙ right))
    (λ other. get_or-set_other words k j word 0 other ∙ has j (omega arith))

-- one word more
pub gathers_one : (n : ℕ) (v now after : CellView) (name : List ℕ) (words : List ℕ) (k word : ℕ) → k < length words → Gathers v name k words now → Copies n now name k word after
    → Gathers v name (k + 1) (set words k word) after
gathers_one n (Writer sets None) now after name words k word inside g c =
    let d = subst (λ (x : CellView). Copies n x name k word after) g.0 c in
    (d.0, λ value at. more_words words value k word inside (g.1 value at) (d.1 value at))
gathers_one n (Writer sets (Some making)) now after name words k word inside g c = subst (λ (x : CellView). Copies n x name k word after) g c
gathers_one n (Reader number None) now after name words k word inside g c = subst (λ (x : CellView). Copies n x name k word after) g c
gathers_one n (Reader number (Some copying)) now after name words k word inside g c =
    let d = subst (λ (x : CellView). Copies n x name k word after) g c in
    let longer : take k words ++ word ∷ [] ≡ take (k + 1) (set words k word) = sym (ap (λ (n : ℕ). take n (set words k word)) (add-one k) ∙ take-suc-set words k word inside) in
    d.0 ∙ (λ i. Reader number (Some (record copying { words = longer i })))

pub front_bytes : (out value : List ℕ) (len : ℕ) → len ≤ length out → len ≡ length value → HasBytes out len value → take len out ≡ value
front_bytes out value len wide is same =
    let count : length (take len out) ≡ len = length-take-le len out wide in
    ext_get_or 0 (take len out) value (count ∙ is) (λ i inside. get_or-take len out i 0 (omega arith) ∙ same i (omega arith))

-- the words of a short cell lie where the first serial tells
pub reads_from : (n : ℕ) (v : CellView) (name : List ℕ) (place first : ℕ) → HasBegun n v name place first → top_in first ≢ 255
    → ReadsFrom v name place (words_place place first)
reads_from n (Writer sets None) name place first b short =
    place-clean place first (ap is_dirty b.serial ∙ (layout (top_byte b.value) b.number b.small).2)
reads_from n (Writer sets (Some making)) name place first b short = tt
reads_from n (Reader number None) name place first b short = absurd b
reads_from n (Reader number (Some copying)) name place first b short = (
  ap (λ (c : Copying). c.name) b,
  ap (λ (c : Copying). c.place) b,
  ap (λ (c : Copying). c.words) b,
  ap (λ (c : Copying). words_place place c.first) (sym b),
  λ long. short (ap (λ (c : Copying). top_in c.first) (sym b) ∙ long),
)

-- one of the twelve words of a short cell
pub lies_at : (v now : CellView) (name : List ℕ) (place base k : ℕ) (words : List ℕ) → ReadsFrom v name place base → Gathers v name k words now
    → k < 12 → k ≤ length words → LiesAt now name place k (base + k)
lies_at (Writer sets None) now name place base k words r g small within =
    subst (λ (x : CellView). LiesAt x name place k (base + k)) (sym g.0) (ap (λ (p : ℕ). p + k) r, λ value at. let t = twelve value in omega arith)
lies_at (Writer sets (Some making)) now name place base k words r g small within = subst (λ (x : CellView). LiesAt x name place k (base + k)) (sym g) tt
lies_at (Reader number None) now name place base k words r g small within = absurd r
lies_at (Reader number (Some copying)) now name place base k words r g small within =
    subst (λ (x : CellView). LiesAt x name place k (base + k)) (sym g) (
      r.0,
      r.1,
      length-take-le k words within,
      ap (λ (p : ℕ). p + k) r.3,
      let e = copy_size-short copying.first (take k words) r.4 in omega arith,
    )

front_is : (out value : List ℕ) (len : ℕ) → 91 ≤ length out → length value ≤ 91 → len ≡ length value → HasBytes out 91 value → take len out ≡ value
front_is out value len wide short is same = front_bytes out value len (omega arith) is (λ i inside. same i (omega arith))

module _ {V : Type 0} (with_cell : V → CellView → V) (noted : V → Reading → V) where
  -- the whole read of a short cell
  pub read_answers : (n : ℕ) (v w : V) (v1 v2 : CellView) (name : List ℕ) (place first last : ℕ) (words : List ℕ) (answer : CellAnswer) (before out : List ℕ) (after : V)
      → length words ≡ 12 → 91 ≤ length out → top_in first ≢ 255
      → ((c : CellView) → with_cell w c ≡ with_cell v c) → (v1 ≡ v2 → w ≡ v)
      → HasBegun n v1 name place first → Gathers v1 name 12 words v2 → Ends with_cell noted v2 w name last after → Closes first last words answer before out
      → Answers with_cell noted v1 v name answer before out after
  read_answers n v w (Writer sets None) v2 name place first last words (AnswerFound len number) before out after wide long short same_with same b g e close =
      let e' = subst (λ (x : CellView). Ends with_cell noted x w name last after) g.0 e in
      let serial : last ≡ clean_serial (top_byte b.value) b.number = sym close.0 ∙ b.serial in
      let parts = layout (top_byte b.value) b.number b.small in
      let few : length b.value ≤ 91 = short_by_top b.value (λ top. short (ap top_in b.serial ∙ (parts.0 ∙ top))) in
      let len_is : len ≡ length b.value = close.1 ∙ (ap top_in serial ∙ (parts.0 ∙ top_byte-short b.value few)) in
      let number_is : b.number ≡ number = sym (close.2 ∙ (ap number_in serial ∙ parts.1)) in
      let has = g.1 b.value (at_last_set sets (length sets) (omega arith) name b.number b.value b.last) in
      let size = short_size b.value few in (
        b.value,
        subst (λ (m : ℕ). LastSet sets (length sets) name m b.value) number_is b.last,
        len_is,
        front_is out b.value len long few len_is (close.3 b.value (record { short = few; bytes = b.legal.bytes }) (λ k inside. has k (omega arith))),
        e'.0 ∙ same (sym g.0),
      )
  read_answers n v w (Writer sets None) v2 name place first last words (AnswerAgain first' second) before out after wide long short same_with same b g e close =
      let e' = subst (λ (x : CellView). Ends with_cell noted x w name last after) g.0 e in
      close.0 (b.serial ∙ sym (e'.1 b.number b.value b.last))
  read_answers n v w (Writer sets (Some making)) v2 name place first last words answer before out after wide long short same_with same b g e close =
      let e' = subst (λ (x : CellView). Ends with_cell noted x w name last after) g e in
      e' ∙ same (sym g)
  read_answers n v w (Reader number None) v2 name place first last words answer before out after wide long short same_with same b g e close = absurd b
  read_answers n v w (Reader number (Some copying)) v2 name place first last words (AnswerFound len own) before out after wide long short same_with same b g e close =
      let e' = subst (λ (x : CellView). Ends with_cell noted x w name last after) g e in
      let first_is : copying.first ≡ first = ap (λ (c : Copying). c.first) b in
      let found = e'.0 (sym close.0 ∙ sym first_is) in
      let few : length found.0 ≤ 91 = short_by_top found.0 (λ top. short (ap top_in close.0 ∙ (found.4 ∙ top))) in
      let whole : HasBody words found.0 = subst (λ (ws : List ℕ). HasBody ws found.0) (take_all 12 words (omega arith)) found.3 in
      let len_is : len ≡ length found.0 = close.1 ∙ (found.4 ∙ top_byte-short found.0 few) in (
        found.0,
        found.1,
        found.2,
        len_is,
        front_is out found.0 len long few len_is (close.3 found.0 (record { short = few; bytes = found.1.bytes }) whole),
        found.5 ∙ (ap (λ (x : V). noted x (Found name (max number (number_in last)) found.0)) (same_with (Reader (max number (number_in last)) None))
            ∙ (λ i. noted (with_cell v (Reader (max number (sym close.2 i)) None)) (Found name (max number (sym close.2 i)) found.0))),
      )
  read_answers n v w (Reader number (Some copying)) v2 name place first last words (AnswerAgain first' second) before out after wide long short same_with same b g e close =
      let e' = subst (λ (x : CellView). Ends with_cell noted x w name last after) g e in
      let first_is : copying.first ≡ first = ap (λ (c : Copying). c.first) b in
      let met = e'.1 (λ is. close.0 (sym (is ∙ first_is))) in (
        (λ is. close.0 (sym close.1 ∙ (is ∙ close.2))),
        close.3,
        met ∙ (ap (λ (x : V). noted x (Again name number copying.first last)) (same_with (Reader (seen_again number last) None))
            ∙ (λ i. noted (with_cell v (Reader (seen_again number (sym close.2 i)) None)) (Again name number ((first_is ∙ sym close.1) i) (sym close.2 i)))),
      )

-- no set is being made after a read either
module _ {V : Type 0} (cell : V → CellView) (with_cell : V → CellView → V) (noted : V → Reading → V)
    (cell_with : (v : V) (c : CellView) → cell (with_cell v c) ≡ c) (cell_noted : (v : V) (r : Reading) → cell (noted v r) ≡ cell v) where
  told_idle : (v after : V) (number : ℕ) (reading : Reading) → after ≡ noted (with_cell v (Reader number None)) reading → making_of (cell after) ≡ None
  told_idle v after number reading is =
      let c : cell after ≡ Reader number None = ap cell is ∙ (cell_noted (with_cell v (Reader number None)) reading ∙ cell_with v (Reader number None)) in
      ap making_of c

  pub idle_after : (v after : V) (c : CellView) (name : List ℕ) (answer : CellAnswer) (before out : List ℕ) → cell v ≡ c → making_of c ≡ None
      → Answers with_cell noted c v name answer before out after → making_of (cell after) ≡ None
  idle_after v after (Writer sets None) name (AnswerFound len number) before out is idle a = ap making_of (ap cell a.4 ∙ is)
  idle_after v after (Writer sets None) name (AnswerAgain first second) before out is idle a = absurd a
  idle_after v after (Writer sets (Some making)) name answer before out is idle a = absurd (cc)
  idle_after v after (Reader number copying) name (AnswerFound len own) before out is idle a = told_idle v after (max number own) (Found name (max number own) a.0) a.5
  idle_after v after (Reader number copying) name (AnswerAgain first second) before out is idle a = told_idle v after (seen_again number second) (Again name number first second) a.2
