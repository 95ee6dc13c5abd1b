-- From the steps of a read of a long cell to what the whole read answers.
use Rattle.std.proofs.Common.{◌≡◌, ℕ, ◌+◌, ◌-◌, ◌*◌, ◌<◌, ◌≤◌, List, [], ◌∷◌, ◌++◌, length, get_or, max, Some, None, sym, refl, ap, ◌∙◌, subst, ⊎_elim, arith, length-append}
use Rattle.std.specs.Int.{w64, to_le_bytes}
use Rattle.std.proofs.Math.Seq.{get_or-append_seam}
use Rattle.std.proofs.lemmas.Bool.{cases_lt}
use Rattle.std.proofs.lemmas.List.{get_or_append_left}
use Rattle.init_base.specs.Value.{max_value_len}
use Rattle.init_machine.specs.Serial.{top_byte, clean_serial, top_in, number_in}
use Rattle.init_machine.specs.Sets.{Set, LastSet}
use Rattle.init_machine.specs.declared.report.Reading.{Reading}
use Rattle.init_machine.specs.declared.report.Reading.TheVariants.{Found}
use Rattle.serial_value.specs.declared.view.Copying.{Copying}
use Rattle.serial_value.specs.declared.view.CellView.{CellView}
use Rattle.serial_value.specs.declared.view.CellView.TheVariants.{Writer, Reader}
use Rattle.serial_value.specs.declared.read.CellAnswer.TheVariants.{Found as AnswerFound}
use Rattle.serial_value.specs.Words.{body_word, words_of_len, IsValue, HasWords, HasBytes}
use Rattle.serial_value.specs.Cell.{making_of, HasValue, KnowsSerial, HasBegun, LiesAt, Copies, IsLongLength, ReadsLong, IsCopied, Ends, Answers}
use Rattle.serial_value.specs.impl_laws.Serials.{layout}
use Rattle.serial_value.specs.impl_laws.Sets.{at_last_set}
use Rattle.serial_value.specs.impl_laws.Bodies.{twelve, long_size, length_word, value_word_of, long_by_top, place-long, copy_size-long}
use Rattle.serial_value.proofs.Packing.{byte_of}
use Rattle.serial_value.proofs.Reading.{front_bytes}

-- the value that the name has is the known one
known_value : (n : ℕ) (sets : List Set) (name : List ℕ) (place first : ℕ) (b : KnowsSerial n sets name place first) → HasValue sets name b.value
known_value n sets name place first b = at_last_set sets (length sets) (omega arith) name b.number b.value b.last

known_long : (n : ℕ) (sets : List Set) (name : List ℕ) (place first : ℕ) (b : KnowsSerial n sets name place first) → top_in first ≡ 255 → 91 < length b.value
known_long n sets name place first b top =
    long_by_top b.value (sym (layout (top_byte b.value) b.number b.small).0 ∙ (ap top_in (sym b.serial) ∙ top))

known_same : (n : ℕ) (sets : List Set) (name : List ℕ) (place first : ℕ) (b : KnowsSerial n sets name place first) (value : List ℕ) → HasValue sets name value → b.value ≡ value
known_same n sets name place first b value at = let k = known_value n sets name place first b in cc

-- the length lies behind the serial
pub length_lies : (n : ℕ) (v : CellView) (name : List ℕ) (place first : ℕ) → HasBegun n v name place first → top_in first ≡ 255 → LiesAt v name place 0 (place + 1)
length_lies n (Writer sets None) name place first b top = (omega arith, λ value at. let t = twelve value in omega arith)
length_lies n (Writer sets (Some making)) name place first b top = tt
length_lies n (Reader number None) name place first b top = absurd b
length_lies n (Reader number (Some copying)) name place first b top =
    let top' : top_in copying.first ≡ 255 = ap (λ (c : Copying). top_in c.first) b ∙ top in
    let size = copy_size-long copying.first copying.words top' in (
      ap (λ (c : Copying). c.name) b,
      ap (λ (c : Copying). c.place) b,
      ap (λ (c : Copying). length c.words) b,
      (let e = place-long place copying.first top' in omega arith),
      omega arith,
    )

-- once the length is loaded
pub long_begins : (n : ℕ) (v now : CellView) (name : List ℕ) (place first len : ℕ) (out : List ℕ) → HasBegun n v name place first → top_in first ≡ 255
    → making_of v ≡ None → Copies n v name 0 len now → ReadsLong now name place len 0 0 out now × IsLongLength n name place len
long_begins n (Writer sets None) now name place first len out b top idle c =
    let long = known_long n sets name place first b top in
    let size = long_size b.value long in
    let is : len ≡ length b.value = c.1 b.value (known_value n sets name place first b) ∙ length_word b.value long in (
      subst (λ (x : CellView). ReadsLong x name place len 0 0 out x) (sym c.0) (
        refl,
        λ value at.
            let same = known_same n sets name place first b value at in
            (subst IsValue same b.legal, subst (λ (x : List ℕ). 91 < length x) same long, sym (is ∙ ap length same), λ i none. absurd (omega arith)),
      ),
      record { long = omega arith; fits = subst (λ (m : ℕ). m ≤ max_value_len name) (sym is) b.fits; inside = let i = b.inside in let w = ap words_of_len is in omega arith },
    )
long_begins n (Writer sets (Some making)) now name place first len out b top idle c = absurd (cc)
long_begins n (Reader number None) now name place first len out b top idle c = absurd b
long_begins n (Reader number (Some copying)) now name place first len out b top idle c =
    let top' : top_in copying.first ≡ 255 = ap (λ (x : Copying). top_in x.first) b ∙ top in
    let empty : copying.words ≡ [] = ap (λ (x : Copying). x.words) b in
    let name_is = ap (λ (x : Copying). x.name) b in
    let place_is = ap (λ (x : Copying). x.place) b in
    let now_is : now ≡ Reader number (Some (record copying { words = len ∷ [] })) = c.0 ∙ (λ i. Reader number (Some (record copying { words = empty i ++ len ∷ [] }))) in (
      subst (λ (x : CellView). ReadsLong x name place len 0 0 out x) (sym now_is) (
        name_is,
        place_is,
        top',
        (len ∷ [], refl, refl, refl, λ value legal long has i none. absurd (omega arith)),
      ),
      subst (λ (p : ℕ). IsLongLength n name p len) place_is (c.1 top' refl),
    )

-- word k of the value lies behind the length
pub long_lies : (v now : CellView) (name : List ℕ) (place base len k m : ℕ) (out : List ℕ) → ReadsLong v name place len k m out now
    → base ≡ place + 2 → k < words_of_len len → LiesAt now name place (k + 1) (base + k)
long_lies (Writer sets None) now name place base len k m out r is less =
    subst (λ (x : CellView). LiesAt x name place (k + 1) (base + k)) (sym r.0) (
      omega arith,
      λ value at. let t = r.1 value at in let size = long_size value t.1 in let w = ap words_of_len t.2 in omega arith,
    )
long_lies (Writer sets (Some making)) now name place base len k m out r is less = absurd r
long_lies (Reader number None) now name place base len k m out r is less = absurd r
long_lies (Reader number (Some copying)) now name place base len k m out r is less =
    let words = r.3.0 in
    let size = copy_size-long copying.first words r.2 in
    let w = ap words_of_len r.3.3 in
    subst (λ (x : CellView). LiesAt x name place (k + 1) (base + k)) (sym r.3.1) (
      r.0,
      r.1,
      r.3.2,
      (let e = place-long place copying.first r.2 in omega arith),
      omega arith,
    )

-- the bytes of one more word behind those that stand
more_bytes : (value out out' : List ℕ) (k count word : ℕ) → IsValue value → count ≤ 8 → word ≡ body_word value (k + 1) → 91 < length value
    → HasBytes out (8 * k) value → ((j : ℕ) → j < count → get_or out' (8 * k + j) 0 ≡ get_or (to_le_bytes w64 word) j 0)
    → ((i : ℕ) → i < 8 * k → get_or out' i 0 ≡ get_or out i 0) → HasBytes out' (8 * k + count) value
more_bytes value out out' k count word legal small is long has bytes others i inside = ⊎_elim
    (λ (low : i < 8 * k). others i low ∙ has i low)
    (λ (high : 8 * k ≤ i).
    let j : ℕ = i - 8 * k in
    let there : 8 * k + j ≡ i = omega arith in
    subst (λ (p : ℕ). get_or out' p 0 ≡ get_or value p 0) there
    (bytes j (omega arith) ∙ byte_of value word k j legal.bytes (is ∙ value_word_of value k long) (omega arith)))
    (cases_lt i (8 * k))

-- one more word of the value
pub long_one : (n : ℕ) (v now after : CellView) (name : List ℕ) (place len k count word : ℕ) (out out' : List ℕ) → count ≤ 8
    → ReadsLong v name place len k (8 * k) out now → Copies n now name (k + 1) word after
    → ((j : ℕ) → j < count → get_or out' (8 * k + j) 0 ≡ get_or (to_le_bytes w64 word) j 0)
    → ((i : ℕ) → i < 8 * k → get_or out' i 0 ≡ get_or out i 0) → ReadsLong v name place len (k + 1) (8 * k + count) out' after
long_one n (Writer sets None) now after name place len k count word out out' small r c bytes others =
    let d = subst (λ (x : CellView). Copies n x name (k + 1) word after) r.0 c in (
      d.0,
      λ value at.
          let t = r.1 value at in
          (t.0, t.1, t.2, more_bytes value out out' k count word t.0 small (d.1 value at) t.1 t.3 bytes others),
    )
long_one n (Writer sets (Some making)) now after name place len k count word out out' small r c bytes others = absurd r
long_one n (Reader number None) now after name place len k count word out out' small r c bytes others = absurd r
long_one n (Reader number (Some copying)) now after name place len k count word out out' small r c bytes others =
    let words = r.3.0 in
    let d = subst (λ (x : CellView). Copies n x name (k + 1) word after) r.3.1 c in (
      r.0,
      r.1,
      r.2,
      (
        words ++ word ∷ [],
        d.0,
        (let e = length-append words (word ∷ []) in let l = r.3.2 in omega arith),
        (let l = r.3.2 in get_or_append_left words (word ∷ []) 0 0 (omega arith) ∙ r.3.3),
        λ value fits long has.
            let last : word ≡ body_word value (k + 1) =
            sym (get_or-append_seam words word [] 0) ∙ (ap (λ (p : ℕ). get_or (words ++ word ∷ []) p 0) r.3.2 ∙ has (k + 1) (omega arith)) in
            let front : HasWords words (k + 1) value = λ j inside. let l = r.3.2 in sym (get_or_append_left words (word ∷ []) 0 j (omega arith)) ∙ has j (omega arith) in
            more_bytes value out out' k count word fits small last long (r.3.4 value fits long front) bytes others,
      ),
    )

-- all words are copied
pub long_copied : (v now : CellView) (name : List ℕ) (place len : ℕ) (out : List ℕ) → ReadsLong v name place len (words_of_len len) len out now → IsCopied now name place
long_copied (Writer sets None) now name place len out r = subst (λ (x : CellView). IsCopied x name place) (sym r.0) tt
long_copied (Writer sets (Some making)) now name place len out r = absurd r
long_copied (Reader number None) now name place len out r = absurd r
long_copied (Reader number (Some copying)) now name place len out r =
    let words = r.3.0 in
    let size = copy_size-long copying.first words r.2 in
    let w = ap words_of_len r.3.3 in
    let l = r.3.2 in
    subst (λ (x : CellView). IsCopied x name place) (sym r.3.1) (r.0, r.1, omega arith)

module _ {V : Type 0} (with_cell : V → CellView → V) (noted : V → Reading → V) where
  -- the whole read of a long cell
  pub long_answers : (n : ℕ) (v w : V) (v1 u v2 : CellView) (name : List ℕ) (place first len last number : ℕ) (before out : List ℕ) (after : V)
      → len ≤ length out → top_in first ≡ 255 → number ≡ number_in last → making_of v1 ≡ None
      → ((c : CellView) → with_cell w c ≡ with_cell v c) → (v1 ≡ v2 → w ≡ v)
      → HasBegun n v1 name place first → Copies n v1 name 0 len u → ReadsLong u name place len (words_of_len len) len out v2
      → Ends with_cell noted v2 w name last after → Answers with_cell noted v1 v name (AnswerFound len number) before out after
  long_answers n v w (Writer sets None) u v2 name place first len last number before out after wide top is idle same_with same b c r e =
      let r' = subst (λ (x : CellView). ReadsLong x name place len (words_of_len len) len out v2) c.0 r in
      let e' = subst (λ (x : CellView). Ends with_cell noted x w name last after) r'.0 e in
      let serial : last ≡ clean_serial (top_byte b.value) b.number = e'.1 b.number b.value b.last in
      let number_is : b.number ≡ number = sym (is ∙ (ap number_in serial ∙ (layout (top_byte b.value) b.number b.small).1)) in
      let t = r'.1 b.value (known_value n sets name place first b) in (
        b.value,
        subst (λ (m : ℕ). LastSet sets (length sets) name m b.value) number_is b.last,
        sym t.2,
        front_bytes out b.value len wide (sym t.2) t.3,
        e'.0 ∙ same (sym r'.0),
      )
  long_answers n v w (Writer sets (Some making)) u v2 name place first len last number before out after wide top is idle same_with same b c r e = absurd (cc)
  long_answers n v w (Reader m None) u v2 name place first len last number before out after wide top is idle same_with same b c r e = absurd b
  long_answers n v w (Reader m (Some copying)) u v2 name place first len last number before out after wide top is idle same_with same b c r e =
      let r' = subst (λ (x : CellView). ReadsLong x name place len (words_of_len len) len out v2) c.0 r in
      let words = r'.3.0 in
      let e' = subst (λ (x : CellView). Ends with_cell noted x w name last after) r'.3.1 e in
      let found = e'.0 (e'.2 r'.2) in
      let long : 91 < length found.0 = long_by_top found.0 (sym found.4 ∙ (ap top_in (e'.2 r'.2) ∙ r'.2)) in
      let size = long_size found.0 long in
      let len_is : len ≡ length found.0 = sym r'.3.3 ∙ (found.3 0 (omega arith) ∙ length_word found.0 long) in
      let count = ap words_of_len len_is in
      let has : HasWords words (words_of_len len + 1) found.0 = λ k inside. found.3 k (omega arith) in (
        found.0,
        found.1,
        found.2,
        len_is,
        front_bytes out found.0 len wide len_is (r'.3.4 found.0 found.1 long has),
        found.5 ∙ (ap (λ (x : V). noted x (Found name (max m (number_in last)) found.0)) (same_with (Reader (max m (number_in last)) None))
            ∙ (λ i. noted (with_cell v (Reader (max m (sym is i)) None)) (Found name (max m (sym is i)) found.0))),
      )
