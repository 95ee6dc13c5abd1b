-- What each step at a cell does to the view of the seat that makes it.
-- An update of a cell is 26 stores: the 12 old value words into the backup, the dirty serial, the 12 new value words, the
-- clean serial. A word that stands in its place already may be left out: its store counts as done. A read loads the serial,
-- the words, and the serial again. Of a short cell the words are 12, those of the value, or of the backup where the serial is
-- dirty; of a long one they are the length and the words of the value. No long cell is updated.
use Rattle.std.specs.Prelude.{◌≡◌, ◌≢◌, ℕ, zero, suc, ◌+◌, ◌<◌, ◌≤◌, ◌^◌, ◌==◌, max, if◌then◌else◌, List, [], ◌∷◌, ◌++◌, length, take, slice_index, Option, Some, None}
use Rattle.init_base.specs.Value.{max_value_len}
use Rattle.init_machine.specs.Serial.{top_byte, clean_serial, top_in, number_in, is_dirty}
use Rattle.init_machine.specs.Sets.{Set, value_at, LastSet}
use Rattle.init_machine.specs.Orderly.{ListStands, seen_again, seen_through}
use Rattle.init_machine.specs.declared.report.Reading.{Reading}
use Rattle.init_machine.specs.declared.report.Reading.TheVariants.{Found, Again}
use Rattle.init_machine.specs.declared.client.ClientItem.{ClientItem}
use Rattle.serial_value.specs.declared.view.Making.{Making}
use Rattle.serial_value.specs.declared.view.Copying.{Copying}
use Rattle.serial_value.specs.declared.view.CellView.{CellView}
use Rattle.serial_value.specs.declared.view.CellView.TheVariants.{Writer, Reader}
use Rattle.serial_value.specs.declared.read.CellAnswer.{CellAnswer}
use Rattle.serial_value.specs.declared.read.CellAnswer.TheVariants.{Found as AnswerFound, Again as AnswerAgain}
use Rattle.serial_value.specs.Words.{body_size, body_word, words_of_len, IsValue, IsShortValue, HasWords, HasBody, HasBytes}

-- the first of the backup's words
abbrev pub backup_place : ℕ
backup_place = 4

-- the sets that the view of a writer has
abbrev pub sets_of : CellView → List Set
sets_of (Writer sets making) = sets
sets_of (Reader number copying) = []

-- the name of the set that is being made
abbrev pub name_of : Option Making → Option (List ℕ)
name_of None = None
name_of (Some making) = Some making.name

-- the name of the set that a writer is making
abbrev pub making_of : CellView → Option (List ℕ)
making_of (Writer sets making) = name_of making
making_of (Reader number copying) = None

-- the view is the writer's
abbrev pub IsWriter : CellView → Type 0
IsWriter (Writer sets making) = Unit {0}
IsWriter (Reader number copying) = ⊥

-- the view is a reader's
abbrev pub IsReader : CellView → Type 0
IsReader (Writer sets making) = ⊥
IsReader (Reader number copying) = Unit {0}

-- what a reader's view and its client's list say of the sets
abbrev pub ReaderStands : List Set → Option (List ℕ) → CellView → List Set → List ClientItem → Type 0
ReaderStands sets making (Writer sets' making') began list = Unit {0}
ReaderStands sets making (Reader number copying) began list =
    (number ≤ length sets) × (seen_through (length began) list ≤ number) × ListStands sets making began list

-- the set that is being made, once this many stores are done
abbrev pub update : List ℕ → List ℕ → ℕ → ℕ → Option Making
update name value place zero = None
update name value place (suc done) = Some (record { name = name; value = value; place = place; done = suc done })

-- the writer, with this many stores done
abbrev pub updating : List Set → List ℕ → List ℕ → ℕ → ℕ → CellView
updating sets name value place done = Writer sets (update name value place done)

abbrev pub IsUpdating : CellView → List ℕ → List ℕ → ℕ → ℕ → Type 0
IsUpdating cell name value place done = cell ≡ updating (sets_of cell) name value place done

-- the writer, once the set is accepted
abbrev pub accepted : CellView → List ℕ → List ℕ → CellView
accepted cell name value = Writer (sets_of cell ++ (name, value) ∷ []) None

-- after all the sets the name has this value
abbrev pub HasValue : List Set → List ℕ → List ℕ → Type 0
HasValue sets name value = value_at sets (length sets) name ≡ Some value

-- the name's cell is short: its value has at most 91 bytes
abbrev pub HasShortCell : List Set → List ℕ → Type 0
HasShortCell sets name = (value : List ℕ) → HasValue sets name value → length value ≤ 91

-- the clean serial of the name's last set
abbrev pub IsPresentSerial : List Set → List ℕ → ℕ → Type 0
IsPresentSerial sets name word =
    (number : ℕ) (value : List ℕ) → LastSet sets (length sets) name number value → word ≡ clean_serial (top_byte value) number

-- word k of the name's value
abbrev pub IsPresentWord : List Set → List ℕ → ℕ → ℕ → Type 0
IsPresentWord sets name k word = (value : List ℕ) → HasValue sets name value → word ≡ body_word value k

-- the name has a value, whose cell lies at this place of so many words, and this is its clean serial
pub record KnowsSerial (words : ℕ) (sets : List Set) (name : List ℕ) (place word : ℕ) : Type 0 where
  pub number : ℕ
  pub value : List ℕ
  pub last : LastSet sets (length sets) name number value
  pub legal : IsValue value
  pub fits : length value ≤ max_value_len name
  pub inside : place + 1 + body_size value ≤ words
  pub small : number < 2 ^ 55
  pub serial : word ≡ clean_serial (top_byte value) number

-- the load of the first serial. The writer's own view doesn't change, and where it makes no set it knows the word
abbrev pub Begins : ℕ → CellView → List ℕ → ℕ → ℕ → CellView → Type 0
Begins words (Writer sets None) name place word after = (after ≡ Writer sets None) × KnowsSerial words sets name place word
Begins words (Writer sets (Some making)) name place word after = after ≡ Writer sets (Some making)
Begins words (Reader number copying) name place word after =
    after ≡ Reader number (Some (record { name = name; place = place; first = word; words = [] }))

-- a read of the name at this place has begun, and loaded this first serial
abbrev pub HasBegun : ℕ → CellView → List ℕ → ℕ → ℕ → Type 0
HasBegun words (Writer sets None) name place first = KnowsSerial words sets name place first
HasBegun words (Writer sets (Some making)) name place first = Unit {0}
HasBegun words (Reader number None) name place first = ⊥
HasBegun words (Reader number (Some copying)) name place first =
    copying ≡ record { name = name; place = place; first = first; words = [] }

-- the top byte of a long cell's serial
abbrev pub long_top : ℕ
long_top = 255

-- where the words of a read lie that loaded this first serial
abbrev pub words_place : ℕ → ℕ → ℕ
words_place place first =
    if top_in first == long_top then place + 1 else (if is_dirty first then backup_place else place + 1)

-- how many words a read copies that loaded this first serial, as these first words tell: of a long cell the length, which is
-- the first of them, and the words of the value
abbrev pub copy_size : ℕ → List ℕ → ℕ
copy_size first words = if top_in first == long_top then 1 + words_of_len (slice_index words 0) else 12

-- word k of a read lies at this place
abbrev pub LiesAt : CellView → List ℕ → ℕ → ℕ → ℕ → Type 0
LiesAt (Writer sets None) name place k word_place =
    (word_place ≡ place + 1 + k) × ((value : List ℕ) → HasValue sets name value → k < body_size value)
LiesAt (Writer sets (Some making)) name place k word_place = Unit {0}
LiesAt (Reader number None) name place k word_place = ⊥
LiesAt (Reader number (Some copying)) name place k word_place =
    (copying.name ≡ name) × (copying.place ≡ place) × (length copying.words ≡ k)
    × (word_place ≡ words_place place copying.first + k) × (k < copy_size copying.first copying.words)

-- the length in a long cell at this place of so many words: the name may have so long a value, and its words are there
pub record IsLongLength (words : ℕ) (name : List ℕ) (place len : ℕ) : Type 0 where
  pub long : 91 < len
  pub fits : len ≤ max_value_len name
  pub inside : place + 2 + words_of_len len ≤ words

-- the load of word k of a read
abbrev pub Copies : ℕ → CellView → List ℕ → ℕ → ℕ → CellView → Type 0
Copies words (Writer sets None) name k word after = (after ≡ Writer sets None) × IsPresentWord sets name k word
Copies words (Writer sets (Some making)) name k word after = after ≡ Writer sets (Some making)
Copies words (Reader number None) name k word after = after ≡ Reader number None
Copies words (Reader number (Some copying)) name k word after =
    (after ≡ Reader number (Some (record copying { words = copying.words ++ word ∷ [] })))
    × (top_in copying.first ≡ long_top → k ≡ 0 → IsLongLength words name copying.place word)

-- the words of a read of a short cell that has begun lie from this place on
abbrev pub ReadsFrom : CellView → List ℕ → ℕ → ℕ → Type 0
ReadsFrom (Writer sets None) name place base = base ≡ place + 1
ReadsFrom (Writer sets (Some making)) name place base = Unit {0}
ReadsFrom (Reader number None) name place base = ⊥
ReadsFrom (Reader number (Some copying)) name place base =
    (copying.name ≡ name) × (copying.place ≡ place) × (copying.words ≡ []) × (base ≡ words_place place copying.first)
    × (top_in copying.first ≢ long_top)

-- the first k of the words of a read are these
abbrev pub Gathers : CellView → List ℕ → ℕ → List ℕ → CellView → Type 0
Gathers (Writer sets None) name k words after =
    (after ≡ Writer sets None) × ((value : List ℕ) → HasValue sets name value → HasWords words k value)
Gathers (Writer sets (Some making)) name k words after = after ≡ Writer sets (Some making)
Gathers (Reader number None) name k words after = after ≡ Reader number None
Gathers (Reader number (Some copying)) name k words after = after ≡ Reader number (Some (record copying { words = take k words }))

-- a read of a long cell that has loaded the length and the first k words of the value, of which n bytes stand at the front of
-- the buffer
abbrev pub ReadsLong : CellView → List ℕ → ℕ → ℕ → ℕ → ℕ → List ℕ → CellView → Type 0
ReadsLong (Writer sets None) name place len k n out after =
    (after ≡ Writer sets None)
    × ((value : List ℕ) → HasValue sets name value
    → IsValue value × (91 < length value) × (length value ≡ len) × HasBytes out n value)
ReadsLong (Writer sets (Some making)) name place len k n out after = ⊥
ReadsLong (Reader number None) name place len k n out after = ⊥
ReadsLong (Reader number (Some copying)) name place len k n out after =
    (copying.name ≡ name) × (copying.place ≡ place) × (top_in copying.first ≡ long_top)
    × ((words : List ℕ) × (after ≡ Reader number (Some (record copying { words = words }))) × (length words ≡ k + 1)
    × (slice_index words 0 ≡ len)
    × ((value : List ℕ) → IsValue value → 91 < length value → HasWords words (k + 1) value → HasBytes out n value))

-- a read that has copied all its words
abbrev pub IsCopied : CellView → List ℕ → ℕ → Type 0
IsCopied (Writer sets making) name place = Unit {0}
IsCopied (Reader number None) name place = ⊥
IsCopied (Reader number (Some copying)) name place =
    (copying.name ≡ name) × (copying.place ≡ place) × (length copying.words ≡ copy_size copying.first copying.words)

-- the load of the last serial, by how a view's cell part is put in place and a reading is noted. Where the serial is the
-- first one again, the words are those of the value, which is Found; else a write was met, which is never so at a long cell
module _ {V : Type 0} (with_cell : V → CellView → V) (noted : V → Reading → V) where
  abbrev pub FindsWhole : ℕ → Copying → V → List ℕ → ℕ → V → Type 0
  FindsWhole number copying v name word after =
      let seen = max number (number_in word) in
      (value : List ℕ) × IsValue value × (length value ≤ max_value_len name) × HasBody copying.words value × (top_in word ≡ top_byte value)
      × (after ≡ noted (with_cell v (Reader seen None)) (Found name seen value))

  abbrev pub Ends : CellView → V → List ℕ → ℕ → V → Type 0
  Ends (Writer sets None) v name word after = (after ≡ v) × IsPresentSerial sets name word
  Ends (Writer sets (Some making)) v name word after = after ≡ v
  Ends (Reader number None) v name word after = after ≡ v
  Ends (Reader number (Some copying)) v name word after =
      (word ≡ copying.first → FindsWhole number copying v name word after)
      × (word ≢ copying.first → after ≡ noted (with_cell v (Reader (seen_again number word) None)) (Again name number copying.first word))
      × (top_in copying.first ≡ long_top → word ≡ copying.first)

  -- what a whole read answers and tells. The value that is Found stands at the front of the buffer, which is as before where
  -- a write was met
  abbrev pub Answers : CellView → V → List ℕ → CellAnswer → List ℕ → List ℕ → V → Type 0
  Answers (Writer sets None) v name (AnswerFound len number) before out after =
      (value : List ℕ) × LastSet sets (length sets) name number value × (len ≡ length value) × (take len out ≡ value) × (after ≡ v)
  Answers (Writer sets None) v name (AnswerAgain first second) before out after = ⊥
  Answers (Writer sets (Some making)) v name answer before out after = after ≡ v
  Answers (Reader number copying) v name (AnswerFound len own) before out after =
      let seen = max number own in
      (value : List ℕ) × IsValue value × (length value ≤ max_value_len name) × (len ≡ length value) × (take len out ≡ value)
      × (after ≡ noted (with_cell v (Reader seen None)) (Found name seen value))
  Answers (Reader number copying) v name (AnswerAgain first second) before out after =
      (first ≢ second) × (out ≡ before)
      × (after ≡ noted (with_cell v (Reader (seen_again number second) None)) (Again name number first second))

-- what a read of a short cell makes of the serials that it loaded
abbrev pub Closes : ℕ → ℕ → List ℕ → CellAnswer → List ℕ → List ℕ → Type 0
Closes first last words (AnswerFound len number) before out =
    (first ≡ last) × (len ≡ top_in last) × (number ≡ number_in last)
    × ((value : List ℕ) → IsShortValue value → HasBody words value → HasBytes out 91 value)
Closes first last words (AnswerAgain first' second) before out =
    (first ≢ last) × (first' ≡ first) × (second ≡ last) × (out ≡ before)

-- the twelve words of the name's value, whose cell is short
abbrev pub AreOldWords : List Set → List ℕ → List ℕ → Type 0
AreOldWords sets name words = (value : List ℕ) → HasValue sets name value → HasWords words 12 value
