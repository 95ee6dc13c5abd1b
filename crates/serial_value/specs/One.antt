-- The rule of a table with one cell: what holds between any two steps.
-- The table has 29 words: a head of 16, of which words 4 to 15 are the backup, and the cell of the name `a` at place 16, a
-- serial and twelve value words.
use Rattle.std.specs.Prelude.{◌≡◌, ◌≢◌, ℕ, ◌+◌, ◌<◌, ◌≤◌, ◌^◌, List, [], ◌∷◌, ◌++◌, length, slice_index, Option, Some, None, if◌then◌else◌}
use Rattle.std.specs.Str.{bytes_eq}
use mathlib.Core.Option.{some}
use lib.ListN.{get_elem?}
use Rattle.atomic_table.specs.Table.{State}
use Rattle.init_machine.specs.Serial.{top_byte, clean_serial, dirty_serial}
use Rattle.init_machine.specs.Sets.{Set, LastSet}
use Rattle.init_machine.specs.declared.report.Reading.{Reading}
use Rattle.init_machine.specs.declared.client.ClientItem.{ClientItem}
use Rattle.init_machine.specs.declared.client.ClientItem.TheVariants.{Told}
use Rattle.serial_value.specs.declared.view.Making.{Making}
use Rattle.serial_value.specs.declared.view.CellView.{CellView}
use Rattle.serial_value.specs.declared.view.CellView.TheVariants.{Writer, Reader}
use Rattle.serial_value.specs.declared.one.OneView.{OneView}
use Rattle.serial_value.specs.Words.{body_size, body_word, IsShortValue}
use Rattle.serial_value.specs.Cell.{sets_of, name_of, HasShortCell}
use Rattle.serial_value.specs.World.{World, ReaderHolds}

-- the name `a`
abbrev pub the_name : List ℕ
the_name = 97 ∷ []

abbrev pub the_place : ℕ
the_place = 16

-- how many stores of the update are done
abbrev pub done_of : Option Making → ℕ
done_of None = 0
done_of (Some making) = making.done

-- the value that is being set; without an update it is of no account
abbrev pub new_value : Option Making → List ℕ
new_value None = []
new_value (Some making) = making.value

-- The words of a cell, and the backup, while `done` stores of an update from the set with this number and value to a new
-- value are done; 0 where none is under way.
pub record CellHolds (words : List ℕ) (place number : ℕ) (value new : List ℕ) (done : ℕ) : Type 0 where
  -- before the dirty serial the cell has the old serial, clean
  pub clean : done ≤ 12 → slice_index words place ≡ clean_serial (top_byte value) number
  -- from then on it is the old serial with bit 0 set
  pub dirty : 13 ≤ done → slice_index words place ≡ dirty_serial (clean_serial (top_byte value) number)
  -- the backup words stored so far are the old value's
  pub backup : (k : ℕ) → k < body_size value → k < done → slice_index words (4 + k) ≡ body_word value k
  -- only the value words stored so far are the new value's
  pub stored : (k : ℕ) → k < body_size new → 13 + k < done → slice_index words (place + 1 + k) ≡ body_word new k
  pub kept : (k : ℕ) → k < body_size value → done ≤ 13 + k → slice_index words (place + 1 + k) ≡ body_word value k

-- the present serial of each name is this word, for the one name, and 0
abbrev pub serial_on : ℕ → List ℕ → ℕ
serial_on word name = if bytes_eq name the_name then word else 0

abbrev pub world_of : ℕ → List Set → Option Making → World
world_of word sets making = record { sets = sets; making = name_of making; serial = serial_on word }

-- the writer's view is the sets and the update; the view of another seat is a reader's
abbrev pub ViewHolds : ℕ → ℕ → List Set → Option Making → ℕ → CellView → List Set → List ClientItem → Type 0
ViewHolds word writer sets making seat (Writer sets' making') began list = (seat ≡ writer) × (sets' ≡ sets) × (making' ≡ making)
ViewHolds word writer sets making seat (Reader number copying) began list =
    (seat ≢ writer) × ReaderHolds (world_of word sets making) number copying began list

-- an update is of the one cell, by the value of a short cell, and isn't accepted yet
abbrev pub MayMake : Option Making → Type 0
MayMake None = Unit {0}
MayMake (Some making) = (making.name ≡ the_name) × (making.place ≡ the_place) × IsShortValue making.value × (making.done ≤ 25)

pub record OneHolds (s : State (Unit {0}) OneView) : Type 0 where
  -- the seat that writes, the accepted sets, and the update that is under way
  pub writer : ℕ
  pub sets : List Set
  pub making : Option Making
  -- the number and the value of the last set
  pub number : ℕ
  pub value : List ℕ
  pub wide : length s.words ≡ 29
  pub few : length sets < 2 ^ 55
  pub named : (i : ℕ) (set : Set) → get_elem? sets i ≡ some set → (set.0 ≡ the_name) × IsShortValue set.1
  pub last : LastSet sets (length sets) the_name number value
  pub made : MayMake making
  pub cell : CellHolds s.words the_place number value (new_value making) (done_of making)
  -- the writer's seat is there
  pub there : writer < length s.views
  pub each : (seat : ℕ) (v : OneView) → get_elem? s.views seat ≡ some v
      → ViewHolds (slice_index s.words the_place) writer sets making seat v.cell v.began v.list

-- the view of the writer's seat of a table that begins with this value
abbrev pub begins : List ℕ → OneView
begins value = record { cell = Writer ((the_name, value) ∷ []) None; began = []; list = [] }

abbrev pub with_cell : OneView → CellView → OneView
with_cell v cell = record v { cell = cell }

abbrev pub noted : OneView → Reading → OneView
noted v reading = record v { list = v.list ++ Told reading ∷ [] }

abbrev pub Linked : OneView → List ℕ → ℕ → Type 0
Linked v name place = (name ≡ the_name) × (place ≡ the_place)

-- the writer makes no set, and so many sets are made, the last of which has a short value
pub record HasMade (cell : CellView) (count : ℕ) : Type 0 where
  pub rests : cell ≡ Writer (sets_of cell) None
  pub count_is : length (sets_of cell) ≡ count
  pub short : HasShortCell (sets_of cell) the_name

-- the view of a reader's seat that is split off the writer's
abbrev pub new_reader : OneView → OneView
new_reader v = record { cell = Reader (length (sets_of v.cell)) None; began = sets_of v.cell; list = [] }

-- the words of a table whose cell has this value under number 1
pub record HasFirst (words value : List ℕ) : Type 0 where
  pub wide : length words ≡ 29
  pub serial : slice_index words the_place ≡ clean_serial (top_byte value) 1
  pub words_are : (k : ℕ) → k < body_size value → slice_index words (the_place + 1 + k) ≡ body_word value k
