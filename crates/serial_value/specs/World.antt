-- What holds of the views of readers, at whatever place their cells lie: by the accepted sets, the set that is being made,
-- and the present serial of each name.
use Rattle.std.specs.Prelude.{◌≡◌, ◌≢◌, ℕ, ◌<◌, ◌≤◌, ◌⊎◌, false, List, ◌++◌, length, Option, Some, None}
use mathlib.Core.Option.{some}
use lib.ListN.{get_elem?}
use Rattle.init_machine.specs.Serial.{dirty_serial, top_in, rank, is_dirty}
use Rattle.init_machine.specs.Sets.{Set, NoneBetween, LaterSet}
use Rattle.init_machine.specs.Facts.{IsSerialOf}
use Rattle.init_machine.specs.Orderly.{ListStands, seen_through}
use Rattle.init_machine.specs.declared.report.Reading.TheVariants.{Again}
use Rattle.init_machine.specs.declared.client.ClientItem.{ClientItem}
use Rattle.init_machine.specs.declared.client.ClientItem.TheVariants.{Told}
use Rattle.serial_value.specs.declared.view.Copying.{Copying}
use Rattle.serial_value.specs.Words.{HasWords}
use Rattle.serial_value.specs.Cell.{HasValue}

-- one moment: the accepted sets, the name of the set that is being made and isn't accepted yet, and the present serial of
-- each name
pub record World : Type 0 where
  pub sets : List Set
  pub making : Option (List ℕ)
  pub serial : List ℕ → ℕ

-- how the serial of a name moves while the sets grow: it stays, and so does the name's value; it becomes dirty; or a set of
-- the name is accepted, and the serial ranks higher. The serial of a long cell never moves
pub data Moved (w w' : World) (name : List ℕ) : Type 0 where
  stays : w'.serial name ≡ w.serial name → NoneBetween w'.sets name (length w.sets) (length w'.sets) → Moved w w' name
  dirtied : w'.serial name ≡ dirty_serial (w.serial name) → is_dirty (w.serial name) ≡ false → top_in (w.serial name) ≢ 255 → Moved w w' name
  accepted : rank (w.serial name) < rank (w'.serial name) → LaterSet w'.sets name (length w.sets) → top_in (w.serial name) ≢ 255 → Moved w w' name

-- a moment that one step leads to: the sets grew, a set that was being made is there or is still being made, and the serial
-- of each name moved so
pub record Later (w w' : World) : Type 0 where
  pub more : List Set
  pub grown : w'.sets ≡ w.sets ++ more
  pub kept : (name : List ℕ) (low : ℕ) → low ≤ length w.sets → w.making ≡ Some name
      → LaterSet w'.sets name low ⊎ (w'.making ≡ Some name)
  pub moves : (name : List ℕ) → Moved w w' name

-- no second serial of a name that this list has met ranks above this one
abbrev pub MetUpTo : List ClientItem → List ℕ → ℕ → Type 0
MetUpTo list name high =
    (i number first second : ℕ) → get_elem? list i ≡ some (Told (Again name number first second)) → rank second ≤ high

-- What holds of one client's list, which began when these were the sets.
pub record ListHolds (w : World) (began : List Set) (list : List ClientItem) : Type 0 where
  pub stands : ListStands w.sets w.making began list
  pub seen : seen_through (length began) list ≤ length w.sets
  pub met : (name : List ℕ) → MetUpTo list name (rank (w.serial name))

-- What a reader that has loaded its first serial has copied.
pub record CopyHolds (w : World) (number : ℕ) (list : List ClientItem) (copying : Copying) : Type 0 where
  pub serial : IsSerialOf w.sets w.making copying.name copying.first
  -- the first serial isn't above the present one, nor below one that an earlier read met
  pub below : rank copying.first ≤ rank (w.serial copying.name)
  pub above : MetUpTo list copying.name (rank copying.first)
  -- where the serial hasn't moved, the words are those of its value, which is the last one
  pub whole : w.serial copying.name ≡ copying.first → (value : List ℕ) → HasValue w.sets copying.name value
      → HasWords copying.words (length copying.words) value
  -- where it has moved, a set above the reader's number is there, or the cell is dirty in the same set
  pub moved : w.serial copying.name ≢ copying.first
      → LaterSet w.sets copying.name number ⊎ ((w.serial copying.name ≡ dirty_serial copying.first) × (is_dirty copying.first ≡ false))
  -- the serial of a long cell hasn't moved
  pub lasting : top_in copying.first ≡ 255 → w.serial copying.name ≡ copying.first

abbrev pub MayCopy : World → ℕ → List ClientItem → Option Copying → Type 0
MayCopy w number list None = Unit {0}
MayCopy w number list (Some copying) = CopyHolds w number list copying

-- What holds of a reader's view.
pub record ReaderHolds (w : World) (number : ℕ) (copying : Option Copying) (began : List Set) (list : List ClientItem) : Type 0 where
  pub early : number ≤ length w.sets
  pub holds : ListHolds w began list
  pub seen : seen_through (length began) list ≤ number
  pub copy : MayCopy w number list copying
