-- What a reader's list says of some history of sets, and how many writes its reads can have met.
use Rattle.std.specs.Prelude.{ℕ, ◌+◌, ◌-◌, ◌*◌, ◌≤◌, List, length, drop, Option, Some, None, if◌then◌else◌}
use Rattle.std.specs.Str.{bytes_eq}
use Rattle.init_machine.specs.Sets.{Set, last_number_in, count_on}
use Rattle.init_machine.specs.Orderly.{agains_on, last_second}
use Rattle.init_machine.specs.declared.client.ClientItem.{ClientItem}
use Rattle.serial_value.specs.declared.view.CellView.{CellView}
use Rattle.serial_value.specs.declared.view.CellView.TheVariants.{Writer, Reader}
use Rattle.serial_value.specs.Cell.{ReaderStands}

-- how many sets of the name are being made
abbrev pub made_on : List ℕ → Option (List ℕ) → ℕ
made_on name None = 0
made_on name (Some making) = if bytes_eq making name then 1 else 0

-- the reads of each name met at most two writes for each set of the name since the list began, one that is being made
-- among them
abbrev pub FewAgains : List Set → Option (List ℕ) → List Set → List ClientItem → Type 0
FewAgains sets making began list =
    (name : List ℕ) → agains_on name list ≤ 2 * (count_on name (drop (length began) sets) + made_on name making)

-- some sets and some set that is being made: what the reader was told holds of them
abbrev pub SomeHistory : CellView → List Set → List ClientItem → Type 0
SomeHistory (Writer sets making) began list = Unit {0}
SomeHistory (Reader number copying) began list =
    (sets : List Set) × (making : Option (List ℕ))
    × ReaderStands sets making (Reader number copying) began list × FewAgains sets making began list

-- the reads of each name met no more writes than there are ranks above that of the last set of the name that there was when
-- the list began, up to the last second serial
abbrev pub FewRanks : CellView → List Set → List ClientItem → Type 0
FewRanks (Writer sets making) began list = Unit {0}
FewRanks (Reader number copying) began list =
    (name : List ℕ) → let low = 2 * last_number_in began name in agains_on name list ≤ last_second name low list - low
