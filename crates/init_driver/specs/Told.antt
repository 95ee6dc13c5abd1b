-- The reading that an answer of a reader is.
use Rattle.std.specs.Prelude.{◌≡◌, ℕ, ◌≤◌, ⊤, List, length, take}
use Rattle.init_machine.specs.Orderly.{seen_again}
use Rattle.init_machine.specs.declared.report.Reading.{Reading}
use Rattle.init_machine.specs.declared.report.Reading.TheVariants as reading
use Rattle.property_area.specs.Readers.{Hears, seen_by}
use Rattle.property_area.specs.declared.reader.ReadAnswer.{ReadAnswer}
use Rattle.property_area.specs.declared.reader.ReadAnswer.TheVariants as answer
use Rattle.property_area.specs.declared.view.AreaView.{AreaView}

-- the value that was found stands at the front of the buffer
abbrev pub reading_of : List ℕ → ReadAnswer → List ℕ → Reading
reading_of name (answer.Found len number) buffer = reading.Found name number (take len buffer)
reading_of name (answer.Absent number) buffer = reading.Absent name number
reading_of name (answer.Again number first second) buffer = reading.Again name number first second

abbrev pub FitsIn : ReadAnswer → List ℕ → Type 0
FitsIn (answer.Found len number) buffer = len ≤ length buffer
FitsIn (answer.Absent number) buffer = ⊤
FitsIn (answer.Again number first second) buffer = ⊤

-- a read of a name told the client this reading, and nothing else
abbrev pub TellsRead : AreaView → List ℕ → Reading → AreaView → Type 0
TellsRead v name (reading.Found other number value) after =
    (other ≡ name) × (seen_by v.cell ≤ number) × Hears v (reading.Found other number value) number after
TellsRead v name (reading.Absent other number) after =
    (other ≡ name) × (number ≡ seen_by v.cell) × Hears v (reading.Absent other number) number after
TellsRead v name (reading.Again other number first second) after =
    (other ≡ name) × (number ≡ seen_by v.cell) × Hears v (reading.Again other number first second) (seen_again number second) after
TellsRead v name (reading.Synced number) after = ⊥
TellsRead v name (reading.Caught number) after = ⊥
