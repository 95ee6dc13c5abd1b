-- When what a client of the property area was told is true, by the accepted sets.
-- `making` is the name of the set that the writer is making and that isn't accepted yet, or none.
use Rattle.std.specs.Prelude.{◌≡◌, ℕ, ◌<◌, ◌≤◌, ◌⊎◌, true, false, List, length, Option, Some, None}
use Rattle.init_machine.specs.Serial.{top_byte, top_in, rank, number_in, is_dirty}
use Rattle.init_machine.specs.Sets.{Set, value_at, Numbered, NoneBetween, LaterSet}
use Rattle.init_machine.specs.declared.report.Reading.{Reading}
use Rattle.init_machine.specs.declared.report.Reading.TheVariants.{Found, Absent, Again, Synced, Caught}

-- a serial of the name: it has the number of a set of the name and that value's top byte, and where it is dirty a
-- later set of the name is there or is being made
pub record IsSerialOf (sets : List Set) (making : Option (List ℕ)) (name : List ℕ) (word : ℕ) : Type 0 where
  pub value : List ℕ
  pub numbered : Numbered sets (number_in word) name value
  pub top_is : top_in word ≡ top_byte value
  pub later : is_dirty word ≡ true → LaterSet sets name (number_in word) ⊎ (making ≡ Some name)

-- a read that met a write. A clean second serial has a number above the reader's; after a dirty one the next set of the
-- name, which is there or is being made, has a number above the reader's
pub record MetWrite (sets : List Set) (making : Option (List ℕ)) (number : ℕ) (name : List ℕ) (first second : ℕ) : Type 0 where
  pub early : number ≤ length sets
  pub first_is : IsSerialOf sets making name first
  pub second_is : IsSerialOf sets making name second
  pub rises : rank first < rank second
  pub clean : is_dirty second ≡ false → number < number_in second
  pub dirty : is_dirty second ≡ true → NoneBetween sets name (number_in second) number

-- a reading is true
abbrev pub Stands : List Set → Option (List ℕ) → Reading → Type 0
Stands sets making (Found name number value) = (number ≤ length sets) × (value_at sets number name ≡ Some value)
Stands sets making (Absent name number) = (number ≤ length sets) × (value_at sets number name ≡ None)
Stands sets making (Again name number first second) = MetWrite sets making number name first second
Stands sets making (Synced number) = number ≤ length sets
Stands sets making (Caught number) = number ≤ length sets
