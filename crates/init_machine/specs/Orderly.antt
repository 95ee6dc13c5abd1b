-- The list of one client of the property area: when all that it was told is true, and when it is in order.
use Rattle.std.specs.Prelude.{◌≡◌, ℕ, ◌+◌, ◌<◌, ◌≤◌, max, List, [], ◌∷◌, length, Option, if◌then◌else◌}
use Rattle.std.specs.Str.{bytes_eq}
use mathlib.Core.Option.{some}
use lib.ListN.{get_elem?}
use Rattle.init_machine.specs.Serial.{rank, number_in, is_dirty}
use Rattle.init_machine.specs.Sets.{Set, BeginsWith}
use Rattle.init_machine.specs.Facts.{Stands}
use Rattle.init_machine.specs.declared.report.Reading.{Reading}
use Rattle.init_machine.specs.declared.report.Reading.TheVariants.{Found, Absent, Again, Synced, Caught}
use Rattle.init_machine.specs.declared.client.ClientItem.{ClientItem}
use Rattle.init_machine.specs.declared.client.ClientItem.TheVariants.{Told, Asked}

-- what the client was told
abbrev pub readings_in : List ClientItem → List Reading
readings_in [] = []
readings_in (Told reading ∷ list) = reading ∷ readings_in list
readings_in (Asked request ∷ list) = readings_in list

-- all that the client was told is true
abbrev pub EachStands : List Set → Option (List ℕ) → List ClientItem → Type 0
EachStands sets making list =
    (i : ℕ) (reading : Reading) → get_elem? list i ≡ some (Told reading) → Stands sets making reading

-- how many sets a reading is about
abbrev pub number_of : Reading → ℕ
number_of (Found name number value) = number
number_of (Absent name number) = number
number_of (Again name number first second) = number
number_of (Synced number) = number
number_of (Caught number) = number

-- how many sets a client has seen that had seen `number`, and then met a write with this second serial
abbrev pub seen_again : ℕ → ℕ → ℕ
seen_again number second = if is_dirty second then number else max number (number_in second)

-- how many sets a client has seen after a reading
abbrev pub seen_after : Reading → ℕ
seen_after (Found name number value) = number
seen_after (Absent name number) = number
seen_after (Again name number first second) = seen_again number second
seen_after (Synced number) = number
seen_after (Caught number) = number

-- the most that a client may have seen before an item
abbrev pub count_before : ClientItem → ℕ
count_before (Told reading) = number_of reading
count_before (Asked request) = request.before

-- how many sets a client has seen after an item
abbrev pub count_after : ClientItem → ℕ
count_after (Told reading) = seen_after reading
count_after (Asked request) = request.after

-- how many sets a client has seen after its list, where it had seen `seen` before
abbrev pub seen_through : ℕ → List ClientItem → ℕ
seen_through seen [] = seen
seen_through seen (item ∷ list) = seen_through (count_after item) list

-- no item is about fewer sets than were seen before it, and after it no fewer are seen
abbrev pub InOrder : ℕ → List ClientItem → Type 0
InOrder seen [] = Unit {0}
InOrder seen (item ∷ list) =
    (seen ≤ count_before item) × (count_before item ≤ count_after item) × InOrder (count_after item) list

-- of the second serials of one name that a client's reads met, each later one ranks higher
abbrev pub SecondsRise : List ClientItem → Type 0
SecondsRise list =
    (i j number number' : ℕ) (name : List ℕ) (first first' second second' : ℕ) → i < j
    → get_elem? list i ≡ some (Told (Again name number first second))
    → get_elem? list j ≡ some (Told (Again name number' first' second'))
    → rank second < rank second'

-- one client's list is in order, where it had seen `seen` before
pub record Orderly (seen : ℕ) (list : List ClientItem) : Type 0 where
  pub order : InOrder seen list
  pub rise : SecondsRise list

-- how many reads of the name met a write
abbrev pub agains_on : List ℕ → List ClientItem → ℕ
agains_on name [] = 0
agains_on name (Told (Again other number first second) ∷ list) =
    (if bytes_eq other name then 1 else 0) + agains_on name list
agains_on name (Told (Found other number value) ∷ list) = agains_on name list
agains_on name (Told (Absent other number) ∷ list) = agains_on name list
agains_on name (Told (Synced number) ∷ list) = agains_on name list
agains_on name (Told (Caught number) ∷ list) = agains_on name list
agains_on name (Asked request ∷ list) = agains_on name list

-- the rank of the second serial of the last read of the name that met a write, or `low`
abbrev pub last_second : List ℕ → ℕ → List ClientItem → ℕ
last_second name low [] = low
last_second name low (Told (Again other number first second) ∷ list) =
    last_second name (if bytes_eq other name then rank second else low) list
last_second name low (Told (Found other number value) ∷ list) = last_second name low list
last_second name low (Told (Absent other number) ∷ list) = last_second name low list
last_second name low (Told (Synced number) ∷ list) = last_second name low list
last_second name low (Told (Caught number) ∷ list) = last_second name low list
last_second name low (Asked request ∷ list) = last_second name low list

-- what a client's list says of the sets: these came first when it began, all that it was told is true, and it is in order
pub record ListStands (sets : List Set) (making : Option (List ℕ)) (began : List Set) (list : List ClientItem) : Type 0 where
  pub begins : BeginsWith sets began
  pub each : EachStands sets making list
  pub orderly : Orderly (length began) list
