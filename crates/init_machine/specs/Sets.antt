-- The accepted sets of a history, in their order: the first one has number 1.
use Rattle.std.specs.Prelude.{◌≡◌, ℕ, ◌+◌, ◌≤◌, ◌<◌, List, [], ◌∷◌, ◌++◌, take, Option, Some, None, if◌then◌else◌}
use Rattle.std.specs.Str.{bytes_eq}
use mathlib.Core.Option.{some}
use lib.ListN.{get_elem?}

-- a name and the value that it was set to
abbrev pub Set : Type 0
Set = List ℕ × List ℕ

-- the value of the last of these sets that has the name, else the given value
abbrev pub last_value : List Set → List ℕ → Option (List ℕ) → Option (List ℕ)
last_value [] name value = value
last_value (s ∷ sets) name value = last_value sets name (if bytes_eq s.0 name then Some s.1 else value)

-- the value that a name has after the first n sets
abbrev pub value_at : List Set → ℕ → List ℕ → Option (List ℕ)
value_at sets n name = last_value (take n sets) name None

-- the set with this number is of this name and value
pub record Numbered (sets : List Set) (number : ℕ) (name value : List ℕ) : Type 0 where
  pub place : ℕ
  pub number_is : number ≡ place + 1
  pub set_is : get_elem? sets place ≡ some (name, value)

-- no set with a number above `low`, up to `high`, is of this name
abbrev pub NoneBetween : List Set → List ℕ → ℕ → ℕ → Type 0
NoneBetween sets name low high =
    (k : ℕ) (value : List ℕ) → low ≤ k → k < high → ¬ (get_elem? sets k ≡ some (name, value))

-- some set with a number above `low` is of this name
abbrev pub LaterSet : List Set → List ℕ → ℕ → Type 0
LaterSet sets name low = (k : ℕ) × (value : List ℕ) × (low ≤ k) × (get_elem? sets k ≡ some (name, value))

-- of the first `count` sets, the last one of this name has this number and value
pub record LastSet (sets : List Set) (count : ℕ) (name : List ℕ) (number : ℕ) (value : List ℕ) : Type 0 where
  pub numbered : Numbered sets number name value
  pub early : number ≤ count
  pub last : NoneBetween sets name number count

-- these sets came first
abbrev pub BeginsWith : List Set → List Set → Type 0
BeginsWith sets first = (more : List Set) × (sets ≡ first ++ more)

-- the number of the last of these sets that has the name, where `count` sets came before them; else the given number
abbrev pub last_number_from : ℕ → List Set → List ℕ → ℕ → ℕ
last_number_from count [] name number = number
last_number_from count (s ∷ sets) name number =
    last_number_from (count + 1) sets name (if bytes_eq s.0 name then count + 1 else number)

-- the number of the last set that has the name, or 0
abbrev pub last_number_in : List Set → List ℕ → ℕ
last_number_in sets name = last_number_from 0 sets name 0

-- how many of these sets have the name
abbrev pub count_on : List ℕ → List Set → ℕ
count_on name [] = 0
count_on name (s ∷ sets) = (if bytes_eq s.0 name then 1 else 0) + count_on name sets
