-- The sets of a history, found by their names. No promise of a public call cites these definitions.
use Rattle.std.specs.Prelude.{◌≡◌, Bool, false, IsTrue, ℕ, zero, suc, ◌+◌, ◌<◌, ◌≤◌, List, [], length, position, slice_index_or, Option, Some, None}
use Rattle.std.specs.Str.{bytes_eq}
use mathlib.Core.Option.{some, none}
use mathlib.Core.Option.{Option as Found}
use lib.ListN.{get_elem?}
use Rattle.init_machine.specs.Sets.{NoneBetween, Set}

-- the list at a place, if there is one
abbrev pub list_at : List (List ℕ) → Option ℕ → List ℕ
list_at lists None = []
list_at lists (Some place) = slice_index_or lists place []

-- what is listed of a name: each name has a list at its own place
abbrev pub listed : List (List ℕ) → List (List ℕ) → List ℕ → List ℕ
listed names lists name = list_at lists (position (bytes_eq name) names)

-- a set is there, and is of the name
abbrev pub is_of : List ℕ → Found Set → Bool
is_of name none = false
is_of name (some s) = bytes_eq s.0 name

-- at this place there is a set of the name
abbrev pub IsOwn : List Set → List ℕ → ℕ → Type 0
IsOwn sets name place = IsTrue (is_of name (get_elem? sets place))

-- where sets that are not listed may stand before the entry with this number of a list: behind the entry before it
abbrev pub low_at : List ℕ → ℕ → ℕ
low_at places zero = 0
low_at places (suc i) = slice_index_or places i 0 + 1

-- The places are those of the sets of the name among the first n: a set of the name stands at each, and at none between them.
pub record IsListed (sets : List Set) (n : ℕ) (name : List ℕ) (places : List ℕ) : Type 0 where
  pub own : (i : ℕ) → i < length places → (slice_index_or places i 0 < n) × IsOwn sets name (slice_index_or places i 0)
  pub gaps : (i : ℕ) → i ≤ length places → NoneBetween sets name (low_at places i) (slice_index_or places i n)

-- each name has its places, among the first n sets
pub record IsIndexed (sets : List Set) (n : ℕ) (names lists : List (List ℕ)) : Type 0 where
  pub long : length names ≡ length lists
  pub each : (name : List ℕ) → IsListed sets n name (listed names lists name)

-- how many of the places come before a number: those before it are lower, and the others aren't
pub record SplitsAt (places : List ℕ) (number place : ℕ) : Type 0 where
  pub within : place ≤ length places
  pub low : (i : ℕ) → place ≡ i + 1 → slice_index_or places i 0 < number
  pub high : place < length places → number ≤ slice_index_or places place 0

-- the set at this place is the last one of the name among the first so many
pub record IsLastOf (sets : List Set) (name : List ℕ) (number place : ℕ) : Type 0 where
  pub before : place < number
  pub own : IsOwn sets name place
  pub last : NoneBetween sets name (place + 1) number
