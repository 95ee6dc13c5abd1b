-- The lines of files that the code has read.
use Rattle.std.specs.Prelude.{◌≡◌, ℕ, ◌<◌, ⊤, nat_eq, All, List, length, slice_get, Some}
use Rattle.std.specs.List.{list_any}
use Rattle.rc_import.specs.declared.loaded.LoadRefusal.{LoadRefusal}
use Rattle.rc_import.specs.declared.loaded.LoadRefusal.TheVariants as why
use Rattle.lint_sources.specs.Excused.{all_taken_elsewhere}
use Rattle.lint_sources.specs.Told.{Told, lines_at}
use Rattle.lint_sources.specs.declared.source.Source.{Source}

-- a refusal behind the load: by a fault, or for want of memory
abbrev pub IsLater : LoadRefusal → Type 0
IsLater why.NoInit = ⊥
IsLater why.ReadFault = ⊤
IsLater (why.TooLarge path limit number) = ⊥
IsLater (why.TooMany path number) = ⊥
IsLater why.NoMemory = ⊤

-- a set has these numbers
abbrev pub HasNumbers : List ℕ → List ℕ → Type 0
HasNumbers keys numbers = (number : ℕ) → list_any (nat_eq number) keys ≡ list_any (nat_eq number) numbers

-- the lines that another init takes are those of the file in the told tree
abbrev pub IsSourceOf : List (List ℕ) → Told → Source → Type 0
IsSourceOf allowed told source = HasNumbers source.taken.keys (all_taken_elsewhere allowed (lines_at told source.file))

abbrev pub AreSourcesOf : List (List ℕ) → Told → List Source → Type 0
AreSourcesOf allowed told sources = All (IsSourceOf allowed told) sources

-- a file stands at a place
pub record HasSourceAt (sources : List Source) (file : List ℕ) (place : ℕ) : Type 0 where
  pub within : place < length sources
  pub source : Source
  pub is_there : slice_get sources place ≡ Some source
  pub file_is : source.file ≡ file
