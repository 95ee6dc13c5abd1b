-- What is found on a disk.
use Rattle.std.specs.Prelude.{◌≡◌, ℕ, ◌+◌, ◌<◌, ◌≤◌, List, length, take, drop, slice_index, Option, MatchOption}
use Rattle.persist_disk.specs.Image.{IsBad, IsChosen}
use Rattle.persist_disk.specs.declared.slots.Found.{Found}
use Rattle.persist_disk.specs.declared.slots.Found.TheVariants.{Store, Nothing, Bad}

-- the gate, or none where there are fewer than 16 bytes
abbrev pub IsGate : List ℕ → Option ℕ → Type 0
IsGate image gate = MatchOption gate (length image < 16) (λ gate. (16 ≤ length image) × (gate ≡ slice_index image 0))

-- so many bytes from a place on, or none where the disk has fewer
abbrev pub IsPart : List ℕ → ℕ → ℕ → Option (List ℕ) → Type 0
IsPart image at len text = MatchOption text (length image < at + len) (λ text. text ≡ take len (drop at image))

-- the store that is found
abbrev pub IsFound : ℕ → List ℕ → Found → Type 0
IsFound size image (Store chosen) = IsChosen size image chosen
IsFound size image Nothing = length image < 16
IsFound size image (Bad number len) = IsBad size image number len
