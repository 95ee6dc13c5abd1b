-- Bytes that are compared eight at a time.
use Rattle.std.specs.Prelude.{ℕ, ◌+◌, ◌≡◌, ◌<◌, ◌≤◌, List, [], ◌∷◌, slice_index}

-- the eight bytes from a place on
abbrev pub eight_at : List ℕ → ℕ → List ℕ
eight_at bytes at =
    slice_index bytes at ∷ slice_index bytes (at + 1) ∷ slice_index bytes (at + 2) ∷ slice_index bytes (at + 3)
    ∷ slice_index bytes (at + 4) ∷ slice_index bytes (at + 5) ∷ slice_index bytes (at + 6) ∷ slice_index bytes (at + 7) ∷ []

-- the four bytes from a place on
abbrev pub four_at : List ℕ → ℕ → List ℕ
four_at bytes at = slice_index bytes at ∷ slice_index bytes (at + 1) ∷ slice_index bytes (at + 2) ∷ slice_index bytes (at + 3) ∷ []

-- two lists have the same bytes from one place to before another
abbrev pub AreSameIn : ℕ → ℕ → List ℕ → List ℕ → Type 0
AreSameIn from to one other = (place : ℕ) → from ≤ place → place < to → slice_index one place ≡ slice_index other place
