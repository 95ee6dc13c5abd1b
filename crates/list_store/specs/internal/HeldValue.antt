-- How the plain store keeps a value: up to 91 bytes in place, more in a buffer of its own.
use Rattle.std.specs.Prelude.{◌≡◌, ℕ, ◌≤◌, List, [], length, take, Option, Some, None}
use Rattle.std.specs.Vec.{vec_capacity}
use Rattle.std.specs.Global.{Vec}
use Rattle.list_store.specs.declared.held.Kept.{Kept}
use Rattle.list_store.specs.declared.held.Kept.TheVariants.{Short, Long}

abbrev pub bytes_of : Kept → List ℕ
bytes_of (Short bytes len) = take len bytes
bytes_of (Long text) = text.items

abbrev pub IsKept : Kept → Type 0
IsKept (Short bytes len) = (len ≤ 91) × (length bytes ≡ 91)
IsKept (Long text) = length text.items ≤ 8191

-- a buffer, where there is one, is empty and has room for any value
abbrev pub HasRoom : Option (Vec ℕ) → Type 0
HasRoom None = Unit {0}
HasRoom (Some buffer) = (buffer.items ≡ []) × (8191 ≤ vec_capacity buffer)

-- for how many sets there is memory: none without a buffer
abbrev pub spare_with : Option (Vec ℕ) → ℕ → ℕ
spare_with None sets = 0
spare_with (Some buffer) sets = sets
