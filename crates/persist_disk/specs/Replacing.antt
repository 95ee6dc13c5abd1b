-- What a replace writes of a store, and what a crash may leave of it.
use Rattle.std.specs.Prelude.{◌≡◌, ◌⊎◌, ⊤, ℕ, ◌<◌, ◌≤◌, List, [], ◌∷◌, ◌++◌, length, Option, Some, None, Result, Ok, Err, replicate}
use Rattle.init_base.specs.declared.outside.refusal.IoRefusal.{IoRefusal}
use Rattle.persist_disk.specs.DiskModel.{written}
use Rattle.persist_disk.specs.Image.{number_of, other_slot, place_of, slot_bytes, text_of, Opens}
use Rattle.persist_disk.specs.declared.layout.Slot.{Slot}

-- the disk of a store that was formatted with this text
abbrev pub formatted : List ℕ → List ℕ
formatted text = replicate 8 0 ++ slot_bytes text

-- the disk with the text in the slot that isn't chosen
abbrev pub with_slot : ℕ → Slot → List ℕ → List ℕ → List ℕ
with_slot size chosen image text = written image (place_of size (other_slot chosen)) (slot_bytes text)

-- and then with the gate that chooses it
abbrev pub replaced : ℕ → Slot → List ℕ → List ℕ → List ℕ
replaced size chosen image text = written (with_slot size chosen image text) 0 (number_of (other_slot chosen) ∷ [])

-- what formatting leaves of a disk of fewer than 16 bytes
abbrev pub Formats : Option (List ℕ) → Option (List ℕ) → Result ⊤ IoRefusal → List ℕ → Type 0
Formats None now result text = now ≡ None
Formats (Some image) now (Ok done) text = length image < 16 → now ≡ Some (formatted text)
Formats (Some image) now (Err refusal) text = ⊤

-- what a replace leaves
abbrev pub Puts : ℕ → Slot → Option (List ℕ) → Option (List ℕ) → Result ⊤ IoRefusal → List ℕ → Type 0
Puts size chosen None now result text = now ≡ None
Puts size chosen (Some image) now (Ok done) text = now ≡ Some (replaced size chosen image text)
Puts size chosen (Some image) now (Err refusal) text = ⊤

-- Of a replace that began at this moment: for a moment up to then, a crash may leave no other bytes than it could before,
-- and such as open to the text that was there or to the new one.
abbrev pub LeavesEither : ℕ → ℕ → (ℕ → List ℕ → Type 0) → (ℕ → List ℕ → Type 0) → List ℕ → List ℕ → Type 0
LeavesEither size began before after image text =
    (m : ℕ) (bytes : List ℕ) → m ≤ began → after m bytes → before m bytes ⊎ (Opens size bytes (text_of size image) ⊎ Opens size bytes text)
