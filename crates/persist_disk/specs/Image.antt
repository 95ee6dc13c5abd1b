-- What stands on the disk of a store: a gate byte at 0, seven zero bytes, slot 0 at 8, and slot 1 behind it. The even gate
-- chooses slot 0, the odd one slot 1. A slot is the length of a text, eight bytes, lowest first, and the text.
use Rattle.std.specs.Prelude.{◌≡◌, ◌⊎◌, ℕ, ◌+◌, ◌%◌, ◌<◌, ◌≤◌, ◌==◌, List, ◌++◌, length, take, drop, replicate, slice_index, if◌then◌else◌}
use Rattle.std.specs.Int.{w64, to_le_bytes, from_le_bytes}
use Rattle.persist_disk.specs.declared.layout.Slot.{Slot}
use Rattle.persist_disk.specs.declared.layout.Slot.TheVariants.{Zero, One}
use Rattle.persist_disk.specs.declared.layout.Chosen.{Chosen}

-- the slot that a gate chooses
abbrev pub slot_of : ℕ → Slot
slot_of gate = if gate % 2 == 0 then Zero else One

abbrev pub number_of : Slot → ℕ
number_of Zero = 0
number_of One = 1

abbrev pub other_slot : Slot → Slot
other_slot Zero = One
other_slot One = Zero

-- where a slot begins, of slots of this size
abbrev pub place_of : ℕ → Slot → ℕ
place_of size Zero = 8
place_of size One = 8 + size

abbrev pub chosen_slot : List ℕ → Slot
chosen_slot image = slot_of (slice_index image 0)

abbrev pub chosen_place : ℕ → List ℕ → ℕ
chosen_place size image = place_of size (chosen_slot image)

-- a number in eight bytes, lowest first
unfoldable pub eight_bytes : ℕ → List ℕ
eight_bytes n = to_le_bytes w64 n

-- a slot that holds this text
abbrev pub slot_bytes : List ℕ → List ℕ
slot_bytes text = eight_bytes (length text) ++ text

-- the number in the eight bytes at a place; a byte past the end counts as FF
unfoldable pub length_at : List ℕ → ℕ → ℕ
length_at image at = from_le_bytes w64 (take 8 (drop at image ++ replicate 8 255))

-- the length of the chosen slot
abbrev pub chosen_length : ℕ → List ℕ → ℕ
chosen_length size image = length_at image (chosen_place size image)

-- the text in the chosen slot
abbrev pub text_of : ℕ → List ℕ → List ℕ
text_of size image = take (chosen_length size image) (drop (chosen_place size image + 8) image)

-- a disk that was formatted, whose chosen slot has a length that it can hold
pub record IsStore (size : ℕ) (image : List ℕ) : Type 0 where
  pub formatted : 16 ≤ length image
  pub fits : chosen_length size image + 8 ≤ size
  pub whole : chosen_place size image + 8 + chosen_length size image ≤ length image

-- opening a disk with these bytes gives this text
abbrev pub Opens : ℕ → List ℕ → List ℕ → Type 0
Opens size image text = IsStore size image × (text ≡ text_of size image)

-- What a crash that left these bytes leaves of the text: opening gives it. Where opening gives none, it is any text.
abbrev pub Reopens : ℕ → List ℕ → List ℕ → Type 0
Reopens size image text = IsStore size image → text ≡ text_of size image

-- the chosen slot's length is more than a slot holds, or passes the end of the disk
pub record IsBad (size : ℕ) (image : List ℕ) (number len : ℕ) : Type 0 where
  pub formatted : 16 ≤ length image
  pub slot_is : number ≡ number_of (chosen_slot image)
  pub len_is : len ≡ chosen_length size image
  pub unfit : (size < len + 8) ⊎ (length image < chosen_place size image + 8 + len)

-- the slot that is chosen, and the length of its text
pub record IsChosen (size : ℕ) (image : List ℕ) (chosen : Chosen) : Type 0 where
  pub store : IsStore size image
  pub slot_is : chosen.slot ≡ chosen_slot image
  pub len_is : chosen.len ≡ chosen_length size image
