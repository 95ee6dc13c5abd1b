-- The serial of a value's cell in the property area (after bionic's prop_area; 64 bits, and the number of the set among all
-- sets, are this project's profile): a top byte in bits 56 to 63, the number of the set in bits 1 to 55, and in bit 0
-- whether the cell is dirty, which is while its body is being replaced.
use Rattle.std.specs.Prelude.{ℕ, Bool, ◌+◌, ◌*◌, ◌/◌, ◌%◌, ◌^◌, ◌==◌, nat_le, List, length, if◌then◌else◌}

-- the top byte of a value's serial: its length, or 255 for a value of more than 91 bytes, which only a name under `ro.` has
abbrev pub top_byte : List ℕ → ℕ
top_byte value = if nat_le (length value) 91 then length value else 255

-- a clean serial, by its top byte and its number
abbrev pub clean_serial : ℕ → ℕ → ℕ
clean_serial top number = top * 2 ^ 56 + number * 2

-- the serial of a cell that is clean, once bit 0 is set
abbrev pub dirty_serial : ℕ → ℕ
dirty_serial clean = clean + 1

abbrev pub top_in : ℕ → ℕ
top_in word = word / 2 ^ 56

-- a serial without its top byte: of two serials of one name, the later one is the larger by it
abbrev pub rank : ℕ → ℕ
rank word = word % 2 ^ 56

abbrev pub number_in : ℕ → ℕ
number_in word = rank word / 2

abbrev pub is_dirty : ℕ → Bool
is_dirty word = word % 2 == 1
