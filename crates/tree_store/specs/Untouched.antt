-- The store of a tree as it begins. A disk and a keeper over the machine's files are their counts of faults to contracts.
use Rattle.std.specs.Prelude.{ℕ}
use Rattle.persist_disk.specs.Keeping.{DiskStore, unopened}

-- the size of a slot: 32 MiB of text, and its length
abbrev pub slot_size : ℕ
slot_size = 33554440

-- No call was made on it: no open stands, and no fault is counted of its image, of the text that it begins with, or of itself.
abbrev pub untouched_store : DiskStore ℕ ℕ
untouched_store = unopened 0 slot_size 0
