-- What reopening a store answers.
use Rattle.std.specs.Prelude.{◌≡◌, ⊤, ℕ, List, [], length, Result, Ok, Err, nat_le, if◌then◌else◌}
use Rattle.init_machine.specs.declared.config.Pair.{Pair}
use Rattle.persist_disk.specs.Image.{text_of, IsBad}
use Rattle.persist_disk.specs.declared.refusal.ReopenRefusal.{ReopenRefusal}
use Rattle.persist_disk.specs.declared.refusal.ReopenRefusal.TheVariants.{Failed, BadSlot, BadLine, NoMemory}
use Rattle.persist_file.specs.Causes.{IsUnfitAt}
use Rattle.persist_file.specs.Store.{IsStore}

-- the text of the store: of a disk of fewer than 16 bytes the empty one
abbrev pub reopened_text : ℕ → List ℕ → List ℕ
reopened_text size image = (if nat_le 16 (length image) then text_of size image else [])

-- what is answered before the text is read
abbrev pub OpensToText : ℕ → List ℕ → Result (List ℕ) ReopenRefusal → Type 0
OpensToText size image (Ok text) = text ≡ reopened_text size image
OpensToText size image (Err Failed) = ⊤
OpensToText size image (Err (BadSlot number len)) = IsBad size image number len
OpensToText size image (Err (BadLine line why)) = ⊥
OpensToText size image (Err NoMemory) = ⊤

abbrev pub ReopensAs : ℕ → List ℕ → Result (List Pair) ReopenRefusal → Type 0
ReopensAs size image (Ok pairs) = IsStore (reopened_text size image) pairs
ReopensAs size image (Err Failed) = ⊤
ReopensAs size image (Err (BadSlot number len)) = IsBad size image number len
ReopensAs size image (Err (BadLine line why)) = IsUnfitAt (reopened_text size image) line why
ReopensAs size image (Err NoMemory) = ⊤
