-- What looking for a store answers is what opening it answers, where it refuses.
use Rattle.std.proofs.Common.{ℕ, List, Option, Err}
use Rattle.persist_disk.specs.Keeping.{FindsAs, OpensAs}
use Rattle.persist_disk.specs.declared.refusal.OpenRefusal.{OpenRefusal}
use Rattle.persist_disk.specs.declared.refusal.OpenRefusal.TheVariants.{Failed, TooLarge, BadSlot, NoMemory}

pub opens_refused : (T : Type 0) → (size : ℕ) (image : List ℕ) (old : Option (List ℕ)) (refusal : OpenRefusal) → FindsAs size image (Err refusal) → OpensAs {T = T} size image old (Err refusal)
opens_refused T size image old Failed finds = tt
opens_refused T size image old TooLarge finds = absurd finds
opens_refused T size image old (BadSlot number len) finds = finds
opens_refused T size image old NoMemory finds = tt
