-- What a crash may leave, one write after another.
use Rattle.std.proofs.Common.{◌≡◌, inl, inr, ⊎_elim, ℕ, ◌+◌, ◌≤◌, List, length, Option, Some, None, Result, Ok, Err, IfSome, ◌∙◌, ap, subst, arith}
use Rattle.init_base.specs.Crash.{LeavesAlone}
use Rattle.init_base.specs.declared.outside.refusal.IoRefusal.{IoRefusal}
use Rattle.std.specs.Prelude.{⊤}
use Rattle.persist_disk.specs.DiskModel.{written, LeavesRead, LeavesTorn, Torn, WritesAt}
use Rattle.persist_disk.specs.Image.{chosen_slot, other_slot, place_of, slot_bytes, IsStore}
use Rattle.persist_disk.specs.Replacing.{formatted, with_slot, Formats, LeavesEither}
use Rattle.persist_disk.specs.declared.layout.Slot.{Slot}
use Rattle.persist_disk.specs.Zeros.{written_over}
use Rattle.persist_disk.proofs.Crashes.{length-slot_bytes, slot_crash, gate_crash}

pub format_writes : (content now : Option (List ℕ)) (result : Result ⊤ IoRefusal) (bytes text : List ℕ) → WritesAt content now result 0 bytes → bytes ≡ formatted text → Formats content now result text
format_writes None now result bytes text writes is = writes
format_writes (Some image) now (Ok done) bytes text writes is = λ few.
    writes ∙ ap (λ (l : List ℕ). Some l) (written_over image bytes (omega (arith, ap length is, length-slot_bytes text)) ∙ is)
format_writes (Some image) now (Err refusal) bytes text writes is = tt

pub slot_leaves : (content : Option (List ℕ)) (before after : ℕ → List ℕ → Type 0) (began size : ℕ) (slot : Slot) (bytes text : List ℕ) → length text + 8 ≤ size → size ≤ 33554440 → bytes ≡ slot_bytes text
    → LeavesTorn began before after (place_of size (other_slot slot)) (length bytes) → LeavesRead content (before began)
    → IfSome content (λ image. IsStore size image → slot ≡ chosen_slot image → LeavesEither size began before after image text)
slot_leaves None before after began size slot bytes text fits bound is leaves safe = tt
slot_leaves (Some image) before after began size slot bytes text fits bound is leaves safe = λ store slot_is m c le left.
    ⊎_elim
    (λ was. inl was)
    (λ torn.
    let at_slot = subst (λ (old : List ℕ). Torn (place_of size (other_slot slot)) (length bytes) old c) ((safe torn.0).0 torn.1) torn.2 in
    inr (inl (slot_crash size image text slot store slot_is fits bound c (subst (λ (l : List ℕ). Torn (place_of size (other_slot slot)) (length l) image c) is at_slot))))
    (leaves m c le left)

pub gate_leaves : (content slotted : Option (List ℕ)) (before middle after : ℕ → List ℕ → Type 0) (began later size : ℕ) (slot : Slot) (bytes text : List ℕ) → length text + 8 ≤ size → size ≤ 33554440 → bytes ≡ slot_bytes text → began ≤ later
    → LeavesTorn began before middle (place_of size (other_slot slot)) (length bytes) → WritesAt content slotted (Ok tt) (place_of size (other_slot slot)) bytes → LeavesRead slotted (middle later)
    → LeavesTorn later middle after 0 1 → LeavesRead content (before began)
    → IfSome content (λ image. IsStore size image → slot ≡ chosen_slot image → LeavesEither size began before after image text)
gate_leaves None slotted before middle after began later size slot bytes text fits bound is le_later first writes kept second safe = tt
gate_leaves (Some image) slotted before middle after began later size slot bytes text fits bound is le_later first writes kept second safe = λ store slot_is m c le left.
    let now_is : slotted ≡ Some (with_slot size slot image text) = writes ∙ ap (λ (l : List ℕ). Some (written image (place_of size (other_slot slot)) l)) is in
    let alone : LeavesAlone (middle later) (with_slot size slot image text) = subst (λ (o : Option (List ℕ)). LeavesRead o (middle later)) now_is kept in
    ⊎_elim
    (λ was. slot_leaves (Some image) before middle began size slot bytes text fits bound is first safe store slot_is m c le was)
    (λ torn. inr (gate_crash size image text slot store slot_is fits bound c (subst (λ (old : List ℕ). Torn 0 1 old c) ((alone torn.0).0 torn.1) torn.2)))
    (second m c (omega arith) left)
