-- Reads leave an open standing.
use Rattle.std.proofs.Common.{◌≡◌, ℕ, ◌+◌, ◌<◌, ◌≤◌, List, length, Option, Some, None, Ok, IfSome, refl, sym, ◌∙◌, ap, subst, arith}
use Rattle.init_base.specs.Crash.{LeavesNoOther, ReachesBack}
use Rattle.persist_disk.specs.DiskModel.{LeavesRead, MayLeaveRead, OnlyReads}
use Rattle.persist_disk.specs.Keeping.{IsKept, StandsOn}
use Rattle.persist_disk.specs.Image.{other_slot, IsChosen}
use Rattle.persist_disk.specs.Replacing.{formatted, replaced, Formats, Puts}
use Rattle.persist_disk.specs.declared.layout.Slot.{Slot}
use Rattle.persist_disk.specs.declared.layout.Slot.TheVariants.{Zero}
use Rattle.persist_disk.proofs.Crashes.{length-text_of, opens_formatted, opens_replaced}
use Rattle.persist_disk.specs.declared.layout.Chosen.{Chosen}

-- what was safe still is, where a crash may leave no more than before, and what a read gives
still_safe : (content : Option (List ℕ)) (before after : ℕ → List ℕ → Type 0) (began ended : ℕ) → LeavesRead content (before began) → began ≤ ended → LeavesNoOther began before after → ReachesBack after
    → MayLeaveRead content (after ended) → LeavesRead content (after ended)
still_safe None before after began ended safe le leaves earlier read = tt
still_safe (Some bytes) before after began ended safe le leaves earlier read = λ c. (
  λ left. (safe c).0 (leaves began c (omega arith) (earlier began ended c le left)),
  λ is. subst (λ (l : List ℕ). after ended l) (sym is) read,
)

module _ {D : Type 0} (content : D → Option (List ℕ)) (TellsCrash : D → Type 0) (moment : D → ℕ) (MayLeave : D → ℕ → List ℕ → Type 0) where
  pub safe_after_reads : (old new : D) → OnlyReads content TellsCrash moment MayLeave old new → ReachesBack (MayLeave new) → (TellsCrash new → MayLeaveRead (content new) (MayLeave new (moment new)))
      → TellsCrash old → LeavesRead (content old) (MayLeave old (moment old)) → LeavesRead (content new) (MayLeave new (moment new))
  safe_after_reads old new reads earlier given tells safe =
      still_safe (content new) (MayLeave old) (MayLeave new) (moment old) (moment new)
      (subst (λ (o : Option (List ℕ)). LeavesRead o (MayLeave old (moment old))) (sym reads.content_is) safe)
      (reads.later tells) (reads.leaves tells) earlier (given (reads.tells.0 tells))

  pub reads_then : (old middle new : D) → OnlyReads content TellsCrash moment MayLeave old middle → OnlyReads content TellsCrash moment MayLeave middle new → OnlyReads content TellsCrash moment MayLeave old new
  reads_then old middle new first second = record {
    content_is = subst (λ (o : Option (List ℕ)). content new ≡ o) first.content_is second.content_is;
    tells = (λ tells. second.tells.0 (first.tells.0 tells), λ tells. first.tells.1 (second.tells.1 tells));
    later = λ tells. let a = first.later tells in let b = second.later (first.tells.0 tells) in omega arith;
    leaves = λ tells m c le left. let a = first.later tells in first.leaves tells m c le (second.leaves (first.tells.0 tells) m c (omega arith) left);
  }

  pub stands_after_reads : (old new : D) (size : ℕ) (chosen : Chosen) → OnlyReads content TellsCrash moment MayLeave old new → ReachesBack (MayLeave new) → (TellsCrash new → MayLeaveRead (content new) (MayLeave new (moment new)))
      → StandsOn content TellsCrash moment MayLeave old size chosen → StandsOn content TellsCrash moment MayLeave new size chosen
  stands_after_reads old new size chosen reads earlier given stands = record {
    store = subst (λ (o : Option (List ℕ)). IfSome o (λ image. IsChosen size image chosen)) (sym reads.content_is) stands.store;
    safe = λ tells. safe_after_reads old new reads earlier given (reads.tells.1 tells) (stands.safe (reads.tells.1 tells));
  }

  pub kept_after_reads : (old new : D) (size : ℕ) (chosen : Option Chosen) → OnlyReads content TellsCrash moment MayLeave old new → ReachesBack (MayLeave new) → (TellsCrash new → MayLeaveRead (content new) (MayLeave new (moment new)))
      → IsKept content TellsCrash moment MayLeave old size chosen → IsKept content TellsCrash moment MayLeave new size chosen
  kept_after_reads old new size None reads earlier given kept = record { low = kept.low; high = kept.high; open_stands = tt }
  kept_after_reads old new size (Some chosen) reads earlier given kept =
      record { low = kept.low; high = kept.high; open_stands = stands_after_reads old new size chosen reads earlier given kept.open_stands }

-- a disk that was formatted is a store whose slot 0 is chosen
pub chosen_formatted : (content now : Option (List ℕ)) (size len : ℕ) (text : List ℕ) → Formats content now (Ok tt) text → IfSome content (λ image. length image < 16) → len ≡ length text → length text + 8 ≤ size → size ≤ 33554440
    → IfSome now (λ image. IsChosen size image (record { slot = Zero; len = len }))
chosen_formatted None now size len text formats few len_is fits bound = subst (λ (o : Option (List ℕ)). IfSome o (λ image. IsChosen size image (record { slot = Zero; len = len }))) (sym formats) tt
chosen_formatted (Some image) now size len text formats few len_is fits bound =
    let opens = opens_formatted size text fits bound in
    subst (λ (o : Option (List ℕ)). IfSome o (λ image. IsChosen size image (record { slot = Zero; len = len }))) (sym (formats few)) (record {
      store = opens.0;
      slot_is = refl;
      len_is = len_is ∙ ap length opens.1 ∙ length-text_of size (formatted text) opens.0;
    })

-- the store after a replace has the new slot chosen
pub chosen_put : (content now : Option (List ℕ)) (size len : ℕ) (chosen : Chosen) (next : Slot) (text : List ℕ) → Puts size chosen.slot content now (Ok tt) text → IfSome content (λ image. IsChosen size image chosen)
    → next ≡ other_slot chosen.slot → len ≡ length text → length text + 8 ≤ size → size ≤ 33554440 → IfSome now (λ image. IsChosen size image (record { slot = next; len = len }))
chosen_put None now size len chosen next text puts stands next_is len_is fits bound = subst (λ (o : Option (List ℕ)). IfSome o (λ image. IsChosen size image (record { slot = next; len = len }))) (sym puts) tt
chosen_put (Some image) now size len chosen next text puts stands next_is len_is fits bound =
    let opens = opens_replaced size image text chosen.slot stands.store stands.slot_is fits bound in
    subst (λ (o : Option (List ℕ)). IfSome o (λ image. IsChosen size image (record { slot = next; len = len }))) (sym puts) (record {
      store = opens.0.0;
      slot_is = next_is ∙ sym opens.1;
      len_is = len_is ∙ ap length opens.0.1 ∙ length-text_of size (replaced size chosen.slot image text) opens.0.0;
    })
