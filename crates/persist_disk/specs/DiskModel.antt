-- A disk, where it tells: what its calls give and leave, and what a crash leaves of it. Until a sync a crash may leave any
-- bytes in each range that was written and past the end that the disk had; the bytes outside stay. After a sync it leaves
-- what a read gives.
use Rattle.std.specs.Prelude.{◌≡◌, ◌⊎◌, ◌↔◌, ⊤, ℕ, ◌+◌, ◌-◌, ◌<◌, ◌≤◌, max, List, ◌++◌, length, take, drop, replicate, slice_index, Option, Some, None, Result, Ok, Err}
use Rattle.init_base.specs.Crash.{LeavesAlone, LeavesNoOther}
use Rattle.init_base.specs.declared.outside.refusal.Failed.{Failed}
use Rattle.init_base.specs.declared.outside.refusal.IoRefusal.{IoRefusal}

-- bytes with others written at a place; where they end before it, zeros lead up to it
abbrev pub written : List ℕ → ℕ → List ℕ → List ℕ
written old at bytes = take at old ++ replicate (at - length old) 0 ++ bytes ++ drop (at + length bytes) old

-- a place before a range of n bytes, or behind it
abbrev pub IsOutside : ℕ → ℕ → ℕ → Type 0
IsOutside at n k = (k < at) ⊎ (at + n ≤ k)

-- What a crash may make of bytes while a range of n bytes is being written: those outside stay. It has at least as many
-- bytes as before, and none behind the range and the old end.
pub record Torn (at n : ℕ) (old new : List ℕ) : Type 0 where
  pub outside : (k : ℕ) → k < length old → IsOutside at n k → slice_index new k ≡ slice_index old k
  pub no_shorter : length old ≤ length new
  pub no_longer : length new ≤ max (length old) (at + n)

-- Of a write of n bytes that began at this moment: for a moment up to then, a crash may leave no other bytes than it could
-- before, and what a crash may make of bytes that it could leave as the write began.
abbrev pub LeavesTorn : ℕ → (ℕ → List ℕ → Type 0) → (ℕ → List ℕ → Type 0) → ℕ → ℕ → Type 0
LeavesTorn began before after at n =
    (m : ℕ) (bytes : List ℕ) → m ≤ began → after m bytes → before m bytes ⊎ ((old : List ℕ) × before began old × Torn at n old bytes)

-- a crash from now on leaves what a read gives, alone
abbrev pub LeavesRead : Option (List ℕ) → (List ℕ → Type 0) → Type 0
LeavesRead None now = ⊤
LeavesRead (Some bytes) now = LeavesAlone now bytes

-- what a read gives is told, and is one of the things that a crash now may leave
abbrev pub MayLeaveRead : Option (List ℕ) → (List ℕ → Type 0) → Type 0
MayLeaveRead None now = ⊥
MayLeaveRead (Some bytes) now = now bytes

-- what `read_at` gives: what is there from the place on, as much as the buffer holds
abbrev pub ReadsFrom : Option (List ℕ) → ℕ → Result ℕ Failed → List ℕ → Type 0
ReadsFrom None at result buf = ⊤
ReadsFrom (Some bytes) at (Ok count) buf = take count buf ≡ take (length buf) (drop at bytes)
ReadsFrom (Some bytes) at (Err failed) buf = ⊤

-- what `write_at` leaves; after an error nothing is said of what is there. A disk that tells nothing goes on so.
abbrev pub WritesAt : Option (List ℕ) → Option (List ℕ) → Result ⊤ IoRefusal → ℕ → List ℕ → Type 0
WritesAt None now result at bytes = now ≡ None
WritesAt (Some old) now (Ok done) at bytes = now ≡ Some (written old at bytes)
WritesAt (Some old) now (Err refusal) at bytes = ⊤

-- Calls on a disk that change nothing of what a read gives: where it tells what a crash leaves, that is no other bytes than
-- before.
pub record OnlyReads {D : Type 0} (content : D → Option (List ℕ)) (TellsCrash : D → Type 0) (moment : D → ℕ) (MayLeave : D → ℕ → List ℕ → Type 0) (old new : D) : Type 0 where
  pub content_is : content new ≡ content old
  pub tells : TellsCrash old ↔ TellsCrash new
  pub later : TellsCrash old → moment old ≤ moment new
  pub leaves : TellsCrash old → LeavesNoOther (moment old) (MayLeave old) (MayLeave new)
