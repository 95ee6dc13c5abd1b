-- A disk in memory, by the record of its writes and syncs: what a read gives of it, and what a crash may leave.
use Rattle.std.specs.Prelude.{◌≡◌, ◌⊎◌, ℕ, ◌≤◌, List, [], ◌∷◌, length}
use Rattle.std.proofs.Common.{inl, inr, refl, ⊎_elim, arith}
use Rattle.init_base.specs.Crash.{ReachesBack}
use Rattle.init_base.specs.Memory.{Calls}
use Rattle.persist_disk.specs.DiskModel.{written, Torn}
use Rattle.persist_disk.specs.Zeros.{written_is_torn}
use Rattle.persist_disk.specs.declared.mem_disk.DiskStep.{DiskStep}
use Rattle.persist_disk.specs.declared.mem_disk.DiskStep.TheVariants.{Write, Sync}

-- what it held at first, what was written and synced since, the newest step first, and its calls
pub record Recorded : Type 0 where
  pub start : List ℕ
  pub steps : List DiskStep
  pub calls : Calls

-- a disk on which nothing was called yet
abbrev pub unrecorded : List ℕ → List ℕ → Recorded
unrecorded content fail = record { start = content; steps = []; calls = record { fail = fail; made = 0; faults = 0 } }

-- what a read gives after these steps
abbrev pub content_after : List ℕ → List DiskStep → List ℕ
content_after start [] = start
content_after start (Write at bytes ∷ steps) = written (content_after start steps) at bytes
content_after start (Sync ∷ steps) = content_after start steps

-- what a crash leaves that comes after these steps: what it could leave before a write, with its range torn; and after a
-- sync what a read gives
abbrev pub CrashLeaves : List ℕ → List DiskStep → List ℕ → Type 0
CrashLeaves start [] bytes = bytes ≡ start
CrashLeaves start (Write at written ∷ steps) bytes = (old : List ℕ) × CrashLeaves start steps old × Torn at (length written) old bytes
CrashLeaves start (Sync ∷ steps) bytes = bytes ≡ content_after start steps

-- what a crash leaves after these steps, or after fewer, of which there are at least m
abbrev pub LeftSince : List ℕ → List DiskStep → ℕ → List ℕ → Type 0
LeftSince start [] m bytes = (m ≤ 0) × CrashLeaves start [] bytes
LeftSince start (step ∷ steps) m bytes = ((m ≤ length (step ∷ steps)) × CrashLeaves start (step ∷ steps) bytes) ⊎ LeftSince start steps m bytes

-- what a read gives, a crash may leave
pub read_is_left : (start : List ℕ) (steps : List DiskStep) → CrashLeaves start steps (content_after start steps)
read_is_left start [] = refl
read_is_left start (Write at bytes ∷ steps) = (content_after start steps, read_is_left start steps, written_is_torn (content_after start steps) at bytes)
read_is_left start (Sync ∷ steps) = refl

-- a crash now is one at some moment since now
pub left_now : (start : List ℕ) (steps : List DiskStep) (bytes : List ℕ) → CrashLeaves start steps bytes → LeftSince start steps (length steps) bytes
left_now start [] bytes left = (omega arith, left)
left_now start (step ∷ steps) bytes left = inl (omega arith, left)

-- since a moment that is to come nothing is left
pub none_later : (start : List ℕ) (steps : List DiskStep) (m : ℕ) (bytes : List ℕ) → LeftSince start steps m bytes → m ≤ length steps
none_later start [] m bytes left = left.0
none_later start (step ∷ steps) m bytes left = ⊎_elim (λ (now : (m ≤ length (step ∷ steps)) × CrashLeaves start (step ∷ steps) bytes). now.0) (λ past. let le = none_later start steps m bytes past in omega arith) left

pub reaches_back : (start : List ℕ) (steps : List DiskStep) → ReachesBack (LeftSince start steps)
reaches_back start [] m n bytes le left = let at = left.0 in (omega arith, left.1)
reaches_back start (step ∷ steps) m n bytes le left =
    ⊎_elim (λ (now : (n ≤ length (step ∷ steps)) × CrashLeaves start (step ∷ steps) bytes). let at = now.0 in inl (omega arith, now.1)) (λ past. inr (reaches_back start steps m n bytes le past)) left
