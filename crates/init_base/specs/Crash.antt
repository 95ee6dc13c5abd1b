-- What a keeper may tell of crashes: for a moment, which texts a crash at some moment since then may leave.
use Rattle.std.specs.Prelude.{◌≡◌, ℕ, ◌≤◌, ◌⊎◌, ◌↔◌, List}

-- Of a call that began at this moment: for a moment up to then, a crash may leave no text that it couldn't leave before.
abbrev pub LeavesNoOther : ℕ → (ℕ → List ℕ → Type 0) → (ℕ → List ℕ → Type 0) → Type 0
LeavesNoOther began before after = (m : ℕ) (text : List ℕ) → m ≤ began → after m text → before m text

-- Of a call that began at this moment: for a moment up to then, a crash may leave no other text than it could leave
-- before, and the new one.
abbrev pub LeavesOneMore : ℕ → (ℕ → List ℕ → Type 0) → (ℕ → List ℕ → Type 0) → List ℕ → Type 0
LeavesOneMore began before after content = (m : ℕ) (text : List ℕ) → m ≤ began → after m text → before m text ⊎ (text ≡ content)

-- a crash from now on leaves this text alone
abbrev pub LeavesAlone : (List ℕ → Type 0) → List ℕ → Type 0
LeavesAlone now content = (text : List ℕ) → now text ↔ (text ≡ content)

-- what a crash may leave since a moment it may leave since each earlier one too
abbrev pub ReachesBack : (ℕ → List ℕ → Type 0) → Type 0
ReachesBack leaves = (m n : ℕ) (text : List ℕ) → m ≤ n → leaves n text → leaves m text
