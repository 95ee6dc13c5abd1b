-- What a keeper of the persistent store tells, and what stands with it once it was given texts one after another.
use Rattle.std.specs.Prelude.{◌≡◌, ℕ, ◌≤◌, ◌⊎◌, List, [], ◌∷◌, Option}
use Rattle.init_driver.specs.Stored.{Keeps}

-- What a keeper tells: the text that it holds; and where it tells what a crash leaves, its moment, and for each moment the
-- texts that a crash at some moment since then may leave.
pub record KeeperView : Type 1 where
  pub held : Option (List ℕ)
  pub TellsCrash : Type 0
  pub moment : ℕ
  pub MayLeave : ℕ → List ℕ → Type 0

-- the view of a keeper
abbrev pub seen_by : {K : Type 0} → (K → Option (List ℕ)) → (K → Type 0) → (K → ℕ) → (K → ℕ → List ℕ → Type 0) → K → KeeperView
seen_by held tells moment leaves keeper = record {
  held = held keeper;
  TellsCrash = tells keeper;
  moment = moment keeper;
  MayLeave = leaves keeper;
}

-- what a crash may leave now
abbrev pub LeavesNow : KeeperView → List ℕ → Type 0
LeavesNow keeper text = keeper.MayLeave keeper.moment text

abbrev pub IsOneOf : List (List ℕ) → List ℕ → Type 0
IsOneOf [] text = ⊥
IsOneOf (given ∷ rest) text = (text ≡ given) ⊎ IsOneOf rest text

-- the text is the last of these; where there is none, it is one of those that could be left before
abbrev pub IsLast : (List ℕ → Type 0) → List (List ℕ) → List ℕ → Type 0
IsLast Before [] text = Before text
IsLast Before (given ∷ rest) text = IsLast (λ other. other ≡ given) rest text

-- since a moment up to the first state, a crash left what it could leave before, or one of these texts
abbrev pub LeavesSince : KeeperView → KeeperView → List (List ℕ) → Type 0
LeavesSince old new texts = (m : ℕ) (text : List ℕ) → m ≤ old.moment → new.MayLeave m text → old.MayLeave m text ⊎ IsOneOf texts text

-- a keeper that tells what a crash leaves took each of these texts: a crash now leaves the last one
pub record Survives (old new : KeeperView) (texts : List (List ℕ)) : Type 0 where
  pub tells : new.TellsCrash
  pub later : old.moment ≤ new.moment
  pub since : LeavesSince old new texts
  pub now : (text : List ℕ) → LeavesNow new text → IsLast (LeavesNow old) texts text

-- a keeper was given these texts one after another, and took each
pub record Took (old new : KeeperView) (texts : List (List ℕ)) : Type 0 where
  pub held : Keeps old.held new.held texts
  pub crash : old.TellsCrash → Survives old new texts

-- the keeper took the one texts, or it took the others: a crash now leaves the last of the one or of the others
pub record Risks (old new : KeeperView) (texts others : List (List ℕ)) : Type 0 where
  pub later : old.moment ≤ new.moment
  pub since : LeavesSince old new others
  pub now : (text : List ℕ) → LeavesNow new text → IsLast (LeavesNow old) texts text ⊎ IsLast (LeavesNow old) others text
