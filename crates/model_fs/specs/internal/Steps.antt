-- The paths that have places, each by its step: the place of its parent, and the number of its last part.
use Rattle.std.specs.Prelude.{◌≡◌, ℕ, ◌<◌, Bool, true, false, ◌&&◌, nat_eq, List, [], ◌∷◌, ◌++◌, length, position, slice_get, slice_index_or, Option, Some, None, is_some, if◌then◌else◌}
use Rattle.std.specs.Str.{bytes_eq}
use Rattle.init_machine.specs.FileTree.{is_path, parts_of, same_path}
use Rattle.model_fs.specs.declared.noted.Noted.{Noted}
use Rattle.model_fs.specs.declared.places.Step.{Step}

-- the path behind that of a parent, of the parts by their numbers; the root has no parent
abbrev pub path_behind : List (List ℕ) → List (List (List ℕ)) → Option ℕ → ℕ → List (List ℕ)
path_behind names paths None name = []
path_behind names paths (Some parent) name = slice_index_or paths parent [] ++ slice_index_or names name [] ∷ []

abbrev pub path_of : List (List ℕ) → List (List (List ℕ)) → Step → List (List ℕ)
path_of names paths step = path_behind names paths step.parent step.name

-- the paths of steps, behind paths that have places
abbrev pub paths_onto : List (List ℕ) → List (List (List ℕ)) → List Step → List (List (List ℕ))
paths_onto names paths [] = paths
paths_onto names paths (step ∷ steps) = paths_onto names (paths ++ path_of names paths step ∷ []) steps

abbrev pub paths_of : List (List ℕ) → List Step → List (List (List ℕ))
paths_of names steps = paths_onto names [] steps

-- the place of a path
abbrev pub place_of : List (List (List ℕ)) → List (List ℕ) → Option ℕ
place_of paths path = position (λ other. same_path other path) paths

-- a path more at the end, unless it has a place
abbrev pub with_path : List (List (List ℕ)) → List (List ℕ) → List (List (List ℕ))
with_path paths path = if is_some (place_of paths path) then paths else paths ++ path ∷ []

-- no path has two places
abbrev pub AreDistinct : List (List (List ℕ)) → Type 0
AreDistinct paths = (i j : ℕ) → i < length paths → j < length paths → slice_index_or paths i [] ≡ slice_index_or paths j [] → i ≡ j

abbrev pub same_parent : Option ℕ → Option ℕ → Bool
same_parent None None = true
same_parent None (Some other) = false
same_parent (Some parent) None = false
same_parent (Some parent) (Some other) = nat_eq parent other

abbrev pub same_step : Step → Step → Bool
same_step step other = same_parent step.parent other.parent && nat_eq step.name other.name

-- the first place is the root's; each other one lies behind its parent's, and its part is found under its number
abbrev pub IsStepAt : List (List ℕ) → ℕ → Option ℕ → ℕ → Type 0
IsStepAt names place None name = place ≡ 0
IsStepAt names place (Some parent) name = (parent < place) × (position (bytes_eq (slice_index_or names name [])) names ≡ Some name)

-- no two places have the same step
pub record IsNumbered (names : List (List ℕ)) (steps : List Step) : Type 0 where
  pub rooted : 0 < length steps
  pub stepped : (place : ℕ) (step : Step) → slice_get steps place ≡ Some step → IsStepAt names place step.parent step.name
  pub distinct : (place other : ℕ) (step : Step) → slice_get steps place ≡ Some step → slice_get steps other ≡ Some step → place ≡ other

-- a noted text is that of a path, and its place is the path's
abbrev pub IsNoted : List (List (List ℕ)) → Noted → Type 0
IsNoted paths noted = (is_path noted.text.items ≡ true) × (place_of paths (parts_of noted.text.items) ≡ Some noted.place)

-- steps, and what is noted in slots
pub record IsIndexed (names : List (List ℕ)) (steps : List Step) (slots : ℕ → Option Noted) : Type 0 where
  pub numbered : IsNumbered names steps
  pub noted : (slot : ℕ) (noted : Noted) → slots slot ≡ Some noted → IsNoted (paths_of names steps) noted
