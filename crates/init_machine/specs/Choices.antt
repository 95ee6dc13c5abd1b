-- The first of several answers, each of which may be none.
use Rattle.std.specs.Prelude.{Bool, List, [], ◌∷◌, Option, Some, None, if◌then◌else◌}

abbrev pub first_of : {T : Type 0} → List (Option T) → Option T
first_of [] = None
first_of (None ∷ rest) = first_of rest
first_of (Some answer ∷ rest) = Some answer

-- this answer where a condition holds
abbrev pub only_if : {T : Type 0} → Bool → T → Option T
only_if condition answer = if condition then Some answer else None
