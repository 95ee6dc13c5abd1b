-- The paths to which imports lead. 47 is the slash.
use Rattle.std.specs.Prelude.{ℕ, Bool, false, ◌==◌, if◌then◌else◌, List, [], ◌∷◌, ◌++◌}
use Rattle.std.specs.List.{ends_with, list_all}

abbrev pub is_slash : ℕ → Bool
is_slash byte = byte == 47

abbrev pub is_absolute : List ℕ → Bool
is_absolute [] = false
is_absolute (byte ∷ rest) = is_slash byte

abbrev pub without_last_slashes : List ℕ → List ℕ
without_last_slashes [] = []
without_last_slashes (byte ∷ rest) = if list_all is_slash (byte ∷ rest) then [] else byte ∷ without_last_slashes rest

-- a path without the slashes at its end; the first byte stays
abbrev pub bare : List ℕ → List ℕ
bare [] = []
bare (byte ∷ rest) = byte ∷ without_last_slashes rest

-- the path of a file in a directory: a slash parts them, where the directory's path doesn't end in one
abbrev pub file_in : List ℕ → List ℕ → List ℕ
file_in dir name = if ends_with (λ a b. a == b) dir (47 ∷ []) then dir ++ name else dir ++ 47 ∷ name
