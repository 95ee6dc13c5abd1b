-- A tree of files: paths and the bytes that stand there. Of several entries with one path the first counts.
use Rattle.std.specs.Prelude.{ℕ, Bool, true, false, not, ◌&&◌, ◌==◌, List, [], ◌∷◌, ◌++◌, length, drop, map, filter, Option, Some, None, if◌then◌else◌, bytes_eq}
use Rattle.std.specs.List.{list_any, list_all, starts_with, ends_with}

-- the bytes of the file with this path: none where no file has it
abbrev pub file_at : List (List ℕ × List ℕ) → List ℕ → Option (List ℕ)
file_at [] path = None
file_at (entry ∷ rest) path = (if bytes_eq entry.0 path then Some entry.1 else file_at rest path)

-- what stands behind a slash at the front: empty where there is none
abbrev pub behind_slash : List ℕ → List ℕ
behind_slash [] = []
behind_slash (byte ∷ rest) = (if byte == 47 then rest else [])

-- what stands in a path behind a directory's path and a slash, which isn't put twice where the directory's path ends
-- in one: empty where the path isn't in the directory
abbrev pub behind_dir : List ℕ → List ℕ → List ℕ
behind_dir dir path =
    (if starts_with (λ a b. a == b) path dir
    then (if ends_with (λ a b. a == b) dir (47 ∷ []) then drop (length dir) path else behind_slash (drop (length dir) path))
    else [])

abbrev pub is_empty : List ℕ → Bool
is_empty [] = true
is_empty (byte ∷ rest) = false

-- a directory is there where a path lies in it, at any depth
abbrev pub is_dir : List (List ℕ × List ℕ) → List ℕ → Bool
is_dir tree dir = list_any (λ entry. not (is_empty (behind_dir dir entry.0))) tree

-- what stands behind a directory's path is the name of a file directly in it: not empty, and with no slash
abbrev pub is_file_name : List ℕ → Bool
is_file_name name = not (is_empty name) && list_all (λ byte. not (byte == 47)) name

abbrev pub has_name : List (List ℕ) → List ℕ → Bool
has_name names name = list_any (λ other. bytes_eq other name) names

-- each name once, at its first place, and none of those seen before
abbrev pub distinct_after : List (List ℕ) → List (List ℕ) → List (List ℕ)
distinct_after seen [] = []
distinct_after seen (name ∷ rest) =
    (if has_name seen name then distinct_after seen rest else name ∷ distinct_after (seen ++ name ∷ []) rest)

-- the names with one more, if it names a file and isn't among them
abbrev pub with_name : List (List ℕ) → List ℕ → List (List ℕ)
with_name names name = (if is_file_name name && not (has_name names name) then names ++ name ∷ [] else names)

-- what stands behind a directory's path in each path that is a file directly in it
abbrev pub file_names : List ℕ → List (List ℕ × List ℕ) → List (List ℕ)
file_names dir tree = filter is_file_name (map (λ entry. behind_dir dir entry.0) tree)

-- the names of the files directly in a directory, each once, in the order of their first entries
abbrev pub names_in : List (List ℕ × List ℕ) → List ℕ → List (List ℕ)
names_in tree dir = distinct_after [] (file_names dir tree)
