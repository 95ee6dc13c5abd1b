-- What calls on a sink and on files answer, where the object tells what it holds.
use Rattle.std.specs.Prelude.{◌≡◌, ℕ, ◌<◌, ◌≤◌, ⊤, true, false, List, [], ◌∷◌, take, length, Option, Some, None, Result, Ok, Err, IsPermutation, IsSomeAnd}
use Rattle.std.specs.Io.KnownBytes.{append_known}
use Rattle.init_base.specs.Tree.{file_at, is_dir, names_in}
use Rattle.init_base.specs.declared.outside.refusal.IoRefusal.{IoRefusal}
use Rattle.init_base.specs.declared.outside.refusal.ReadRefusal.{ReadRefusal}
use Rattle.init_base.specs.declared.outside.refusal.ReadRefusal.TheVariants.{Failed, TooLarge, NoMemory}

-- a write takes at most the piece, and something of a piece that isn't empty
abbrev pub TakesSome : {E : Type 0} → Result ℕ E → List ℕ → Type 0
TakesSome (Ok count) [] = count ≡ 0
TakesSome (Ok count) (byte ∷ rest) = (0 < count) × (count ≤ length (byte ∷ rest))
TakesSome (Err refusal) piece = ⊤

-- what was taken before grows by the first bytes of the piece, as many as were answered; an error takes nothing
abbrev pub TakesPrefix : Option (List ℕ) → Option (List ℕ) → Result ℕ IoRefusal → List ℕ → Type 0
TakesPrefix old new (Ok count) piece = new ≡ append_known old (take count piece)
TakesPrefix old new (Err refusal) piece = new ≡ old

-- what `list` answers: no names exactly where the path is no directory, else those of the files in it, in any order,
-- and `TooLarge` exactly past 1,024 names
abbrev pub ListsNames : Option (List (List ℕ × List ℕ)) → List ℕ → Result (Option (List (List ℕ))) ReadRefusal → Type 0
ListsNames None dir result = ⊤
ListsNames (Some tree) dir (Ok None) = is_dir tree dir ≡ false
ListsNames (Some tree) dir (Ok (Some names)) = (is_dir tree dir ≡ true) × IsPermutation (names_in tree dir) names
ListsNames (Some tree) dir (Err Failed) = ⊤
ListsNames (Some tree) dir (Err TooLarge) = (is_dir tree dir ≡ true) × (1024 < length (names_in tree dir))
ListsNames (Some tree) dir (Err NoMemory) = ⊤

-- at most 1,024 names are listed, also where the tree isn't told
abbrev pub ListsFew : Result (Option (List (List ℕ))) ReadRefusal → Type 0
ListsFew (Ok None) = ⊤
ListsFew (Ok (Some names)) = length names ≤ 1024
ListsFew (Err refusal) = ⊤

-- what `read` answers: no bytes exactly where no file has the path, else its bytes, and `TooLarge` exactly past the
-- limit
abbrev pub ReadsFile : Option (List (List ℕ × List ℕ)) → List ℕ → ℕ → Result (Option (List ℕ)) ReadRefusal → Type 0
ReadsFile None path limit result = ⊤
ReadsFile (Some tree) path limit (Ok None) = file_at tree path ≡ None
ReadsFile (Some tree) path limit (Ok (Some bytes)) = file_at tree path ≡ Some bytes
ReadsFile (Some tree) path limit (Err Failed) = ⊤
ReadsFile (Some tree) path limit (Err TooLarge) = IsSomeAnd (file_at tree path) (λ bytes. limit < length bytes)
ReadsFile (Some tree) path limit (Err NoMemory) = ⊤

-- at most as many bytes are read as the limit says, also where the tree isn't told
abbrev pub ReadsWithin : ℕ → Result (Option (List ℕ)) ReadRefusal → Type 0
ReadsWithin limit (Ok None) = ⊤
ReadsWithin limit (Ok (Some bytes)) = length bytes ≤ limit
ReadsWithin limit (Err refusal) = ⊤
