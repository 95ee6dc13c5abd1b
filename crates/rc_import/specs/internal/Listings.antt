-- What the listing of a directory answers.
use Rattle.std.specs.Prelude.{◌≡◌, ℕ, ◌<◌, ⊤, true, false, List, length, Option, Some, None, Result, Ok, Err}
use Rattle.init_base.specs.Tree.{is_dir, names_in}
use Rattle.rc_import.specs.Names.{in_byte_order}
use Rattle.rc_import.specs.declared.loaded.LoadLimit.{LoadLimit}
use Rattle.rc_import.specs.declared.loaded.LoadLimit.TheVariants as limits
use Rattle.rc_import.specs.declared.loaded.LoadRefusal.{LoadRefusal}
use Rattle.rc_import.specs.declared.loaded.LoadRefusal.TheVariants.{NoInit, ReadFault, TooLarge, TooMany, NoMemory}

-- a directory of at most 1,024 names, which stand in order
pub record HasNames (tree : List (List ℕ × List ℕ)) (dir : List ℕ) (names : List (List ℕ)) : Type 0 where
  pub is_one : is_dir tree dir ≡ true
  pub ordered : names ≡ in_byte_order (names_in tree dir)
  pub few : length (names_in tree dir) < 1025

pub record HasMoreNames (tree : List (List ℕ × List ℕ)) (dir path : List ℕ) (limit : LoadLimit) (number : ℕ) : Type 0 where
  pub is_one : is_dir tree dir ≡ true
  pub many : 1024 < length (names_in tree dir)
  pub path_is : path ≡ dir
  pub limit_is : limit ≡ limits.Names
  pub number_is : number ≡ 1025

abbrev pub ListsInOrder : Option (List (List ℕ × List ℕ)) → List ℕ → Result (Option (List (List ℕ))) LoadRefusal → Type 0
ListsInOrder None dir result = ⊤
ListsInOrder (Some tree) dir (Ok None) = is_dir tree dir ≡ false
ListsInOrder (Some tree) dir (Ok (Some names)) = HasNames tree dir names
ListsInOrder (Some tree) dir (Err NoInit) = ⊥
ListsInOrder (Some tree) dir (Err ReadFault) = ⊤
ListsInOrder (Some tree) dir (Err (TooLarge path limit number)) = HasMoreNames tree dir path limit number
ListsInOrder (Some tree) dir (Err (TooMany path number)) = ⊥
ListsInOrder (Some tree) dir (Err NoMemory) = ⊤
