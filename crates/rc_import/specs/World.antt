-- All that decides what is loaded: the files, the properties that stand in the paths of imports, and what the bytes of
-- rc files mean.
use Rattle.std.specs.Prelude.{◌≡◌, ℕ, List, Option, Some}
use Rattle.rc_parse.specs.Files.{Reads}
use Rattle.rc_parse.specs.declared.parsed.Parsed.{Parsed}

pub record World : Type 0 where
  -- the paths of files, and their bytes
  pub tree : List (List ℕ × List ℕ)
  -- the value of a property
  pub look_up : List ℕ → Option (List ℕ)
  -- what a file of a path means that has these bytes
  pub means : List ℕ → List ℕ → Parsed

-- A world of a tree, where it is told, and of properties. The meaning of a file is that which `Reads` says; the bytes of
-- a file have one (`one_meaning` of rc_parse).
pub record IsWorld (tree : Option (List (List ℕ × List ℕ))) (look_up : List ℕ → Option (List ℕ)) (world : World) : Type 0 where
  pub tree_is : tree ≡ Some world.tree
  pub look_up_is : (name : List ℕ) → look_up name ≡ world.look_up name
  pub means_are : (file content : List ℕ) → Reads file content (world.means file content)
