-- A told tree: its world, and the lines that the bytes of a file spell.
use Rattle.std.specs.Prelude.{ℕ, nat_lt, if◌then◌else◌, List, [], length, Option, Some, None}
use Rattle.init_base.specs.Tree.{file_at}
use Rattle.rc_import.specs.World.{World}
use Rattle.rc_tokens.specs.Lines.{Line, Lines}
use Rattle.lint_sources.specs.Loads.{IsWorldOf, Tree}

pub record Told : Type 0 where
  pub world : World
  pub spelled : List ℕ → List Line

-- each text has exactly one reading (`one_reading` of rc_tokens), so that there is one such function
pub record IsTold (tree : Option Tree) (told : Told) : Type 0 where
  pub world_is : IsWorldOf tree told.world
  pub lines_are : (bytes : List ℕ) → (dropped : Option ℕ) × Lines bytes (told.spelled bytes) dropped

-- the lines of some bytes, where they are there and within the limit of files
abbrev pub lines_of : Told → Option (List ℕ) → List Line
lines_of told None = []
lines_of told (Some bytes) = if nat_lt 1048576 (length bytes) then [] else told.spelled bytes

-- the lines of the file with this path
abbrev pub lines_at : Told → List ℕ → List Line
lines_at told path = lines_of told (file_at told.world.tree path)
