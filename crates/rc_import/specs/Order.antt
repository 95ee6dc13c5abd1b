-- The order in which files are read (AOSP, init's README, "Imports"; the limits and the diagnostics are this project's
-- profile). A file is followed by all that its imports lead to, one import after another, and so by what those files
-- import. The list for a tree is that for the root file, and then those for the files of five directories.
--
-- Files and diagnostics stand in one list here, with the directories that are listed, since the limits on what is read
-- are judged in this order too (`Limits`). The list itself knows no limit but that on the depth of imports.
use Rattle.std.specs.Prelude.{ℕ, zero, suc, if◌then◌else◌, List, [], ◌∷◌, ◌++◌, length, codes, Option, Some, None, Result, Ok, Err}
use Rattle.std.specs.List.{flat_map}
use Rattle.init_base.specs.Tree.{file_at, has_name, is_dir, names_in}
use Rattle.init_machine.specs.Expand.{expand}
use Rattle.init_machine.specs.declared.diagnostic.DiagKind.{DiagKind}
use Rattle.init_machine.specs.declared.diagnostic.DiagKind.TheVariants.{BadExpand, Loop, NoFile, TooDeep}
use Rattle.init_machine.specs.declared.diagnostic.Diagnostic.{Diagnostic}
use Rattle.init_machine.specs.declared.output.Cause.{Cause}
use Rattle.rc_parse.specs.Readings.{diagnostic}
use Rattle.rc_parse.specs.declared.parsed.Import.{Import}
use Rattle.rc_import.specs.Names.{in_byte_order}
use Rattle.rc_import.specs.Paths.{bare, file_in, is_absolute}
use Rattle.rc_import.specs.World.{World}

-- what is met: a directory with the number of its files; a file with its bytes, or without any where it isn't there; and
-- an import that leads nowhere
pub data Met : Type 0 where
  Listing : List ℕ → ℕ → Met
  File : List ℕ → Option (List ℕ) → Met
  Fault : Diagnostic → Met

-- an import at a line of a file leads nowhere
abbrev pub fault : List ℕ → ℕ → DiagKind → List Met
fault file line kind = Fault (diagnostic file line kind) ∷ []

-- a directory, and what its files lead to, in the order of the bytes of their names
abbrev pub at_directory : World → (List ℕ → List Met) → List ℕ → List Met
at_directory world reach dir =
    let names = names_in world.tree dir in
    Listing dir (length names) ∷ flat_map (λ name. reach (file_in dir name)) (in_byte_order names)

-- a path is that of a directory, or else of a file
abbrev pub at_path : World → (List ℕ → List Met) → List ℕ → List Met
at_path world reach path = if is_dir world.tree path then at_directory world reach path else reach path

-- an import whose path is expanded; a file has an absolute path
abbrev pub at_expanded : World → (DiagKind → List Met) → (List ℕ → List Met) → Result (List ℕ) Cause → List Met
at_expanded world faulty reach (Err cause) = faulty BadExpand
at_expanded world faulty reach (Ok path) = if is_absolute path then at_path world reach (bare path) else faulty NoFile

-- an import of a file, where `reach` says what is met from a line of it on at the path of another file
abbrev pub at_import : World → List ℕ → (ℕ → List ℕ → List Met) → Import → List Met
at_import world file reach import =
    at_expanded world (fault file import.line) (reach import.line) (expand world.look_up import.path)

-- a file, and then its imports in turn; what `missing` says stands behind one that isn't there
abbrev pub at_file : World → (ℕ → List ℕ → List Met) → List Met → List ℕ → Option (List ℕ) → List Met
at_file world reach missing path None = File path None ∷ missing
at_file world reach missing path (Some bytes) =
    File path (Some bytes) ∷ flat_map (at_import world path reach) (world.means path bytes).imports

-- What is met where a line of a file leads to another file, by how many levels of imports may stand below the file with
-- the line, and by the paths of the files that are being imported now, from the first one to that file. None of those is
-- read again, and none below the last level is read.
unfoldable pub at_target : World → ℕ → List (List ℕ) → List ℕ → ℕ → List ℕ → List Met
at_target world zero trail file line path = if has_name trail path then fault file line Loop else fault file line TooDeep
at_target world (suc left) trail file line path =
    if has_name trail path then fault file line Loop
    else at_file world (at_target world left (trail ++ path ∷ []) path) (fault file line NoFile) path (file_at world.tree path)

-- a file that no import leads to; sixteen levels of imports may stand below it
abbrev pub at_first : World → List ℕ → List Met
at_first world path = at_file world (at_target world 16 (path ∷ []) path) [] path (file_at world.tree path)

abbrev pub root_file : List ℕ
root_file = codes "/system/etc/init/hw/init.rc"

abbrev pub directories : List (List ℕ)
directories =
    codes "/system/etc/init" ∷ codes "/system_ext/etc/init" ∷ codes "/vendor/etc/init" ∷ codes "/odm/etc/init" ∷ codes "/product/etc/init" ∷ []

-- one of the directories; an absent one is skipped
abbrev pub in_directory : World → List ℕ → List Met
in_directory world dir = if is_dir world.tree dir then at_directory world (at_first world) dir else []

-- all that is met, in order
abbrev pub order : World → List Met
order world = at_first world root_file ++ flat_map (in_directory world) directories
