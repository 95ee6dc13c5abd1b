-- What is read of a tree, as `initsim check` reads it: the build files, and then the rc files.
use Rattle.std.specs.Prelude.{ℕ, nat_lt, if◌then◌else◌, List, ◌++◌, length, Result, Ok, Err}
use Rattle.rc_import.specs.Limits.{loaded as rc_files_of, onward}
use Rattle.rc_import.specs.World.{World}
use Rattle.rc_import.specs.declared.loaded.Loaded.{Loaded}
use Rattle.rc_import.specs.declared.loaded.LoadLimit.TheVariants as limits
use Rattle.rc_import.specs.declared.loaded.LoadRefusal.{LoadRefusal}
use Rattle.rc_import.specs.declared.loaded.LoadRefusal.TheVariants.{TooLarge}
pub use Rattle.rc_import.specs.BuildFiles.{IsWorldOf, Tree, build_text, faults_of, pairs_of, system_path, vendor_path}

-- a build file of more than 1,048,576 bytes is refused
abbrev pub behind_build_file : {A : Type 0} → Tree → List ℕ → Result A LoadRefusal → Result A LoadRefusal
behind_build_file tree path next = if nat_lt 1048576 (length (build_text tree path)) then Err (TooLarge path limits.FileBytes 1048577) else next

-- the rc files, and the pairs and diagnostics of the build files before them
abbrev pub with_build_files : Tree → Loaded → Loaded
with_build_files tree rc_files = record {
  config = record rc_files.config { pairs = pairs_of tree };
  diagnostics = faults_of tree ++ rc_files.diagnostics;
}

-- what a tree is loaded as, with all its documented diagnostics, or why it isn't
abbrev pub loaded : World → Result Loaded LoadRefusal
loaded world =
    behind_build_file world.tree system_path
    (behind_build_file world.tree vendor_path
    (onward (rc_files_of world) (λ rc_files. Ok (with_build_files world.tree rc_files))))
