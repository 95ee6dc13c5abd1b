-- The build files of a tree, in the view of whose pairs the paths of imports are expanded.
use Rattle.std.specs.Prelude.{ℕ, List, [], ◌++◌, codes, Option, Some, None}
use Rattle.init_base.specs.Tree.{file_at}
use Rattle.init_base.specs.Lines.{lines_of}
use Rattle.init_machine.specs.declared.config.Pair.{Pair}
use Rattle.init_machine.specs.declared.diagnostic.Diagnostic.{Diagnostic}
use Rattle.prop_rules.specs.Build.{build_faults, build_pairs}
use Rattle.prop_rules.specs.View.{view}
use Rattle.prop_rules.specs.declared.build.BuildProps.{BuildProps}
use Rattle.rc_import.specs.World.{IsWorld, World}
use Rattle.rc_import.specs.declared.loaded.Loaded.{Loaded}

-- the files of a tree: paths, and the bytes that stand there
abbrev pub Tree : Type 0
Tree = List (List ℕ × List ℕ)

-- the bytes of a file, or other ones where it is absent
abbrev pub bytes_or : List ℕ → Option (List ℕ) → List ℕ
bytes_or other None = other
bytes_or other (Some bytes) = bytes

abbrev pub system_path : List ℕ
system_path = codes "/system/build.prop"

abbrev pub vendor_path : List ℕ
vendor_path = codes "/vendor/build.prop"

-- an absent build file is skipped: it says what an empty one says
abbrev pub build_text : Tree → List ℕ → List ℕ
build_text tree path = bytes_or [] (file_at tree path)

-- the pairs of both build files, in the order in which they are read
abbrev pub pairs_of : Tree → List Pair
pairs_of tree = build_pairs (lines_of (build_text tree system_path)) ++ build_pairs (lines_of (build_text tree vendor_path))

-- the diagnostics of both
abbrev pub faults_of : Tree → List Diagnostic
faults_of tree =
    build_faults system_path 1 (lines_of (build_text tree system_path))
    ++ build_faults vendor_path 1 (lines_of (build_text tree vendor_path))

-- rc files, and the pairs and diagnostics of the build files before them
abbrev pub behind_build_files : BuildProps → Loaded → Loaded
behind_build_files build_files rc_files = record {
  config = record rc_files.config { pairs = build_files.pairs };
  diagnostics = build_files.diagnostics ++ rc_files.diagnostics;
}

-- A world that files tell: their tree, and what the bytes of rc files mean. The paths of imports are expanded in the view of
-- the pairs of the build files.
abbrev pub IsWorldOf : Option Tree → World → Type 0
IsWorldOf told world = IsWorld told (view (pairs_of world.tree)) world
