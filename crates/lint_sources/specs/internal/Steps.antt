-- The steps of the code.
use Rattle.std.specs.Prelude.{◌≡◌, ℕ, ◌<◌, ◌≤◌, ◌⊎◌, ⊤, Bool, List, length, Result, Ok, Err}
use Rattle.prop_rules.specs.Build.{IsBuildFile}
use Rattle.prop_rules.specs.declared.build.BuildProps.{BuildProps}
use Rattle.rc_import.specs.declared.loaded.LoadLimit.{LoadLimit}
use Rattle.rc_import.specs.declared.loaded.LoadLimit.TheVariants as limits
use Rattle.rc_import.specs.declared.loaded.LoadRefusal.{LoadRefusal}
use Rattle.rc_import.specs.declared.loaded.LoadRefusal.TheVariants as why
use Rattle.rc_tokens.specs.Lines.{Line}
use Rattle.lint_sources.specs.Excused.{is_excused_in_action, is_excused_in_service}
use Rattle.lint_sources.specs.declared.excuse.Part.{Part}
use Rattle.lint_sources.specs.declared.excuse.Part.TheVariants as part
use Rattle.lint_sources.specs.Loads.{Tree, build_text, faults_of, pairs_of, system_path, vendor_path}

-- ---- build files

-- a build file is refused for its length
pub record IsTooLong (tree : Tree) (file path : List ℕ) (limit : LoadLimit) (number : ℕ) : Type 0 where
  pub long : 1048576 < length (build_text tree file)
  pub path_is : path ≡ file
  pub limit_is : limit ≡ limits.FileBytes
  pub number_is : number ≡ 1048577

-- why a build file has no text
abbrev pub RefusesText : Tree → List ℕ → LoadRefusal → Type 0
RefusesText tree path why.NoInit = ⊥
RefusesText tree path why.ReadFault = ⊤
RefusesText tree path (why.TooLarge file limit number) = IsTooLong tree path file limit number
RefusesText tree path (why.TooMany file number) = ⊥
RefusesText tree path why.NoMemory = ⊤

abbrev pub GivesText : Tree → List ℕ → Result (List ℕ) LoadRefusal → Type 0
GivesText tree path (Ok text) = (text ≡ build_text tree path) × (length text ≤ 1048576)
GivesText tree path (Err why) = RefusesText tree path why

abbrev pub GivesBuildFile : Tree → List ℕ → Result BuildProps LoadRefusal → Type 0
GivesBuildFile tree path (Ok props) = IsBuildFile path (build_text tree path) props × (length (build_text tree path) ≤ 1048576)
GivesBuildFile tree path (Err why) = RefusesText tree path why

-- what both build files of a tree say
pub record AreBuildFiles (tree : Tree) (props : BuildProps) : Type 0 where
  pub system : length (build_text tree system_path) ≤ 1048576
  pub vendor : length (build_text tree vendor_path) ≤ 1048576
  pub pairs_are : props.pairs ≡ pairs_of tree
  pub diagnostics_are : props.diagnostics ≡ faults_of tree

-- the first build file that is refused is the system's, or else the vendor's
pub record RefusesVendor (tree : Tree) (why : LoadRefusal) : Type 0 where
  pub system : length (build_text tree system_path) ≤ 1048576
  pub vendor : RefusesText tree vendor_path why

abbrev pub GivesBuildFiles : Tree → Result BuildProps LoadRefusal → Type 0
GivesBuildFiles tree (Ok props) = AreBuildFiles tree props
GivesBuildFiles tree (Err why) = RefusesText tree system_path why ⊎ RefusesVendor tree why

-- ---- excuses

abbrev pub is_excused_at : Part → List (List ℕ) → Line → Bool
is_excused_at part.Action allowed line = is_excused_in_action allowed line
is_excused_at part.Service allowed line = is_excused_in_service allowed line
