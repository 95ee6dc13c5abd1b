-- What a status says of the tree that files tell.
use Rattle.std.specs.Prelude.{◌≡◌, ℕ, ◌⊎◌, ⊤, Bool, List, ◌++◌, None, Ok, Err}
use Rattle.init_base.specs.Tree.{file_at}
use Rattle.init_machine.specs.declared.config.Config.{Config}
use Rattle.init_machine.specs.declared.diagnostic.Diagnostic.{Diagnostic}
use Rattle.init_machine.specs.declared.limit.Limit.{Limit}
use Rattle.init_machine.specs.declared.limit.Limit.TheVariants as limits
use Rattle.rc_import.specs.Limits.{loaded as rc_files_of}
use Rattle.rc_import.specs.Order.{root_file}
use Rattle.rc_import.specs.World.{World}
use Rattle.rc_import.specs.declared.loaded.LoadLimit.{LoadLimit}
use Rattle.rc_import.specs.declared.loaded.LoadLimit.TheVariants as load_limits
use Rattle.rc_import.specs.declared.loaded.LoadRefusal.{LoadRefusal}
use Rattle.rc_import.specs.declared.loaded.LoadRefusal.TheVariants as refusal
use Rattle.rc_import.specs.declared.loaded.Loaded.{Loaded}
use Rattle.job_reader.specs.Policy.{HasPolicy, IsBadPolicyAt, IsPolicyTooLarge}
use Rattle.job_reader.specs.Texts.{AreShort, IsOneLong, Tree, build_text, faults_of, pairs_of, system_path, vendor_path}
use Rattle.job_reader.specs.declared.status.Status.{Status}
use Rattle.job_reader.specs.declared.status.Status.TheVariants as status
pub use Rattle.rc_import.specs.BuildFiles.{IsWorldOf}

-- ---- the build files and the rc files

abbrev pub AreBuildFilesShort : Tree → Type 0
AreBuildFilesShort tree = AreShort (build_text tree system_path) (build_text tree vendor_path)

-- What a world gives: the pairs of its build files; the actions and services of its rc files; and the diagnostics of the
-- former, and behind them those of the latter.
pub record IsLoadOf (world : World) (config : Config) (diagnostics : List Diagnostic) : Type 0 where
  pub short : AreBuildFilesShort world.tree
  pub loaded : Loaded
  pub rc_files : rc_files_of world ≡ Ok loaded
  pub actions : config.actions ≡ loaded.config.actions
  pub services : config.services ≡ loaded.config.services
  pub pairs : config.pairs ≡ pairs_of world.tree
  pub diagnostics_are : diagnostics ≡ faults_of world.tree ++ loaded.diagnostics

abbrev pub IsLoadable : World → Type 0
IsLoadable world = AreBuildFilesShort world.tree × ((loaded : Loaded) × (rc_files_of world ≡ Ok loaded))

-- one of the build files is longer than the limit
abbrev pub AreBuildFilesTooLarge : Tree → Limit → ℕ → Type 0
AreBuildFilesTooLarge tree limit number =
    IsOneLong (build_text tree system_path) (build_text tree vendor_path) × (limit ≡ limits.FileBytes) × (number ≡ 1048577)

-- the limit on what is read of a tree, among all limits
abbrev pub limit_of : LoadLimit → Limit
limit_of load_limits.FileBytes = limits.FileBytes
limit_of load_limits.Names = limits.Names
limit_of load_limits.AllBytes = limits.RcBytes

-- the rc files are refused since they pass this limit, with this number
abbrev pub PassesLimit : LoadRefusal → Limit → ℕ → Type 0
PassesLimit refusal.NoInit limit number = ⊥
PassesLimit refusal.ReadFault limit number = ⊥
PassesLimit (refusal.TooLarge path passed found) limit number = (limit ≡ limit_of passed) × (number ≡ found)
PassesLimit (refusal.TooMany path found) limit number = (limit ≡ limits.Files) × (number ≡ found)
PassesLimit refusal.NoMemory limit number = ⊥

-- ---- what comes before them

-- What a tree is read for: to be run, or to be checked. A check reads no policy.
pub data Purpose : Type 0 where
  ToRun : Purpose
  ToCheck : Purpose

abbrev pub HasPolicyFor : Purpose → Tree → Type 0
HasPolicyFor ToRun tree = HasPolicy tree
HasPolicyFor ToCheck tree = ⊤

abbrev pub IsPolicyTooLargeFor : Purpose → Tree → Limit → ℕ → Type 0
IsPolicyTooLargeFor ToRun tree limit number = IsPolicyTooLarge tree limit number
IsPolicyTooLargeFor ToCheck tree limit number = ⊥

abbrev pub IsBadPolicyFor : Purpose → Tree → Bool → ℕ → Type 0
IsBadPolicyFor ToRun tree allow line = IsBadPolicyAt tree allow line
IsBadPolicyFor ToCheck tree allow line = ⊥

-- ---- statuses

-- the world can be run, or checked
abbrev pub IsFitFor : Purpose → World → Type 0
IsFitFor purpose world = HasPolicyFor purpose world.tree × IsLoadable world

-- the policy fits, and so do the build files, and there is no root file
pub record HasNoRoot (purpose : Purpose) (world : World) : Type 0 where
  pub policy : HasPolicyFor purpose world.tree
  pub build_files : AreBuildFilesShort world.tree
  pub absent : file_at world.tree root_file ≡ None

-- the rc files pass a limit, where policy and build files fit
pub record AreRcFilesTooLarge (purpose : Purpose) (world : World) (limit : Limit) (number : ℕ) : Type 0 where
  pub policy : HasPolicyFor purpose world.tree
  pub build_files : AreBuildFilesShort world.tree
  pub refusal : LoadRefusal
  pub refused : rc_files_of world ≡ Err refusal
  pub passes : PassesLimit refusal limit number

-- the first limit that is passed: by the policy, or else by the build files, or else by the rc files
abbrev pub IsTreeTooLarge : Purpose → World → Limit → ℕ → Type 0
IsTreeTooLarge purpose world limit number =
    IsPolicyTooLargeFor purpose world.tree limit number
    ⊎ ((HasPolicyFor purpose world.tree × AreBuildFilesTooLarge world.tree limit number) ⊎ AreRcFilesTooLarge purpose world limit number)

-- A limit of trees is passed. Where a limit of scripts is, the tree wasn't read yet, and where that of the store or of a trace
-- is, it was.
abbrev pub TreeLimitSays : Purpose → World → Limit → ℕ → Type 0
TreeLimitSays purpose world limits.FileBytes number = IsTreeTooLarge purpose world limits.FileBytes number
TreeLimitSays purpose world limits.Files number = IsTreeTooLarge purpose world limits.Files number
TreeLimitSays purpose world limits.Names number = IsTreeTooLarge purpose world limits.Names number
TreeLimitSays purpose world limits.RcBytes number = IsTreeTooLarge purpose world limits.RcBytes number
TreeLimitSays purpose world limits.ScriptBytes number = ⊤
TreeLimitSays purpose world limits.ScriptLines number = ⊤
TreeLimitSays purpose world limits.Steps number = ⊤
TreeLimitSays purpose world limits.StoreBytes number = IsFitFor purpose world
TreeLimitSays purpose world limits.TraceBytes number = IsFitFor purpose world

-- What a status says of a world. The tree is read after the script and before the store, so the script's refusals say
-- nothing of it, and what comes later says that it can be run, or checked.
abbrev pub TreeSays : Purpose → World → Status → Type 0
TreeSays purpose world status.Usage = ⊤
TreeSays purpose world status.ReadFault = ⊤
TreeSays purpose world status.NoMemory = ⊤
TreeSays purpose world (status.BadScript line) = ⊤
TreeSays purpose world (status.BadPolicy allow line) = IsBadPolicyFor purpose world.tree allow line
TreeSays purpose world status.NoInit = HasNoRoot purpose world
TreeSays purpose world (status.TooLarge limit number) = TreeLimitSays purpose world limit number
TreeSays purpose world (status.BadStore line why) = IsFitFor purpose world
TreeSays purpose world (status.BadWire at) = IsFitFor purpose world
TreeSays purpose world status.BadTrace = IsFitFor purpose world
TreeSays purpose world status.WriteFault = IsFitFor purpose world
TreeSays purpose world status.Done = IsFitFor purpose world
