-- The steps of the code, which follow the order of the definition.
use Rattle.std.specs.Prelude.{◌≡◌, ℕ, ◌<◌, ◌≤◌, ⊤, Bool, List, length, Option, Some, None, is_some, Result, Ok, Err}
use Rattle.init_base.specs.Tree.{file_at}
use Rattle.init_base.specs.declared.memory.NoMemory.{NoMemory}
use Rattle.init_machine.specs.declared.action.Action.{Action}
use Rattle.init_machine.specs.declared.diagnostic.Diagnostic.{Diagnostic}
use Rattle.init_machine.specs.declared.output.Cause.{Cause}
use Rattle.init_machine.specs.declared.service.ServiceDef.{ServiceDef}
use Rattle.rc_parse.specs.Files.{Reads}
use Rattle.rc_parse.specs.declared.parsed.Import.{Import}
use Rattle.rc_import.specs.Answers.{IsAnswer}
use Rattle.rc_import.specs.Limits.{SoFar, loaded_of, with_all, with_met}
use Rattle.rc_import.specs.Order.{File, Met}
use Rattle.rc_import.specs.World.{IsWorld, World}
use Rattle.rc_import.specs.declared.loaded.Loaded.{Loaded}
use Rattle.rc_import.specs.declared.loaded.LoadLimit.{LoadLimit}
use Rattle.rc_import.specs.declared.loaded.LoadLimit.TheVariants as limits
use Rattle.rc_import.specs.declared.loaded.LoadRefusal.{LoadRefusal}
use Rattle.rc_import.specs.declared.loaded.LoadRefusal.TheVariants as refusal
use Rattle.rc_import.specs.declared.loading.Loading.{Loading}

-- when what was gathered stands for files of some actions and services
abbrev pub Holds : Type 0 → Type 1
Holds G = G → List Action → List ServiceDef → Type 0

-- what the code has is what was read so far
pub record Stands {G : Type 0} (holds : Holds G) (loading : Loading G) (sofar : SoFar) : Type 0 where
  pub gathered : holds loading.gathered sofar.actions sofar.services
  pub diagnostics : loading.diagnostics ≡ sofar.diagnostics
  pub files : loading.files ≡ sofar.files
  pub bytes : loading.bytes ≡ sofar.bytes
  pub within : sofar.bytes ≤ 33554432

-- a refusal of the code is that of the definition, unless a call on the files failed or memory ran out
abbrev pub Stops : LoadRefusal → Result SoFar LoadRefusal → Type 0
Stops refusal.NoInit answer = ⊥
Stops refusal.ReadFault answer = ⊤
Stops (refusal.TooLarge path limit number) answer = answer ≡ Err (refusal.TooLarge path limit number)
Stops (refusal.TooMany path number) answer = answer ≡ Err (refusal.TooMany path number)
Stops refusal.NoMemory answer = ⊤

-- what was read behind a step
abbrev pub Reaches : {G : Type 0} (holds : Holds G) → Result (Loading G) LoadRefusal → Result SoFar LoadRefusal → Type 0
Reaches holds (Ok next) answer = (after : SoFar) × (answer ≡ Ok after) × Stands holds next after
Reaches holds (Err why) answer = Stops why answer

-- a step follows what is met, in each world of the files and properties
abbrev pub Follows : {G : Type 0} (holds : Holds G) → Option (List (List ℕ × List ℕ)) → (List ℕ → Option (List ℕ)) → Loading G → Result (Loading G) LoadRefusal → (World → List Met) → Type 0
Follows holds tree look_up loading result met =
    (world : World) → IsWorld tree look_up world → (sofar : SoFar) → Stands holds loading sofar → Reaches holds result (with_all world sofar (met world))

-- what is left to be met decides what all does
abbrev pub Continues : {G : Type 0} (holds : Holds G) → Option (List (List ℕ × List ℕ)) → (List ℕ → Option (List ℕ)) → Loading G → (World → List Met) → Loading G → (World → List Met) → Type 0
Continues {G = G} holds tree look_up loading all next left = (result : Result (Loading G) LoadRefusal) → Follows holds tree look_up next result left → Follows holds tree look_up loading result all

-- ---- imports

-- an expanded path, or none where there is a cause
abbrev pub IsExpanded : Result (Option (List ℕ)) NoMemory → Result (List ℕ) Cause → Type 0
IsExpanded (Ok (Some path)) answer = answer ≡ Ok path
IsExpanded (Ok None) answer = (cause : Cause) × (answer ≡ Err cause)
IsExpanded (Err why) answer = ⊤

-- ---- files

abbrev pub MeansFiles : World → Type 0
MeansFiles world = (file content : List ℕ) → Reads file content (world.means file content)

-- the imports of a file, where it is there
abbrev pub imports_at : World → List ℕ → Option (List ℕ) → Option (List Import)
imports_at world path None = None
imports_at world path (Some bytes) = Some (world.means path bytes).imports

abbrev pub ReachesImports : {G : Type 0} (holds : Holds G) → Result (Loading G × Option (List Import)) LoadRefusal → Result SoFar LoadRefusal → Option (List Import) → Type 0
ReachesImports holds (Ok next) answer imports = (after : SoFar) × (answer ≡ Ok after) × Stands holds next.0 after × (next.1 ≡ imports)
ReachesImports holds (Err why) answer imports = Stops why answer

-- a file was asked for
abbrev pub IsFile : {G : Type 0} (holds : Holds G) → Option (List (List ℕ × List ℕ)) → (List ℕ → Option (List ℕ)) → Loading G → List ℕ → Result (Loading G × Option (List Import)) LoadRefusal → Type 0
IsFile holds tree look_up loading path result =
    (world : World) → IsWorld tree look_up world → (sofar : SoFar) → Stands holds loading sofar →
    ReachesImports holds result (with_met world sofar (File path (file_at world.tree path))) (imports_at world path (file_at world.tree path))

pub record HasMoreBytes (tree : List (List ℕ × List ℕ)) (file path : List ℕ) (limit : LoadLimit) (number : ℕ) : Type 0 where
  pub bytes : List ℕ
  pub there : file_at tree file ≡ Some bytes
  pub many : 1048576 < length bytes
  pub path_is : path ≡ file
  pub limit_is : limit ≡ limits.FileBytes
  pub number_is : number ≡ 1048577

abbrev pub ReadsContent : Option (List (List ℕ × List ℕ)) → List ℕ → Result (Option (List ℕ)) LoadRefusal → Type 0
ReadsContent None file result = ⊤
ReadsContent (Some tree) file (Ok found) = file_at tree file ≡ found
ReadsContent (Some tree) file (Err refusal.NoInit) = ⊥
ReadsContent (Some tree) file (Err refusal.ReadFault) = ⊤
ReadsContent (Some tree) file (Err (refusal.TooLarge path limit number)) = HasMoreBytes tree file path limit number
ReadsContent (Some tree) file (Err (refusal.TooMany path number)) = ⊥
ReadsContent (Some tree) file (Err refusal.NoMemory) = ⊤

-- a content is within the limit
abbrev pub IsShort : Result (Option (List ℕ)) LoadRefusal → Type 0
IsShort (Ok None) = ⊤
IsShort (Ok (Some bytes)) = length bytes ≤ 1048576
IsShort (Err why) = ⊤

-- ---- a file with all that it imports

abbrev pub ReachesFile : {G : Type 0} (holds : Holds G) → Result (Loading G × Bool) LoadRefusal → Result SoFar LoadRefusal → Bool → Type 0
ReachesFile holds (Ok next) answer there = (after : SoFar) × (answer ≡ Ok after) × Stands holds next.0 after × (next.1 ≡ there)
ReachesFile holds (Err why) answer there = Stops why answer

-- a step follows what is met from a file on, and tells whether the file is there
abbrev pub FollowsFile : {G : Type 0} (holds : Holds G) → Option (List (List ℕ × List ℕ)) → (List ℕ → Option (List ℕ)) → Loading G → Result (Loading G × Bool) LoadRefusal → (World → List Met) → List ℕ → Type 0
FollowsFile holds tree look_up loading result met file =
    (world : World) → IsWorld tree look_up world → (sofar : SoFar) → Stands holds loading sofar →
    ReachesFile holds result (with_all world sofar (met world)) (is_some (file_at world.tree file))

-- ---- a tree

-- what was gathered of all files, with their diagnostics
abbrev pub IsGatheredOf : {G : Type 0} (holds : Holds G) → Result (G × List Diagnostic) LoadRefusal → Result Loaded LoadRefusal → Type 0
IsGatheredOf holds (Ok found) answer =
    (sofar : SoFar) × (answer ≡ Ok (loaded_of sofar)) × holds found.0 sofar.actions sofar.services × (found.1 ≡ sofar.diagnostics)
IsGatheredOf holds (Err why) answer = IsAnswer (Err why) answer
