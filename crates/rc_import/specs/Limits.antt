-- What is read of a tree, as long as it is within the limits: 1,024 files, those that aren't there included, 1,048,576
-- bytes of one file, 33,554,432 bytes of all, and 1,024 names in a directory. The first limit that is passed decides.
use Rattle.std.specs.Prelude.{ℕ, ◌+◌, nat_lt, if◌then◌else◌, List, [], ◌∷◌, ◌++◌, length, Option, Some, None, Result, Ok, Err}
use Rattle.init_base.specs.Tree.{file_at}
use Rattle.init_machine.specs.declared.action.Action.{Action}
use Rattle.init_machine.specs.declared.diagnostic.Diagnostic.{Diagnostic}
use Rattle.init_machine.specs.declared.service.ServiceDef.{ServiceDef}
use Rattle.rc_parse.specs.Kept.{agains_behind, kept}
use Rattle.rc_parse.specs.declared.parsed.Parsed.{Parsed}
use Rattle.rc_import.specs.Order.{Fault, File, Listing, Met, order, root_file}
use Rattle.rc_import.specs.World.{World}
use Rattle.rc_import.specs.declared.loaded.Loaded.{Loaded}
use Rattle.rc_import.specs.declared.loaded.LoadLimit.TheVariants as limits
use Rattle.rc_import.specs.declared.loaded.LoadRefusal.{LoadRefusal}
use Rattle.rc_import.specs.declared.loaded.LoadRefusal.TheVariants.{NoInit, TooLarge, TooMany}

-- what was read so far: the number of files that were asked for, the sum of their bytes, their actions, all their
-- services, and the diagnostics
pub record SoFar : Type 0 where
  pub files : ℕ
  pub bytes : ℕ
  pub actions : List Action
  pub services : List ServiceDef
  pub diagnostics : List Diagnostic

abbrev pub nothing : SoFar
nothing = record { files = 0; bytes = 0; actions = []; services = []; diagnostics = [] }

-- A file more of so many bytes. Its own diagnostics come first, and then those of its services that are second ones of
-- their names, behind all services that were read before.
abbrev pub with_file : SoFar → ℕ → Parsed → SoFar
with_file sofar size parsed = record {
  files = sofar.files + 1;
  bytes = sofar.bytes + size;
  actions = sofar.actions ++ parsed.actions;
  services = sofar.services ++ parsed.services;
  diagnostics = sofar.diagnostics ++ (parsed.diagnostics ++ agains_behind sofar.services parsed.services);
}

-- a file that was asked for, and its bytes, where it is there
abbrev pub with_bytes : World → SoFar → List ℕ → Option (List ℕ) → Result SoFar LoadRefusal
with_bytes world sofar path None = Ok (record sofar { files = sofar.files + 1 })
with_bytes world sofar path (Some bytes) =
    if nat_lt 1048576 (length bytes) then Err (TooLarge path limits.FileBytes 1048577)
    else if nat_lt 33554432 (sofar.bytes + length bytes) then Err (TooLarge path limits.AllBytes (sofar.bytes + length bytes))
    else Ok (with_file sofar (length bytes) (world.means path bytes))

abbrev pub with_met : World → SoFar → Met → Result SoFar LoadRefusal
with_met world sofar (Listing dir names) = if nat_lt 1024 names then Err (TooLarge dir limits.Names 1025) else Ok sofar
with_met world sofar (File path found) = if nat_lt sofar.files 1024 then with_bytes world sofar path found else Err (TooMany path 1025)
with_met world sofar (Fault diagnostic) = Ok (record sofar { diagnostics = sofar.diagnostics ++ diagnostic ∷ [] })

abbrev pub onward : {A B : Type 0} → Result A LoadRefusal → (A → Result B LoadRefusal) → Result B LoadRefusal
onward (Err refusal) next = Err refusal
onward (Ok value) next = next value

-- all that is met, one after another
abbrev pub with_all : World → SoFar → List Met → Result SoFar LoadRefusal
with_all world sofar [] = Ok sofar
with_all world sofar (met ∷ rest) = onward (with_met world sofar met) (λ next. with_all world next rest)

-- the actions and the services that stay, and nothing else
abbrev pub loaded_of : SoFar → Loaded
loaded_of sofar = record {
  config = record { actions = sofar.actions; services = kept sofar.services; pairs = []; saved = []; plans = []; domains = [] };
  diagnostics = sofar.diagnostics;
}

abbrev pub loaded_from : World → Option (List ℕ) → Result Loaded LoadRefusal
loaded_from world None = Err NoInit
loaded_from world (Some bytes) = onward (with_all world nothing (order world)) (λ sofar. Ok (loaded_of sofar))

-- what a tree is loaded as, or why it isn't: without the root file it is not
abbrev pub loaded : World → Result Loaded LoadRefusal
loaded world = loaded_from world (file_at world.tree root_file)

-- the diagnostics alone
abbrev pub diagnostics_of : Result Loaded LoadRefusal → Result (List Diagnostic) LoadRefusal
diagnostics_of (Ok loaded) = Ok loaded.diagnostics
diagnostics_of (Err refusal) = Err refusal
