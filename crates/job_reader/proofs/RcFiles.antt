-- Reading the rc files.
use Rattle.std.proofs.Common.{◌≡◌, ℕ, Bool, true, false, List, [], ◌∷◌, ◌++◌, Option, Some, None, Result, Ok, Err, refl, subst, inr, ap, ◌∙◌}
use Rattle.std.specs.Prelude.{if◌then◌else◌}
use Rattle.init_base.specs.Tree.{file_at}
use Rattle.init_machine.specs.declared.diagnostic.Diagnostic.{Diagnostic}
use Rattle.init_machine.specs.declared.limit.Limit.{Limit}
use Rattle.init_machine.specs.declared.limit.Limit.TheVariants as limits
use Rattle.prop_rules.specs.declared.build.BuildProps.{BuildProps}
use Rattle.rc_import.specs.Answers.{IsAnswer}
use Rattle.rc_import.specs.BuildFiles.{behind_build_files}
use Rattle.rc_import.specs.Limits.{SoFar, diagnostics_of, loaded as rc_files_of, loaded_from, loaded_of, nothing, onward, with_all, with_bytes, with_met}
use Rattle.rc_import.specs.Order.{Met, Listing, File, Fault, order, root_file}
use Rattle.rc_import.specs.World.{World}
use Rattle.rc_import.specs.declared.loaded.LoadLimit.{LoadLimit}
use Rattle.rc_import.specs.declared.loaded.LoadLimit.TheVariants as load_limits
use Rattle.rc_import.specs.declared.loaded.LoadRefusal.{LoadRefusal}
use Rattle.rc_import.specs.declared.loaded.LoadRefusal.TheVariants as refusal
use Rattle.rc_import.specs.declared.loaded.Loaded.{Loaded}
use Rattle.job_reader.specs.Check.{IsCheckStatus, IsTreeLimit}
use Rattle.job_reader.specs.Stops.{AreBuildFiles, GivesDiagnostics, GivesLoad, load_stop, status_of}
use Rattle.job_reader.specs.Texts.{Tree, pairs_of}
use Rattle.job_reader.specs.Tree.{AreBuildFilesShort, IsLoadOf, IsTreeTooLarge, IsWorldOf, PassesLimit, TreeLimitSays, limit_of}
use Rattle.job_reader.specs.Tree.Purpose.{ToCheck}

-- ---- the world

-- no call changes the tree
pub world_later : (told now : Option Tree) (world : World) → now ≡ told → IsWorldOf told world → IsWorldOf now world
world_later told now world same is = record {
  tree_is = same ∙ is.tree_is;
  look_up_is = is.look_up_is;
  means_are = is.means_are;
}

-- ---- without a root file

IsOfLimits : {A : Type 0} → Result A LoadRefusal → Type 0
IsOfLimits (Ok value) = Unit {0}
IsOfLimits (Err refusal.NoInit) = ⊥
IsOfLimits (Err refusal.ReadFault) = Unit {0}
IsOfLimits (Err (refusal.TooLarge path limit number)) = Unit {0}
IsOfLimits (Err (refusal.TooMany path number)) = Unit {0}
IsOfLimits (Err refusal.NoMemory) = Unit {0}

of_value : {A : Type 0} (value : A) → IsOfLimits (Ok value)
unfolding IsOfLimits
of_value value = tt

of_large : (A : Type 0) (path : List ℕ) (limit : LoadLimit) (number : ℕ) → IsOfLimits {A = A} (Err (refusal.TooLarge path limit number))
unfolding IsOfLimits
of_large A path limit number = tt

of_many : (A : Type 0) (path : List ℕ) (number : ℕ) → IsOfLimits {A = A} (Err (refusal.TooMany path number))
unfolding IsOfLimits
of_many A path number = tt

of_either : {A : Type 0} (b : Bool) (one other : Result A LoadRefusal)
    → IsOfLimits one → IsOfLimits other → IsOfLimits (if b then one else other)
of_either true one other first second = first
of_either false one other first second = second

of_bytes : (world : World) (sofar : SoFar) (path : List ℕ) (file : Option (List ℕ)) → IsOfLimits (with_bytes world sofar path file)
of_bytes world sofar path None = of_value _
of_bytes world sofar path (Some bytes) = search (of_either, of_large, of_value)

of_met : (world : World) (sofar : SoFar) (met : Met) → IsOfLimits (with_met world sofar met)
of_met world sofar (Listing dir names) = search (of_either, of_large, of_value)
of_met world sofar (File path found) = search (of_either, of_bytes, of_many)
of_met world sofar (Fault diagnostic) = search of_value

of_onward : {A B : Type 0} (first : Result A LoadRefusal) (next : A → Result B LoadRefusal)
    → IsOfLimits first → ((a : A) → IsOfLimits (next a)) → IsOfLimits (onward first next)
unfolding IsOfLimits
of_onward (Ok value) next of all = all value
of_onward (Err refusal.NoInit) next of all = absurd of
of_onward (Err refusal.ReadFault) next of all = tt
of_onward (Err (refusal.TooLarge path limit number)) next of all = tt
of_onward (Err (refusal.TooMany path number)) next of all = tt
of_onward (Err refusal.NoMemory) next of all = tt

of_all : (world : World) (sofar : SoFar) (met : List Met) → IsOfLimits (with_all world sofar met)
of_all world sofar [] = of_value sofar
of_all world sofar (first ∷ rest) =
    of_onward (with_met world sofar first) (λ next. with_all world next rest) (of_met world sofar first) (λ next. of_all world next rest)

no_init_from : (world : World) (file : Option (List ℕ)) → loaded_from world file ≡ Err refusal.NoInit → file ≡ None
unfolding IsOfLimits
no_init_from world None is = refl
no_init_from world (Some bytes) is =
    absurd (subst IsOfLimits is
    (of_onward (with_all world nothing (order world)) (λ sofar. Ok (loaded_of sofar)) (of_all world nothing (order world)) (λ sofar. tt)))

pub no_init : (world : World) → rc_files_of world ≡ Err refusal.NoInit → file_at world.tree root_file ≡ None
no_init world is = no_init_from world (file_at world.tree root_file) is

-- ---- limits

limit_says : (world : World) (limit : Limit) (number : ℕ) → IsTreeLimit limit → IsTreeTooLarge ToCheck world limit number
    → TreeLimitSays ToCheck world limit number
limit_says world limits.FileBytes number is large = large
limit_says world limits.Files number is large = large
limit_says world limits.Names number is large = large
limit_says world limits.RcBytes number is large = large
limit_says world limits.ScriptBytes number is large = absurd is
limit_says world limits.ScriptLines number is large = absurd is
limit_says world limits.Steps number is large = absurd is
limit_says world limits.StoreBytes number is large = absurd is
limit_says world limits.TraceBytes number is large = absurd is

is_tree_limit : (limit : LoadLimit) → IsTreeLimit (limit_of limit)
is_tree_limit load_limits.FileBytes = tt
is_tree_limit load_limits.Names = tt
is_tree_limit load_limits.AllBytes = tt

rc_too_large : (world : World) (why : LoadRefusal) (limit : Limit) (number : ℕ)
    → AreBuildFilesShort world.tree → rc_files_of world ≡ Err why → PassesLimit why limit number → IsTreeTooLarge ToCheck world limit number
rc_too_large world why limit number short refused passes = inr (inr (record {
  policy = tt;
  build_files = short;
  refusal = why;
  refused = refused;
  passes = passes;
}))

pub load_refused : (world : World) (why : LoadRefusal)
    → AreBuildFilesShort world.tree → IsAnswer (Err why) (rc_files_of world) → GivesLoad world (Err (load_stop why))
load_refused world refusal.NoInit short answer = record { policy = tt; build_files = short; absent = no_init world answer }
load_refused world refusal.ReadFault short answer = tt
load_refused world (refusal.TooLarge path limit number) short answer =
    limit_says world (limit_of limit) number (is_tree_limit limit)
    (rc_too_large world (refusal.TooLarge path limit number) (limit_of limit) number short answer (refl, refl))
load_refused world (refusal.TooMany path number) short answer =
    rc_too_large world (refusal.TooMany path number) limits.Files number short answer (refl, refl)
load_refused world refusal.NoMemory short answer = tt

pub refused_kind : (why : LoadRefusal) → IsCheckStatus (status_of (load_stop why))
refused_kind refusal.NoInit = tt
refused_kind refusal.ReadFault = tt
refused_kind (refusal.TooLarge path limit number) = is_tree_limit limit
refused_kind (refusal.TooMany path number) = tt
refused_kind refusal.NoMemory = tt

-- ---- what is loaded

pub load_read : (world : World) (props : BuildProps) (rc all : Loaded)
    → AreBuildFiles world.tree props → all ≡ behind_build_files props rc → IsAnswer (Ok rc) (rc_files_of world)
    → IsLoadOf world all.config all.diagnostics
load_read world props rc all files is answer = record {
  short = files.short;
  loaded = rc;
  rc_files = answer;
  actions = ap (λ (l : Loaded). l.config.actions) is;
  services = ap (λ (l : Loaded). l.config.services) is;
  pairs = ap (λ (l : Loaded). l.config.pairs) is ∙ files.pairs_are;
  diagnostics_are = ap (λ (l : Loaded). l.diagnostics) is ∙ ap (λ d. d ++ rc.diagnostics) files.diagnostics_are;
}

-- ---- the diagnostics alone

told_of : (answer : Result Loaded LoadRefusal) (found : List Diagnostic) → diagnostics_of answer ≡ Ok found
    → (rc : Loaded) × (answer ≡ Ok rc) × (found ≡ rc.diagnostics)
told_of (Ok rc) found is = (rc, refl, let same : found ≡ rc.diagnostics = cc in same)
told_of (Err why) found is = cc

refused_of : (answer : Result Loaded LoadRefusal) (why : LoadRefusal) → diagnostics_of answer ≡ Err why → answer ≡ Err why
refused_of (Ok rc) why is = cc
refused_of (Err other) why is = let same : other ≡ why = cc in ap (λ w. Err w) same

refusal_of : (world : World) (why : LoadRefusal) → IsAnswer (Err why) (diagnostics_of (rc_files_of world)) → IsAnswer (Err why) (rc_files_of world)
refusal_of world refusal.NoInit answer = refused_of (rc_files_of world) refusal.NoInit answer
refusal_of world refusal.ReadFault answer = tt
refusal_of world (refusal.TooLarge path limit number) answer = refused_of (rc_files_of world) (refusal.TooLarge path limit number) answer
refusal_of world (refusal.TooMany path number) answer = refused_of (rc_files_of world) (refusal.TooMany path number) answer
refusal_of world refusal.NoMemory answer = tt

-- refused for its diagnostics as it is to be run
pub untold : (world : World) (why : LoadRefusal)
    → AreBuildFilesShort world.tree → IsAnswer (Err why) (diagnostics_of (rc_files_of world)) → GivesDiagnostics world (Err (load_stop why))
untold world why short answer = load_refused world why short (refusal_of world why answer)

pub told_alone : (world : World) (props : BuildProps) (found diagnostics all : List Diagnostic)
    → AreBuildFiles world.tree props → diagnostics ≡ props.diagnostics → all ≡ diagnostics ++ found
    → IsAnswer (Ok found) (diagnostics_of (rc_files_of world)) → GivesDiagnostics world (Ok all)
told_alone world props found diagnostics all files same both answer =
    let rc = told_of (rc_files_of world) found answer in (
      record rc.0.config { pairs = pairs_of world.tree },
      record {
        short = files.short;
        loaded = rc.0;
        rc_files = rc.1;
        actions = refl;
        services = refl;
        pairs = refl;
        diagnostics_are = both ∙ ap (λ d. diagnostics ++ d) rc.2 ∙ ap (λ d. d ++ rc.0.diagnostics) (same ∙ files.diagnostics_are);
      },
    )
