-- A tree as a whole.
use Rattle.std.proofs.Common.{◌≡◌, ℕ, zero, suc, ◌<◌, Bool, true, false, List, [], ◌∷◌, ◌+◌, ◌≤◌, drop, drop-cons, get_or, map, Bor, Option, Some, None, is_some, Result, Ok, Err, refl, sym, ap, ◌∙◌, subst, arith}
use Rattle.std.specs.List.{flat_map}
use Rattle.std.proofs.lemmas.List.{drop_all}
use Rattle.init_base.specs.Tree.{file_at}
use Rattle.init_machine.specs.declared.diagnostic.Diagnostic.{Diagnostic}
use Rattle.rc_import.specs.Answers.{IsAnswer}
use Rattle.rc_import.specs.Limits.{SoFar, loaded, loaded_from, loaded_of, nothing, onward, with_all}
use Rattle.rc_import.specs.Order.{Met, at_file, at_first, at_target, directories, in_directory, order, root_file}
use Rattle.rc_import.specs.World.{IsWorld, World}
use Rattle.rc_import.specs.internal.Steps.{Follows, FollowsFile, Holds, IsGatheredOf, Stands, Stops}
use Rattle.rc_import.specs.declared.loaded.Loaded.{Loaded}
use Rattle.rc_import.specs.declared.loaded.LoadRefusal.{LoadRefusal}
use Rattle.rc_import.specs.declared.loaded.LoadRefusal.TheVariants.{NoInit, ReadFault, TooLarge, TooMany, NoMemory}
use Rattle.rc_import.specs.declared.loading.Loading.{Loading}
use Rattle.rc_import.proofs.Walks.{LookUp, Tree, all_behind, stopped}

-- what is told of the file is left out
pub file_follows : {G : Type 0} (holds : Holds G) (tree : Option Tree) (look_up : LookUp) (loading : Loading G) (next : Loading G × Bool) (met : World → List Met) (file : List ℕ)
    → FollowsFile holds tree look_up loading (Ok next) met file → Follows holds tree look_up loading (Ok next.0) met
file_follows holds tree look_up loading next met file follows = λ world is sofar stands. let r = follows world is sofar stands in (r.0, r.1, r.2)

pub file_stops : {G : Type 0} (holds : Holds G) (tree : Option Tree) (look_up : LookUp) (loading : Loading G) (refusal : LoadRefusal) (met : World → List Met) (file : List ℕ)
    → FollowsFile holds tree look_up loading (Err refusal) met file → Follows holds tree look_up loading (Err refusal) met
file_stops holds tree look_up loading refusal met file follows = λ world is sofar stands. follows world is sofar stands

-- ---- the whole answer

abbrev rest_met : World → List Met
rest_met world = flat_map (in_directory world) directories

there_from : (world : World) (found : Option (List ℕ)) → true ≡ is_some found → loaded_from world found ≡ onward (with_all world nothing (order world)) (λ sofar. Ok (loaded_of sofar))
there_from world None is = cc
there_from world (Some bytes) is = refl

gone_from : (world : World) (found : Option (List ℕ)) → false ≡ is_some found → loaded_from world found ≡ Err NoInit
gone_from world None is = refl
gone_from world (Some bytes) is = cc

as_answer : (refusal : LoadRefusal) (answer : Result SoFar LoadRefusal) (next : SoFar → Result Loaded LoadRefusal) → Stops refusal answer → IsAnswer (Err refusal) (onward answer next)
as_answer NoInit answer next stops = absurd stops
as_answer ReadFault answer next stops = tt
as_answer (TooLarge path limit number) answer next stops = ap (λ r. onward r next) stops
as_answer (TooMany path number) answer next stops = ap (λ r. onward r next) stops
as_answer NoMemory answer next stops = tt

-- all that is met behind the root file
behind_root : (world : World) (mid : SoFar) → with_all world nothing (at_first world root_file) ≡ Ok mid → with_all world nothing (order world) ≡ with_all world mid (rest_met world)
behind_root world mid is = all_behind world nothing (at_first world root_file) (rest_met world) ∙ ap (λ r. onward r (λ s. with_all world s (rest_met world))) is

pub load_done : {G : Type 0} (holds : Holds G) (tree : Option Tree) (look_up : LookUp) (start next : Loading G) (mid : Loading G × Bool) (found : G × List Diagnostic) → Stands holds start nothing
    → FollowsFile holds tree look_up start (Ok mid) (λ world. at_first world root_file) root_file → mid.1 ≡ true → Follows holds tree look_up mid.0 (Ok next) rest_met
    → found.0 ≡ next.gathered → found.1 ≡ next.diagnostics
    → (world : World) → IsWorld tree look_up world → IsGatheredOf holds (Ok found) (loaded world)
load_done holds tree look_up start next mid found begun first there more gathered told = λ world is.
    let reached = first world is nothing begun in
    let last = more world is reached.0 reached.2 in (
      last.0,
      there_from world (file_at world.tree root_file) (sym there ∙ reached.3)
          ∙ ap (λ r. onward r (λ sofar. Ok (loaded_of sofar))) (behind_root world reached.0 reached.1 ∙ last.1),
      subst (λ all. holds all last.0.actions last.0.services) (sym gathered) last.2.gathered,
      told ∙ last.2.diagnostics,
    )

pub load_none : {G : Type 0} (holds : Holds G) (tree : Option Tree) (look_up : LookUp) (start : Loading G) (mid : Loading G × Bool) → Stands holds start nothing
    → FollowsFile holds tree look_up start (Ok mid) (λ world. at_first world root_file) root_file → mid.1 ≡ false → (world : World) → IsWorld tree look_up world → IsAnswer (Err NoInit) (loaded world)
load_none holds tree look_up start mid begun first gone = λ world is.
    gone_from world (file_at world.tree root_file) (sym gone ∙ (first world is nothing begun).3)

pub load_broken : {G : Type 0} (holds : Holds G) (tree : Option Tree) (look_up : LookUp) (start : Loading G) (mid : Loading G × Bool) (refusal : LoadRefusal) → Stands holds start nothing
    → FollowsFile holds tree look_up start (Ok mid) (λ world. at_first world root_file) root_file → mid.1 ≡ true → Follows holds tree look_up mid.0 (Err refusal) rest_met
    → (world : World) → IsWorld tree look_up world → IsAnswer (Err refusal) (loaded world)
load_broken holds tree look_up start mid refusal begun first there more = λ world is.
    let reached = first world is nothing begun in
    subst (IsAnswer (Err refusal)) (sym (there_from world (file_at world.tree root_file) (sym there ∙ reached.3)))
    (as_answer refusal (with_all world nothing (order world)) (λ sofar. Ok (loaded_of sofar))
    (subst (Stops refusal) (sym (behind_root world reached.0 reached.1)) (more world is reached.0 reached.2)))

-- a root file that isn't there passes no limit
root_stops : (world : World) (refusal : LoadRefusal) (reach : ℕ → List ℕ → List Met) (found : Option (List ℕ)) → Stops refusal (with_all world nothing (at_file world reach [] root_file found))
    → false ≡ is_some found → IsAnswer {T = Loaded} (Err refusal) (Err NoInit)
root_stops world NoInit reach found stops gone = absurd stops
root_stops world ReadFault reach found stops gone = tt
root_stops world (TooLarge path limit number) reach None stops gone = let no = stops in cc
root_stops world (TooLarge path limit number) reach (Some bytes) stops gone = cc
root_stops world (TooMany path number) reach None stops gone = let no = stops in cc
root_stops world (TooMany path number) reach (Some bytes) stops gone = cc
root_stops world NoMemory reach found stops gone = tt

pub load_refused : {G : Type 0} (holds : Holds G) (tree : Option Tree) (look_up : LookUp) (start : Loading G) (refusal : LoadRefusal) → Stands holds start nothing
    → FollowsFile holds tree look_up start (Err refusal) (λ world. at_first world root_file) root_file → (world : World) → IsWorld tree look_up world → IsAnswer (Err refusal) (loaded world)
load_refused holds tree look_up start refusal begun first world is = by (is_some (file_at world.tree root_file)) refl (first world is nothing begun)
  where
    by : (b : Bool) → b ≡ is_some (file_at world.tree root_file) → Stops refusal (with_all world nothing (at_first world root_file)) → IsAnswer (Err refusal) (loaded world)
    by true there stops =
        subst (IsAnswer (Err refusal)) (sym (there_from world (file_at world.tree root_file) there))
        (as_answer refusal (with_all world nothing (order world)) (λ sofar. Ok (loaded_of sofar))
        (subst (Stops refusal) (sym (all_behind world nothing (at_first world root_file) (rest_met world)))
        (stopped refusal (with_all world nothing (at_first world root_file)) (λ s. with_all world s (rest_met world)) stops)))
    by false gone stops =
        subst (IsAnswer (Err refusal)) (sym (gone_from world (file_at world.tree root_file) gone))
        (root_stops world refusal (at_target world 16 (root_file ∷ []) root_file) (file_at world.tree root_file) stops gone)

-- ---- the directories

pub dir_parted : (at : ℕ) → at < 5 → drop at directories ≡ get_or directories at [] ∷ drop (at + 1) directories
dir_parted at below = drop-cons directories at [] below ∙ ap (λ n. get_or directories at [] ∷ drop n directories) (let same : suc at ≡ at + 1 = omega arith in same)

pub dirs_over : (at : ℕ) → 5 ≤ at → drop at directories ≡ []
dirs_over at past = drop_all at directories past

pub item_now : (items : List (Bor (List ℕ))) (at : ℕ) (d : Bor (List ℕ)) → (get_or items at d).now ≡ get_or (map (λ (dir : Bor (List ℕ)). dir.now) items) at d.now
item_now [] at d = refl
item_now (dir ∷ items) zero d = refl
item_now (dir ∷ items) (suc at) d = item_now items at d
