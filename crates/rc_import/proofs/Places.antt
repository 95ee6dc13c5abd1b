-- Files, imports and directories, and what is met from them on.
use Rattle.std.proofs.Common.{◌≡◌, ℕ, zero, suc, ◌-◌, ◌<◌, Bool, true, false, if◌then◌else◌, nat_lt, List, [], ◌∷◌, ◌++◌, length, Option, Some, None, is_some, Result, Ok, Err, refl, sym, ap, ◌∙◌, subst, append-nil, arith}
use Rattle.std.specs.List.{flat_map}
use Rattle.std.proofs.lemmas.Grind.{common_steps}
use Rattle.init_base.specs.Tree.{file_at, has_name, is_dir, names_in}
use Rattle.init_machine.specs.Expand.{expand}
use Rattle.init_machine.specs.declared.diagnostic.DiagKind.{DiagKind}
use Rattle.init_machine.specs.declared.diagnostic.DiagKind.TheVariants.{BadExpand, Loop, NoFile, TooDeep}
use Rattle.init_machine.specs.declared.output.Cause.{Cause}
use Rattle.rc_parse.specs.declared.parsed.Import.{Import}
use Rattle.rc_import.specs.Limits.{SoFar, onward, with_all, with_met}
use Rattle.rc_import.specs.Names.{in_byte_order}
use Rattle.rc_import.specs.Order.{Met, File, at_directory, at_expanded, at_file, at_import, at_path, at_target, fault}
use Rattle.rc_import.specs.Paths.{bare, file_in, is_absolute}
use Rattle.rc_import.specs.World.{IsWorld, World}
use Rattle.rc_import.specs.internal.Listings.{HasNames, ListsInOrder}
use Rattle.rc_import.specs.internal.Steps.{Follows, FollowsFile, Holds, IsFile, Reaches, ReachesFile, ReachesImports, Stands, Stops, imports_at}
use Rattle.rc_import.specs.declared.loaded.LoadLimit.TheVariants as limits
use Rattle.rc_import.specs.declared.loaded.LoadRefusal.{LoadRefusal}
use Rattle.rc_import.specs.declared.loaded.LoadRefusal.TheVariants.{NoInit, ReadFault, TooLarge, TooMany, NoMemory}
use Rattle.rc_import.specs.declared.loading.Loading.{Loading}
use Rattle.rc_import.specs.declared.place.Place.{Place}
use Rattle.rc_import.proofs.Walks.{LookUp, Tree, all_behind, same_met, stopped}

-- what is met where a line of a place's file leads
abbrev pub reach_from : Place → World → ℕ → List ℕ → List Met
reach_from place world = at_target world place.left place.trail place.file

-- ---- files

absent_met : {G : Type 0} (holds : Holds G) (world : World) (reach : ℕ → List ℕ → List Met) (sofar : SoFar) (next : Loading G) (path : List ℕ) (found : Option (List ℕ))
    → ReachesImports holds (Ok (next, None)) (with_met world sofar (File path found)) (imports_at world path found)
    → ReachesFile holds (Ok (next, false)) (with_all world sofar (at_file world reach [] path found)) (is_some found)
absent_met holds world reach sofar next path None reached = (reached.0, ap (λ r. onward r (λ s. Ok s)) reached.1, reached.2, refl)
absent_met holds world reach sofar next path (Some bytes) reached = let no = reached.3 in cc

there_met : {G : Type 0} (holds : Holds G) (world : World) (reach : ℕ → List ℕ → List Met) (sofar : SoFar) (mid : Loading G) (result : Result (Loading G) LoadRefusal) (path : List ℕ) (imports : List Import) (found : Option (List ℕ))
    → ReachesImports holds (Ok (mid, Some imports)) (with_met world sofar (File path found)) (imports_at world path found)
    → ((after : SoFar) → Stands holds mid after → Reaches holds result (with_all world after (flat_map (at_import world path reach) imports)))
    → Reaches holds result (with_all world sofar (at_file world reach [] path found))
there_met holds world reach sofar mid result path imports None reached more = let no = reached.3 in cc
there_met holds world reach sofar mid result path imports (Some bytes) reached more =
    let same : imports ≡ (world.means path bytes).imports = let is = reached.3 in cc in
    subst (Reaches holds result) (sym (ap (λ r. onward r (λ s. with_all world s (flat_map (at_import world path reach) (world.means path bytes).imports))) reached.1))
    (subst (λ is. Reaches holds result (with_all world reached.0 (flat_map (at_import world path reach) is))) same (more reached.0 reached.2))

is_there : {G : Type 0} (holds : Holds G) (world : World) (sofar : SoFar) (mid : Loading G) (path : List ℕ) (imports : List Import) (found : Option (List ℕ))
    → ReachesImports holds (Ok (mid, Some imports)) (with_met world sofar (File path found)) (imports_at world path found) → true ≡ is_some found
is_there holds world sofar mid path imports None reached = let no = reached.3 in cc
is_there holds world sofar mid path imports (Some bytes) reached = refl

refused_met : (world : World) (reach : ℕ → List ℕ → List Met) (sofar : SoFar) (refusal : LoadRefusal) (path : List ℕ) (found : Option (List ℕ))
    → Stops refusal (with_met world sofar (File path found)) → Stops refusal (with_all world sofar (at_file world reach [] path found))
refused_met world reach sofar refusal path None stops = stopped refusal (with_met world sofar (File path None)) (λ s. Ok s) stops
refused_met world reach sofar refusal path (Some bytes) stops =
    stopped refusal (with_met world sofar (File path (Some bytes))) (λ s. with_all world s (flat_map (at_import world path reach) (world.means path bytes).imports)) stops

pub file_absent_met : {G : Type 0} (holds : Holds G) (tree : Option Tree) (look_up : LookUp) (loading next : Loading G) (path : List ℕ) (reach : World → ℕ → List ℕ → List Met) → IsFile holds tree look_up loading path (Ok (next, None))
    → FollowsFile holds tree look_up loading (Ok (next, false)) (λ world. at_file world (reach world) [] path (file_at world.tree path)) path
file_absent_met holds tree look_up loading next path reach file = λ world is sofar stands. absent_met holds world (reach world) sofar next path (file_at world.tree path) (file world is sofar stands)

pub file_refused_met : {G : Type 0} (holds : Holds G) (tree : Option Tree) (look_up : LookUp) (loading : Loading G) (refusal : LoadRefusal) (path : List ℕ) (reach : World → ℕ → List ℕ → List Met)
    → IsFile holds tree look_up loading path (Err refusal)
    → FollowsFile holds tree look_up loading (Err refusal) (λ world. at_file world (reach world) [] path (file_at world.tree path)) path
file_refused_met holds tree look_up loading refusal path reach file = λ world is sofar stands. refused_met world (reach world) sofar refusal path (file_at world.tree path) (file world is sofar stands)

pub file_there_met : {G : Type 0} (holds : Holds G) (tree : Option Tree) (look_up : LookUp) (loading mid next : Loading G) (path : List ℕ) (imports : List Import) (reach : World → ℕ → List ℕ → List Met)
    → IsFile holds tree look_up loading path (Ok (mid, Some imports)) → Follows holds tree look_up mid (Ok next) (λ world. flat_map (at_import world path (reach world)) imports)
    → FollowsFile holds tree look_up loading (Ok (next, true)) (λ world. at_file world (reach world) [] path (file_at world.tree path)) path
file_there_met holds tree look_up loading mid next path imports reach file more = λ world is sofar stands.
    let reached = file world is sofar stands in
    let all = there_met holds world (reach world) sofar mid (Ok next) path imports (file_at world.tree path) reached (λ after stand. more world is after stand) in
    (all.0, all.1, all.2, is_there holds world sofar mid path imports (file_at world.tree path) reached)

pub file_broken_met : {G : Type 0} (holds : Holds G) (tree : Option Tree) (look_up : LookUp) (loading mid : Loading G) (refusal : LoadRefusal) (path : List ℕ) (imports : List Import) (reach : World → ℕ → List ℕ → List Met)
    → IsFile holds tree look_up loading path (Ok (mid, Some imports)) → Follows holds tree look_up mid (Err refusal) (λ world. flat_map (at_import world path (reach world)) imports)
    → FollowsFile holds tree look_up loading (Err refusal) (λ world. at_file world (reach world) [] path (file_at world.tree path)) path
file_broken_met holds tree look_up loading mid refusal path imports reach file more = λ world is sofar stands.
    there_met holds world (reach world) sofar mid (Err refusal) path imports (file_at world.tree path) (file world is sofar stands) (λ after stand. more world is after stand)

-- ---- where a line leads

pub target_open : (world : World) (left : ℕ) (trail : List (List ℕ)) (file : List ℕ) (line : ℕ) (path : List ℕ) → has_name trail path ≡ true
    → fault file line Loop ≡ at_target world left trail file line path
unfolding at_target
target_open world zero trail file line path open_now = ap (λ b. if b then fault file line Loop else fault file line TooDeep) (sym open_now)
target_open world (suc left) trail file line path open_now =
    ap (λ b. if b then fault file line Loop else at_file world (at_target world left (trail ++ path ∷ []) path) (fault file line NoFile) path (file_at world.tree path)) (sym open_now)

target_deep_at : (world : World) (left : ℕ) (trail : List (List ℕ)) (file : List ℕ) (line : ℕ) (path : List ℕ) → has_name trail path ≡ false → left ≡ 0
    → fault file line TooDeep ≡ at_target world left trail file line path
unfolding at_target
target_deep_at world zero trail file line path closed none = ap (λ b. if b then fault file line Loop else fault file line TooDeep) (sym closed)
target_deep_at world (suc left) trail file line path closed none = absurd (omega (arith, none))

pub target_deep : (world : World) (left : ℕ) (trail : List (List ℕ)) (file : List ℕ) (line : ℕ) (path : List ℕ) → has_name trail path ≡ false → left ≡ 0
    → fault file line TooDeep ≡ at_target world left trail file line path
target_deep = target_deep_at

target_below : (world : World) (left : ℕ) (trail : List (List ℕ)) (file : List ℕ) (line : ℕ) (path : List ℕ) → has_name trail path ≡ false → 0 < left
    → at_file world (at_target world (left - 1) (trail ++ path ∷ []) path) (fault file line NoFile) path (file_at world.tree path) ≡ at_target world left trail file line path
unfolding at_target
target_below world zero trail file line path closed some = absurd (omega (arith, some))
target_below world (suc left) trail file line path closed some =
    let less : suc left - 1 ≡ left = omega arith in
    ap (λ n. at_file world (at_target world n (trail ++ path ∷ []) path) (fault file line NoFile) path (file_at world.tree path)) less
    ∙ ap (λ b. if b then fault file line Loop else at_file world (at_target world left (trail ++ path ∷ []) path) (fault file line NoFile) path (file_at world.tree path)) (sym closed)

-- what stands behind a file that isn't there
abbrev left_out : Option (List ℕ) → List Met → List Met
left_out None missing = missing
left_out (Some bytes) missing = []

missing_is : (world : World) (reach : ℕ → List ℕ → List Met) (missing : List Met) (path : List ℕ) (found : Option (List ℕ))
    → at_file world reach [] path found ++ left_out found missing ≡ at_file world reach missing path found
missing_is world reach missing path None = refl
missing_is world reach missing path (Some bytes) = append-nil _

there_alone : (found : Option (List ℕ)) (missing : List Met) → true ≡ is_some found → left_out found missing ≡ []
there_alone None missing is = cc
there_alone (Some bytes) missing is = refl

absent_more : (found : Option (List ℕ)) (missing : List Met) → false ≡ is_some found → left_out found missing ≡ missing
absent_more None missing is = refl
absent_more (Some bytes) missing is = cc

abbrev below_met : ℕ → List (List ℕ) → List ℕ → World → List Met
below_met left trail path world = at_file world (at_target world (left - 1) (trail ++ path ∷ []) path) [] path (file_at world.tree path)

target_parts : (world : World) (left : ℕ) (trail : List (List ℕ)) (file : List ℕ) (line : ℕ) (path : List ℕ) → has_name trail path ≡ false → 0 < left
    → below_met left trail path world ++ left_out (file_at world.tree path) (fault file line NoFile) ≡ at_target world left trail file line path
target_parts world left trail file line path closed some =
    missing_is world (at_target world (left - 1) (trail ++ path ∷ []) path) (fault file line NoFile) path (file_at world.tree path) ∙ target_below world left trail file line path closed some

pub target_there : {G : Type 0} (holds : Holds G) (tree : Option Tree) (look_up : LookUp) (loading next : Loading G) (left : ℕ) (trail : List (List ℕ)) (file : List ℕ) (line : ℕ) (path : List ℕ)
    → has_name trail path ≡ false → 0 < left → FollowsFile holds tree look_up loading (Ok (next, true)) (below_met left trail path) path
    → Follows holds tree look_up loading (Ok next) (λ world. at_target world left trail file line path)
target_there holds tree look_up loading next left trail file line path closed some follows = λ world is sofar stands.
    let reached = follows world is sofar stands in
    let same : below_met left trail path world ≡ at_target world left trail file line path =
    sym (append-nil (below_met left trail path world)) ∙ ap (λ ms. below_met left trail path world ++ ms) (sym (there_alone (file_at world.tree path) (fault file line NoFile) reached.3))
    ∙ target_parts world left trail file line path closed some in
    (reached.0, ap (λ ms. with_all world sofar ms) (sym same) ∙ reached.1, reached.2)

pub target_missing : {G : Type 0} (holds : Holds G) (tree : Option Tree) (look_up : LookUp) (loading mid : Loading G) (result : Result (Loading G) LoadRefusal) (left : ℕ) (trail : List (List ℕ)) (file : List ℕ) (line : ℕ) (path : List ℕ)
    → has_name trail path ≡ false → 0 < left → FollowsFile holds tree look_up loading (Ok (mid, false)) (below_met left trail path) path
    → Follows holds tree look_up mid result (λ _. fault file line NoFile) → Follows holds tree look_up loading result (λ world. at_target world left trail file line path)
target_missing holds tree look_up loading mid result left trail file line path closed some follows faulty = λ world is sofar stands.
    let reached = follows world is sofar stands in
    let same : below_met left trail path world ++ fault file line NoFile ≡ at_target world left trail file line path =
    ap (λ ms. below_met left trail path world ++ ms) (sym (absent_more (file_at world.tree path) (fault file line NoFile) reached.3))
    ∙ target_parts world left trail file line path closed some in
    let all : with_all world sofar (at_target world left trail file line path) ≡ with_all world reached.0 (fault file line NoFile) =
    ap (λ ms. with_all world sofar ms) (sym same) ∙ all_behind world sofar (below_met left trail path world) (fault file line NoFile)
    ∙ ap (λ r. onward r (λ s. with_all world s (fault file line NoFile))) reached.1 in
    subst (Reaches holds result) (sym all) (faulty world is reached.0 reached.2)

pub target_refused : {G : Type 0} (holds : Holds G) (tree : Option Tree) (look_up : LookUp) (loading : Loading G) (refusal : LoadRefusal) (left : ℕ) (trail : List (List ℕ)) (file : List ℕ) (line : ℕ) (path : List ℕ)
    → has_name trail path ≡ false → 0 < left → FollowsFile holds tree look_up loading (Err refusal) (below_met left trail path) path
    → Follows holds tree look_up loading (Err refusal) (λ world. at_target world left trail file line path)
target_refused holds tree look_up loading refusal left trail file line path closed some follows = λ world is sofar stands.
    let behind_it = left_out (file_at world.tree path) (fault file line NoFile) in
    subst (λ ms. Stops refusal (with_all world sofar ms)) (target_parts world left trail file line path closed some)
    (subst (Stops refusal) (sym (all_behind world sofar (below_met left trail path world) behind_it))
    (stopped refusal (with_all world sofar (below_met left trail path world)) (λ s. with_all world s behind_it) (follows world is sofar stands)))

-- ---- directories

told_names : (tree : Option Tree) (look_up : LookUp) (world : World) (dir : List ℕ) (result : Result (Option (List (List ℕ))) LoadRefusal)
    → IsWorld tree look_up world → ListsInOrder tree dir result → ListsInOrder (Some world.tree) dir result
told_names tree look_up world dir result is lists = subst (λ t. ListsInOrder t dir result) is.tree_is lists

abbrev dir_or : (World → List ℕ → List Met) → (World → List Met) → List ℕ → World → List Met
dir_or reach other dir world = if is_dir world.tree dir then at_directory world (reach world) dir else other world

pub dir_none : {G : Type 0} (holds : Holds G) (tree : Option Tree) (look_up : LookUp) (loading : Loading G) (result : Result (Loading G) LoadRefusal) (dir : List ℕ) (reach : World → List ℕ → List Met) (other : World → List Met)
    → ListsInOrder tree dir (Ok None) → Follows holds tree look_up loading result other → Follows holds tree look_up loading result (dir_or reach other dir)
dir_none holds tree look_up loading result dir reach other lists follows =
    same_met holds tree look_up loading result other (dir_or reach other dir)
    (λ world is. ap (λ b. if b then at_directory world (reach world) dir else other world) (sym (told_names tree look_up world dir (Ok None) is lists))) follows

not_many : (n : ℕ) → n < 1025 → nat_lt 1024 n ≡ false
not_many n few = grind (arith, common_steps)

many_more : (n : ℕ) → 1024 < n → nat_lt 1024 n ≡ true
many_more n many = grind (arith, common_steps)

names_met : (world : World) (sofar : SoFar) (dir : List ℕ) (names : List (List ℕ)) (reach : World → List ℕ → List Met) (other : World → List Met) → HasNames world.tree dir names
    → with_all world sofar (flat_map (λ name. reach world (file_in dir name)) names) ≡ with_all world sofar (dir_or reach other dir world)
names_met world sofar dir names reach other has =
    ap (λ ns. with_all world sofar (flat_map (λ name. reach world (file_in dir name)) ns)) has.ordered
    ∙ sym (
    ap (λ b. with_all world sofar (if b then at_directory world (reach world) dir else other world)) has.is_one
    ∙ ap (λ b. onward (if b then Err (TooLarge dir limits.Names 1025) else Ok sofar) (λ next. with_all world next (flat_map (λ name. reach world (file_in dir name)) (in_byte_order (names_in world.tree dir)))))
    (not_many (length (names_in world.tree dir)) has.few))

pub dir_names : {G : Type 0} (holds : Holds G) (tree : Option Tree) (look_up : LookUp) (loading : Loading G) (result : Result (Loading G) LoadRefusal) (dir : List ℕ) (names : List (List ℕ)) (reach : World → List ℕ → List Met) (other : World → List Met)
    → ListsInOrder tree dir (Ok (Some names)) → Follows holds tree look_up loading result (λ world. flat_map (λ name. reach world (file_in dir name)) names)
    → Follows holds tree look_up loading result (dir_or reach other dir)
dir_names holds tree look_up loading result dir names reach other lists follows = λ world is sofar stands.
    subst (Reaches holds result) (names_met world sofar dir names reach other (told_names tree look_up world dir (Ok (Some names)) is lists)) (follows world is sofar stands)

pub dir_refused : {G : Type 0} (holds : Holds G) (tree : Option Tree) (look_up : LookUp) (loading : Loading G) (refusal : LoadRefusal) (dir : List ℕ) (reach : World → List ℕ → List Met) (other : World → List Met)
    → ListsInOrder tree dir (Err refusal) → Follows holds tree look_up loading (Err refusal) (dir_or reach other dir)
dir_refused holds tree look_up loading NoInit dir reach other lists = λ world is sofar stands. told_names tree look_up world dir (Err NoInit) is lists
dir_refused holds tree look_up loading ReadFault dir reach other lists = λ world is sofar stands. tt
dir_refused holds tree look_up loading (TooLarge path limit number) dir reach other lists = λ world is sofar stands.
    let more = told_names tree look_up world dir (Err (TooLarge path limit number)) is lists in
    ap (λ b. with_all world sofar (if b then at_directory world (reach world) dir else other world)) more.is_one
    ∙ ap (λ b. onward (if b then Err (TooLarge dir limits.Names 1025) else Ok sofar) (λ next. with_all world next (flat_map (λ name. reach world (file_in dir name)) (in_byte_order (names_in world.tree dir)))))
    (many_more (length (names_in world.tree dir)) more.many)
    ∙ (λ i. Err (TooLarge (sym more.path_is i) (sym more.limit_is i) (sym more.number_is i)))
dir_refused holds tree look_up loading (TooMany path number) dir reach other lists = λ world is sofar stands. absurd (told_names tree look_up world dir (Err (TooMany path number)) is lists)
dir_refused holds tree look_up loading NoMemory dir reach other lists = λ world is sofar stands. tt

-- ---- imports

same_expansion : (look_up others : LookUp) (path : List ℕ) → ((name : List ℕ) → look_up name ≡ others name) → expand look_up path ≡ expand others path
same_expansion look_up others path same = λ i. expand (λ name. same name i) path

pub import_expanded : {G : Type 0} (holds : Holds G) (tree : Option Tree) (look_up : LookUp) (loading : Loading G) (result : Result (Loading G) LoadRefusal) (file : List ℕ) (reach : World → ℕ → List ℕ → List Met) (import : Import) (path : List ℕ)
    → expand look_up import.path ≡ Ok path → Follows holds tree look_up loading result (λ world. at_expanded world (fault file import.line) (reach world import.line) (Ok path))
    → Follows holds tree look_up loading result (λ world. at_import world file (reach world) import)
import_expanded holds tree look_up loading result file reach import path is follows =
    same_met holds tree look_up loading result (λ world. at_expanded world (fault file import.line) (reach world import.line) (Ok path)) (λ world. at_import world file (reach world) import)
    (λ world known. ap (λ r. at_expanded world (fault file import.line) (reach world import.line) r) (sym is ∙ same_expansion look_up world.look_up import.path known.look_up_is)) follows

pub import_faulty : {G : Type 0} (holds : Holds G) (tree : Option Tree) (look_up : LookUp) (loading : Loading G) (result : Result (Loading G) LoadRefusal) (file : List ℕ) (reach : World → ℕ → List ℕ → List Met) (import : Import)
    → (cause : Cause) × (expand look_up import.path ≡ Err cause) → Follows holds tree look_up loading result (λ _. fault file import.line BadExpand)
    → Follows holds tree look_up loading result (λ world. at_import world file (reach world) import)
import_faulty holds tree look_up loading result file reach import has follows =
    same_met holds tree look_up loading result (λ _. fault file import.line BadExpand) (λ world. at_import world file (reach world) import)
    (λ world known. ap (λ r. at_expanded world (fault file import.line) (reach world import.line) r) (sym has.1 ∙ same_expansion look_up world.look_up import.path known.look_up_is)) follows

pub path_relative : {G : Type 0} (holds : Holds G) (tree : Option Tree) (look_up : LookUp) (loading : Loading G) (result : Result (Loading G) LoadRefusal) (faulty : DiagKind → List Met) (reach : World → List ℕ → List Met) (path : List ℕ)
    → is_absolute path ≡ false → Follows holds tree look_up loading result (λ _. faulty NoFile) → Follows holds tree look_up loading result (λ world. at_expanded world faulty (reach world) (Ok path))
path_relative holds tree look_up loading result faulty reach path off follows =
    same_met holds tree look_up loading result (λ _. faulty NoFile) (λ world. at_expanded world faulty (reach world) (Ok path))
    (λ world known. ap (λ b. if b then at_path world (reach world) (bare path) else faulty NoFile) (sym off)) follows

pub path_absolute : {G : Type 0} (holds : Holds G) (tree : Option Tree) (look_up : LookUp) (loading : Loading G) (result : Result (Loading G) LoadRefusal) (faulty : DiagKind → List Met) (reach : World → List ℕ → List Met) (path kept : List ℕ)
    → is_absolute path ≡ true → kept ≡ bare path → Follows holds tree look_up loading result (dir_or reach (λ world. reach world kept) kept)
    → Follows holds tree look_up loading result (λ world. at_expanded world faulty (reach world) (Ok path))
path_absolute holds tree look_up loading result faulty reach path kept on is follows =
    same_met holds tree look_up loading result (dir_or reach (λ world. reach world kept) kept) (λ world. at_expanded world faulty (reach world) (Ok path))
    (λ world known. ap (λ p. at_path world (reach world) p) is ∙ ap (λ b. if b then at_path world (reach world) (bare path) else faulty NoFile) (sym on)) follows

-- ---- the place below

abbrev pub file_met : Place → World → List Met
file_met place world = at_file world (reach_from place world) [] place.file (file_at world.tree place.file)

abbrev below_of : Place → List ℕ → Place
below_of place path = record { trail = place.trail ++ path ∷ []; file = path; left = place.left - 1 }

pub below_there : {G : Type 0} (holds : Holds G) (tree : Option Tree) (look_up : LookUp) (loading : Loading G) (next : Loading G × Bool) (place below : Place) (line : ℕ) (path : List ℕ)
    → has_name place.trail path ≡ false → 0 < place.left → below ≡ below_of place path → next.1 ≡ true → FollowsFile holds tree look_up loading (Ok next) (file_met below) below.file
    → Follows holds tree look_up loading (Ok next.0) (λ world. reach_from place world line path)
below_there holds tree look_up loading next place below line path closed some is there follows =
    target_there holds tree look_up loading next.0 place.left place.trail place.file line path closed some
    (subst (λ b. FollowsFile holds tree look_up loading (Ok (next.0, b)) (file_met (below_of place path)) path) there
    (subst (λ p. FollowsFile holds tree look_up loading (Ok next) (file_met p) p.file) is follows))

pub below_missing : {G : Type 0} (holds : Holds G) (tree : Option Tree) (look_up : LookUp) (loading : Loading G) (mid : Loading G × Bool) (result : Result (Loading G) LoadRefusal) (place below : Place) (line : ℕ) (path : List ℕ)
    → has_name place.trail path ≡ false → 0 < place.left → below ≡ below_of place path → mid.1 ≡ false → FollowsFile holds tree look_up loading (Ok mid) (file_met below) below.file
    → Follows holds tree look_up mid.0 result (λ _. fault place.file line NoFile) → Follows holds tree look_up loading result (λ world. reach_from place world line path)
below_missing holds tree look_up loading mid result place below line path closed some is there follows faulty =
    target_missing holds tree look_up loading mid.0 result place.left place.trail place.file line path closed some
    (subst (λ b. FollowsFile holds tree look_up loading (Ok (mid.0, b)) (file_met (below_of place path)) path) there
    (subst (λ p. FollowsFile holds tree look_up loading (Ok mid) (file_met p) p.file) is follows)) faulty

pub below_refused : {G : Type 0} (holds : Holds G) (tree : Option Tree) (look_up : LookUp) (loading : Loading G) (refusal : LoadRefusal) (place below : Place) (line : ℕ) (path : List ℕ)
    → has_name place.trail path ≡ false → 0 < place.left → below ≡ below_of place path → FollowsFile holds tree look_up loading (Err refusal) (file_met below) below.file
    → Follows holds tree look_up loading (Err refusal) (λ world. reach_from place world line path)
below_refused holds tree look_up loading refusal place below line path closed some is follows =
    target_refused holds tree look_up loading refusal place.left place.trail place.file line path closed some
    (subst (λ p. FollowsFile holds tree look_up loading (Err refusal) (file_met p) p.file) is follows)
