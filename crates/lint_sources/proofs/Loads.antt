-- Reading the build files and the rc files.
use Rattle.std.proofs.Common.{◌≡◌, ℕ, ◌<◌, ◌≤◌, List, ◌++◌, length, Option, Result, Ok, Err, subst, sym, ap, inl, inr, ◌∙◌, arith}
use Rattle.std.specs.Prelude.{if◌then◌else◌, nat_lt}
use Rattle.std.proofs.lemmas.Bool.Decides.{nat_tests}
use Rattle.init_machine.specs.declared.config.Pair.{Pair}
use Rattle.init_machine.specs.declared.diagnostic.Diagnostic.{Diagnostic}
use Rattle.prop_rules.specs.Build.{IsBuildFile}
use Rattle.prop_rules.specs.View.{view}
use Rattle.prop_rules.specs.declared.build.BuildProps.{BuildProps}
use Rattle.rc_import.specs.Answers.{IsAnswer}
use Rattle.rc_import.specs.BuildFiles.{behind_build_files}
use Rattle.rc_import.specs.Limits.{loaded as rc_files_of, onward}
use Rattle.rc_import.specs.World.{IsWorld, World}
use Rattle.rc_import.specs.declared.loaded.Loaded.{Loaded}
use Rattle.rc_import.specs.declared.loaded.LoadLimit.{LoadLimit}
use Rattle.rc_import.specs.declared.loaded.LoadLimit.TheVariants as limits
use Rattle.rc_import.specs.declared.loaded.LoadRefusal.{LoadRefusal}
use Rattle.rc_import.specs.declared.loaded.LoadRefusal.TheVariants as why
use Rattle.rc_import.proofs.BuildFiles.{both_read}
use Rattle.lint_sources.specs.internal.Steps.{AreBuildFiles, GivesBuildFile, GivesBuildFiles, GivesText, RefusesText}
use Rattle.lint_sources.specs.Loads.{IsWorldOf, Tree, behind_build_file, build_text, faults_of, loaded, pairs_of, system_path, vendor_path, with_build_files}

-- ---- build files

pub build_file_read : (tree : Tree) (path text : List ℕ) (props : BuildProps)
    → GivesText tree path (Ok text) → IsBuildFile path text props → GivesBuildFile tree path (Ok props)
build_file_read tree path text props gives is =
    (subst (λ t. IsBuildFile path t props) gives.0 is, subst (λ t. length t ≤ 1048576) gives.0 gives.1)

pub build_files_read : (tree : Tree) (one other both : BuildProps)
    → GivesBuildFile tree system_path (Ok one) → GivesBuildFile tree vendor_path (Ok other)
    → both.pairs ≡ one.pairs ++ other.pairs → both.diagnostics ≡ one.diagnostics ++ other.diagnostics
    → AreBuildFiles tree both
build_files_read tree one other both first second pairs diagnostics =
    let are = both_read tree one other both first.0 second.0 pairs diagnostics in
    record { system = first.1; vendor = second.1; pairs_are = are.0; diagnostics_are = are.1 }

-- ---- limits

behind_short : {A : Type 0} (n : ℕ) (refused next : Result A LoadRefusal) → n ≤ 1048576 → (if nat_lt 1048576 n then refused else next) ≡ next
behind_short n refused next short = grind (arith, nat_tests)

behind_long : {A : Type 0} (n : ℕ) (refused next : Result A LoadRefusal) → 1048576 < n → (if nat_lt 1048576 n then refused else next) ≡ refused
behind_long n refused next long = grind (arith, nat_tests)

both_short : {A : Type 0} (tree : Tree) (next : Result A LoadRefusal)
    → length (build_text tree system_path) ≤ 1048576 → length (build_text tree vendor_path) ≤ 1048576
    → behind_build_file tree system_path (behind_build_file tree vendor_path next) ≡ next
both_short tree next system vendor =
    behind_short (length (build_text tree system_path)) _ _ system ∙ behind_short (length (build_text tree vendor_path)) _ _ vendor

too_long : {A : Type 0} (path file : List ℕ) (limit : LoadLimit) (number : ℕ) (r : Result A LoadRefusal) → r ≡ Err (why.TooLarge path limits.FileBytes 1048577)
    → file ≡ path → limit ≡ limits.FileBytes → number ≡ 1048577 → r ≡ Err (why.TooLarge file limit number)
too_long path file limit number r is same of_file one = cc

pub system_refused : (world : World) (refusal : LoadRefusal) → RefusesText world.tree system_path refusal → IsAnswer (Err refusal) (loaded world)
system_refused world why.NoInit refused = absurd refused
system_refused world why.ReadFault refused = tt
system_refused world (why.TooLarge file limit number) refused =
    too_long system_path file limit number (loaded world) (behind_long (length (build_text world.tree system_path)) _ _ refused.long)
    refused.path_is refused.limit_is refused.number_is
system_refused world (why.TooMany file number) refused = absurd refused
system_refused world why.NoMemory refused = tt

vendor_refused : (world : World) (refusal : LoadRefusal) → length (build_text world.tree system_path) ≤ 1048576
    → RefusesText world.tree vendor_path refusal → IsAnswer (Err refusal) (loaded world)
vendor_refused world why.NoInit short refused = absurd refused
vendor_refused world why.ReadFault short refused = tt
vendor_refused world (why.TooLarge file limit number) short refused =
    too_long vendor_path file limit number (loaded world)
    (behind_short (length (build_text world.tree system_path)) _ _ short ∙ behind_long (length (build_text world.tree vendor_path)) _ _ refused.long)
    refused.path_is refused.limit_is refused.number_is
vendor_refused world (why.TooMany file number) short refused = absurd refused
vendor_refused world why.NoMemory short refused = tt

pub build_files_refused : (world : World) (refusal : LoadRefusal) → GivesBuildFiles world.tree (Err refusal) → IsAnswer (Err refusal) (loaded world)
build_files_refused world refusal (inl system) = system_refused world refusal system
build_files_refused world refusal (inr vendor) = vendor_refused world refusal vendor.system vendor.vendor

-- ---- rc files

behind_rc_files : World → Result Loaded LoadRefusal → Result Loaded LoadRefusal
behind_rc_files world rc_files = onward rc_files (λ rc. Ok (with_build_files world.tree rc))

rc_files_decide : (world : World) (props : BuildProps) → AreBuildFiles world.tree props → loaded world ≡ behind_rc_files world (rc_files_of world)
unfolding behind_rc_files
rc_files_decide world props files = both_short world.tree (onward (rc_files_of world) (λ rc. Ok (with_build_files world.tree rc))) files.system files.vendor

pub rc_files_refused : (world : World) (props : BuildProps) (refusal : LoadRefusal)
    → AreBuildFiles world.tree props → IsAnswer (Err refusal) (rc_files_of world) → IsAnswer (Err refusal) (loaded world)
unfolding behind_rc_files
rc_files_refused world props why.NoInit files answer = rc_files_decide world props files ∙ ap (behind_rc_files world) answer
rc_files_refused world props why.ReadFault files answer = tt
rc_files_refused world props (why.TooLarge path limit number) files answer = rc_files_decide world props files ∙ ap (behind_rc_files world) answer
rc_files_refused world props (why.TooMany path number) files answer = rc_files_decide world props files ∙ ap (behind_rc_files world) answer
rc_files_refused world props why.NoMemory files answer = tt

pub rc_files_loaded : (world : World) (props : BuildProps) (rc all : Loaded)
    → AreBuildFiles world.tree props → all ≡ behind_build_files props rc → IsAnswer (Ok rc) (rc_files_of world) → loaded world ≡ Ok all
unfolding behind_rc_files
rc_files_loaded world props rc all files is answer =
    rc_files_decide world props files ∙ ap (behind_rc_files world) answer
    ∙ ap (λ (ps : List Pair). Ok (record { config = record rc.config { pairs = ps }; diagnostics = faults_of world.tree ++ rc.diagnostics })) (sym files.pairs_are)
    ∙ ap (λ (ds : List Diagnostic). Ok (behind_build_files (record { pairs = props.pairs; diagnostics = ds }) rc)) (sym files.diagnostics_are)
    ∙ ap (λ (l : Loaded). Ok l) (sym is)
