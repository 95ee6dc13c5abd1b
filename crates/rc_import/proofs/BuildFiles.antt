-- What is read of build files.
use Rattle.std.proofs.Common.{◌≡◌, ℕ, List, ◌++◌, Option, ap, ◌∙◌}
use Rattle.init_machine.specs.declared.config.Pair.{Pair}
use Rattle.prop_rules.specs.Build.{IsBuildFile}
use Rattle.prop_rules.specs.View.{view}
use Rattle.prop_rules.specs.declared.build.BuildProps.{BuildProps}
use Rattle.rc_import.specs.BuildFiles.{IsWorldOf, Tree, build_text, faults_of, pairs_of, system_path, vendor_path}
use Rattle.rc_import.specs.World.{IsWorld, World}

-- both build files, one behind the other
pub both_read : (tree : Tree) (one other both : BuildProps) → IsBuildFile system_path (build_text tree system_path) one
    → IsBuildFile vendor_path (build_text tree vendor_path) other → both.pairs ≡ one.pairs ++ other.pairs
    → both.diagnostics ≡ one.diagnostics ++ other.diagnostics → (both.pairs ≡ pairs_of tree) × (both.diagnostics ≡ faults_of tree)
both_read tree one other both first second pairs diagnostics =
    let one_pairs = first.pairs_are in
    let other_pairs = second.pairs_are in
    let one_diagnostics = first.diagnostics_are in
    let other_diagnostics = second.diagnostics_are in
    (cc, cc)

-- no call changes the tree, and the view of the build files' pairs is that of the world
pub world_viewed : (told now : Option Tree) (look_up : List ℕ → Option (List ℕ)) (pairs : List Pair) (world : World)
    → now ≡ told → ((name : List ℕ) → look_up name ≡ view pairs name) → pairs ≡ pairs_of world.tree
    → IsWorldOf told world → IsWorld now look_up world
world_viewed told now look_up pairs world same shows are is = record {
  tree_is = same ∙ is.tree_is;
  look_up_is = λ name. shows name ∙ ap (λ p. view p name) are ∙ is.look_up_is name;
  means_are = is.means_are;
}
