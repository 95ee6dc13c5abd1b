-- What is known where a call isn't refused.
use Rattle.std.proofs.Common.{◌≡◌, ℕ, Bool, true, false, not, ◌&&◌, ◌||◌, List, [], ◌∷◌, Option, Some, None, refl, ap, ◌∙◌}
use Rattle.init_machine.specs.Choices.{first_of, only_if}
use Rattle.init_machine.specs.FileTree.{Place, is_path, node_at, parts_of, is_there, is_directory, is_other, is_under_other, is_full, is_insecure, tree_refusal}
use Rattle.init_machine.specs.declared.node.Node.{Node}
use Rattle.init_machine.specs.declared.output.FsRefusal.{FsRefusal}
use Rattle.init_machine.specs.declared.output.FsRefusal.TheVariants.{BadPath, Absent, IsDir, NotDir, Exists, NotEmpty, Insecure}
use Rattle.init_machine.specs.declared.task.TreeCall.TheVariants as call

-- no cause holds
passes : (b : Bool) (why : FsRefusal) (rest : List (Option FsRefusal)) → first_of (only_if b why ∷ rest) ≡ None → (b ≡ false) × (first_of rest ≡ None)
passes true why rest none = absurd (cc)
passes false why rest none = (refl, none)

both_no : (a b : Bool) → (a || b) ≡ false → b ≡ false
both_no true b h = absurd (cc)
both_no false b h = h

not_there : (node : Option Node) → is_there node ≡ false → is_directory node ≡ false
not_there None none = refl
not_there (Some node) none = absurd (cc)

and_false : (b : Bool) → (b && false) ≡ false
and_false true = refl
and_false false = refl

pub write_passes : (tree : List Place) (path content : List ℕ) → tree_refusal tree (call.Write path content) ≡ None
    → (is_directory (node_at tree (parts_of path)) ≡ false) × (is_under_other tree (parts_of path) ≡ false)
unfolding tree_refusal
write_passes tree path content none =
    let under : List (Option FsRefusal) = only_if (is_under_other tree (parts_of path)) NotDir ∷ [] in
    let directory : List (Option FsRefusal) = only_if (is_directory (node_at tree (parts_of path))) IsDir ∷ under in
    let one = passes (not (is_path path)) BadPath directory none in
    let two = passes (is_directory (node_at tree (parts_of path))) IsDir under one.1 in
    (two.0, (passes (is_under_other tree (parts_of path)) NotDir [] two.1).0)

pub copy_passes : (tree : List Place) (from to : List ℕ) → tree_refusal tree (call.Copy from to) ≡ None
    → (is_directory (node_at tree (parts_of to)) ≡ false) × (is_under_other tree (parts_of to) ≡ false)
unfolding tree_refusal
copy_passes tree from to none =
    let insecure : List (Option FsRefusal) = only_if (is_insecure (node_at tree (parts_of from))) Insecure ∷ [] in
    let under : List (Option FsRefusal) = only_if (is_under_other tree (parts_of to)) NotDir ∷ insecure in
    let directory : List (Option FsRefusal) = only_if (is_directory (node_at tree (parts_of from)) || is_directory (node_at tree (parts_of to))) IsDir ∷ under in
    let absent : List (Option FsRefusal) = only_if (not (is_there (node_at tree (parts_of from)))) Absent ∷ directory in
    let one = passes (not (is_path from) || not (is_path to)) BadPath absent none in
    let two = passes (not (is_there (node_at tree (parts_of from)))) Absent directory one.1 in
    let three = passes (is_directory (node_at tree (parts_of from)) || is_directory (node_at tree (parts_of to))) IsDir under two.1 in (
      both_no (is_directory (node_at tree (parts_of from))) (is_directory (node_at tree (parts_of to))) three.0,
      (passes (is_under_other tree (parts_of to)) NotDir insecure three.1).0,
    )

pub make_directory_passes : (tree : List Place) (path : List ℕ) (mode : ℕ) → tree_refusal tree (call.MakeDirectory path mode) ≡ None → is_under_other tree (parts_of path) ≡ false
unfolding tree_refusal
make_directory_passes tree path mode none =
    let exists : List (Option FsRefusal) = only_if (is_other (node_at tree (parts_of path))) Exists ∷ [] in
    let under : List (Option FsRefusal) = only_if (is_under_other tree (parts_of path)) NotDir ∷ exists in
    let one = passes (not (is_path path)) BadPath under none in
    (passes (is_under_other tree (parts_of path)) NotDir exists one.1).0

pub link_passes : (tree : List Place) (target path : List ℕ) → tree_refusal tree (call.Link target path) ≡ None
    → (is_directory (node_at tree (parts_of path)) ≡ false) × (is_under_other tree (parts_of path) ≡ false)
unfolding tree_refusal
link_passes tree target path none =
    let exists : List (Option FsRefusal) = only_if (is_there (node_at tree (parts_of path))) Exists ∷ [] in
    let under : List (Option FsRefusal) = only_if (is_under_other tree (parts_of path)) NotDir ∷ exists in
    let one = passes (not (is_path path)) BadPath under none in
    let two = passes (is_under_other tree (parts_of path)) NotDir exists one.1 in
    (not_there (node_at tree (parts_of path)) (passes (is_there (node_at tree (parts_of path))) Exists [] two.1).0, two.0)

pub remove_passes : (tree : List Place) (path : List ℕ) → tree_refusal tree (call.Remove path) ≡ None
    → (is_directory (node_at tree (parts_of path)) && is_full tree (parts_of path)) ≡ false
unfolding tree_refusal
remove_passes tree path none =
    let directory : List (Option FsRefusal) = only_if (is_directory (node_at tree (parts_of path))) IsDir ∷ [] in
    let absent : List (Option FsRefusal) = only_if (not (is_there (node_at tree (parts_of path)))) Absent ∷ directory in
    let one = passes (not (is_path path)) BadPath absent none in
    let two = passes (not (is_there (node_at tree (parts_of path)))) Absent directory one.1 in
    ap (λ b. b && is_full tree (parts_of path)) (passes (is_directory (node_at tree (parts_of path))) IsDir [] two.1).0

pub remove_directory_passes : (tree : List Place) (path : List ℕ) → tree_refusal tree (call.RemoveDirectory path) ≡ None
    → (is_directory (node_at tree (parts_of path)) && is_full tree (parts_of path)) ≡ false
unfolding tree_refusal
remove_directory_passes tree path none =
    let full : List (Option FsRefusal) = only_if (is_full tree (parts_of path)) NotEmpty ∷ [] in
    let other : List (Option FsRefusal) = only_if (is_other (node_at tree (parts_of path))) NotDir ∷ full in
    let absent : List (Option FsRefusal) = only_if (not (is_there (node_at tree (parts_of path)))) Absent ∷ other in
    let one = passes (not (is_path path)) BadPath absent none in
    let two = passes (not (is_there (node_at tree (parts_of path)))) Absent other one.1 in
    let three = passes (is_other (node_at tree (parts_of path))) NotDir full two.1 in
    ap (λ b. is_directory (node_at tree (parts_of path)) && b) (passes (is_full tree (parts_of path)) NotEmpty [] three.1).0
    ∙ and_false (is_directory (node_at tree (parts_of path)))
