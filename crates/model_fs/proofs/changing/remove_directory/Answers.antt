use Rattle.std.proofs.Common.{◌&&◌, ap, ◌∙◌}
use Rattle.init_machine.specs.FileTree.{is_directory, is_full, node_at, parts_of}
use Rattle.model_fs.specs.internal.Rows.{tree_of}
use Rattle.model_fs.proofs.Calls.{remove_directory_passes}
use Rattle.model_fs.proofs.changing.remove_directory.Goals as goal

pub remove-requires-clause-empty : goal.remove-requires-clause-empty
remove-requires-clause-empty c =
    ap (λ t. is_directory (node_at (tree_of t) (parts_of c.args.path.now)) && is_full (tree_of t) (parts_of c.args.path.now)) c.remember.ensures
    ∙ remove_directory_passes (tree_of c.args.entries.now) c.args.path.now c.requires.passes
