use Rattle.std.proofs.Common.{ap, ◌∙◌}
use Rattle.init_machine.specs.FileTree.{is_directory, is_under_other, node_at, parts_of}
use Rattle.model_fs.specs.internal.Rows.{tree_of}
use Rattle.model_fs.proofs.Calls.{copy_passes}
use Rattle.model_fs.proofs.changing.copy.Goals as goal

pub put_file-requires-clause-under : goal.put_file-requires-clause-under
put_file-requires-clause-under c =
    ap (λ t. is_under_other (tree_of t) (parts_of c.args.to.now)) c.remember.ensures ∙ (copy_passes (tree_of c.args.entries.now) c.args.from.now c.args.to.now c.requires.passes).1

pub put_file-requires-clause-directory : goal.put_file-requires-clause-directory
put_file-requires-clause-directory c =
    ap (λ t. is_directory (node_at (tree_of t) (parts_of c.args.to.now))) c.remember.ensures ∙ (copy_passes (tree_of c.args.entries.now) c.args.from.now c.args.to.now c.requires.passes).0
