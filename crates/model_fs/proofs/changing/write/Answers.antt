use Rattle.model_fs.specs.internal.Rows.{tree_of}
use Rattle.model_fs.proofs.Calls.{write_passes}
use Rattle.model_fs.proofs.changing.write.Goals as goal

pub put_file-requires-clause-under : goal.put_file-requires-clause-under
put_file-requires-clause-under c = (write_passes (tree_of c.args.entries.now) c.args.path.now c.args.content c.requires.passes).1

pub put_file-requires-clause-directory : goal.put_file-requires-clause-directory
put_file-requires-clause-directory c = (write_passes (tree_of c.args.entries.now) c.args.path.now c.args.content c.requires.passes).0
