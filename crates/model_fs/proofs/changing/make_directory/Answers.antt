use Rattle.model_fs.specs.internal.Rows.{tree_of}
use Rattle.model_fs.proofs.Calls.{make_directory_passes}
use Rattle.model_fs.proofs.changing.make_directory.Goals as goal

pub put-requires-clause-under : goal.put-requires-clause-under
put-requires-clause-under c = make_directory_passes (tree_of c.args.entries.now) c.args.path.now c.args.mode c.requires.passes
