use Rattle.std.proofs.Common.{sym, ◌∙◌}
use Rattle.model_fs.specs.internal.Rows.{tree_of}
use Rattle.model_fs.proofs.Calls.{link_passes}
use Rattle.model_fs.proofs.changing.link.Goals as goal

pub put-requires-clause-under : goal.put-requires-clause-under
put-requires-clause-under c = (link_passes (tree_of c.args.entries.now) c.args.target c.args.path.now c.requires.passes).1

pub put-requires-clause-kept : goal.put-requires-clause-kept
put-requires-clause-kept c directory = sym (link_passes (tree_of c.args.entries.now) c.args.target c.args.path.now c.requires.passes).0 ∙ directory
