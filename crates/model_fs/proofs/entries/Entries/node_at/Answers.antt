-- What stands there in the tree is the node of the path's row.
use Rattle.std.proofs.Common.{sym, ◌∙◌}
use Rattle.init_machine.specs.FileTree.{parts_of}
use Rattle.model_fs.proofs.Rows.{node_is}
use Rattle.model_fs.proofs.entries.Entries.node_at.Goals as goal

pub returns : goal.returns
returns c =
    let path = parts_of c.args.path.now in
    c.node.ensures path (sym c.requires.at) ∙ sym (node_is c.args.self.now path)
