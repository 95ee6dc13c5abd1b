-- Above what stands, nothing is missing.
use Rattle.std.proofs.Common.{◌≡◌, true, sym, ap, ◌∙◌, subst}
use Rattle.init_machine.specs.FileTree.{is_there, parts_of}
use Rattle.model_fs.specs.internal.Entries.{IsReached}
use Rattle.model_fs.specs.internal.Rows.{node_at}
use Rattle.model_fs.proofs.Standing.{none_missing}
use Rattle.model_fs.proofs.entries.Entries.make_front.Goals as goal

pub returns-then-is_there-clause-tree : goal.returns-then-is_there-clause-tree
returns-then-is_there-clause-tree c =
    let tree = c.args.self.now in
    let front = parts_of c.args.front.now in
    let node = c.node.ensures front (sym c.requires.known ∙ c.in-Some.is) in
    let there : is_there (node_at tree front) ≡ true = ap is_there (sym node) ∙ sym c.is_there.ensures ∙ c.if-is_there.true in
    none_missing tree front (subst IsReached c.self.view_is c.self.invariant.reached) there
