-- Above what stands, no file and no link stands.
use Rattle.std.proofs.Common.{◌≡◌, true, ◌||◌, sym, ap, ◌∙◌, subst}
use Rattle.init_machine.specs.FileTree.{is_other, is_there, parts_of}
use Rattle.model_fs.specs.internal.Entries.{IsReached}
use Rattle.model_fs.specs.internal.Rows.{node_at}
use Rattle.model_fs.proofs.Standing.{none_above_standing}
use Rattle.model_fs.proofs.entries.Entries.above.Goals as goal

pub returns-then-is_there-clause-other : goal.returns-then-is_there-clause-other
returns-then-is_there-clause-other c =
    let tree = c.args.self.now in
    let front = parts_of c.args.front.now in
    let node = c.node-node.ensures front (c.requires c.in-Some.at c.in-Some.is) in
    let there : is_there (node_at tree front) ≡ true = ap is_there (sym node) ∙ sym c.is_there.ensures ∙ c.if-is_there.true in
    c.is_other-has_other.ensures ∙ ap is_other node
    ∙ sym (ap (λ b. b || is_other (node_at tree front)) (none_above_standing tree front (subst IsReached c.self.view_is c.self.invariant.reached) there))
