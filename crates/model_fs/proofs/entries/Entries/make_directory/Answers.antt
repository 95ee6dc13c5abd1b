-- Where nothing stands, a directory is put.
use Rattle.std.proofs.Common.{◌++◌, ◌∷◌, [], Bool, if◌then◌else◌, sym, ap, ◌∙◌}
use Rattle.std.proofs.lemmas.Result.{on_ok_weaker}
use Rattle.init_machine.specs.declared.node.Node.TheVariants.{Directory}
use Rattle.model_fs.specs.internal.Rows.{put_node}
use Rattle.model_fs.proofs.Trees.{not_standing}
use Rattle.model_fs.proofs.entries.Entries.make_directory.Goals as goal

pub returns-clause-tree : goal.returns-clause-tree
returns-clause-tree c =
    on_ok_weaker c.put_child.result (λ put front above.
    let path = front ++ c.args.part.now ∷ [] in
    put front above
    ∙ sym (ap (λ (b : Bool). if b then c.args.self.now else put_node c.args.self.now path (Directory 493))
    (not_standing c.args.self.now path (sym c.in_default.is ∙ c.standing.ensures front above))))
    c.put_child.ensures.tree
