-- The path's place is looked up, and what stands there.
use Rattle.std.proofs.Common.{◌++◌, ◌∷◌, [], Bool, None, if◌then◌else◌, sym, ap, ◌∙◌}
use Rattle.init_machine.specs.FileTree.{is_there}
use Rattle.model_fs.specs.internal.Entries.{place_in}
use Rattle.model_fs.proofs.Views.{viewed}
use Rattle.model_fs.proofs.entries.Entries.standing.Goals as goal

pub returns-then-is_there : goal.returns-then-is_there
returns-then-is_there c front above =
    let path = front ++ c.args.part.now ∷ [] in
    let at = c.child-at.ensures.place front (viewed c.self.invariant c.self.view_is front ∙ above) ∙ viewed c.self.invariant c.self.view_is path in
    let there = ap is_there (sym (c.node.ensures path (sym at))) ∙ sym c.is_there.ensures ∙ c.if-is_there.true in
    at ∙ sym (ap (λ (b : Bool). if b then place_in c.args.self.now path else None) there)

pub returns-else-is_there : goal.returns-else-is_there
returns-else-is_there c front above =
    let path = front ++ c.args.part.now ∷ [] in
    let at = c.child-at.ensures.place front (viewed c.self.invariant c.self.view_is front ∙ above) ∙ viewed c.self.invariant c.self.view_is path in
    let there = ap is_there (sym (c.node.ensures path (sym at))) ∙ sym c.is_there.ensures ∙ c.if-is_there.false in
    sym (ap (λ (b : Bool). if b then place_in c.args.self.now path else None) there)
