-- The process goes to the end, and stands at its planned end.
use Rattle.std.proofs.Common.{ap, sym, subst, ◌∙◌, ◌++◌, ◌∷◌, [], IfSome}
use Rattle.model_kernel.proofs.Entries.{insert_last, numbered_inserted}
use Rattle.model_kernel.proofs.Listed.{listed_pushed, one_changes}
use Rattle.model_kernel.specs.Living.{AreBelow, AreNumbered, IsListed, living}
use Rattle.model_kernel.specs.Parts.{process_of}
use Rattle.model_kernel.proofs.living.Living.push.Goals as goal

pub invariant_of-self-in-Ok : goal.invariant_of-self-in-Ok
invariant_of-self-in-Ok c =
    let all = c.self.inside.asks_all in
    let pid = c.args.process.pid in
    one_changes all all c.self.inside.ends c.list_end.new.ends pid c.self.inside.processes.entries c.insert.new.self.entries (λ e. e)
    c.list_end.ensures.others
    c.in-Ok.ensures.updates.2
    (subst (λ o. IfSome o (IsListed all c.list_end.new.ends pid)) (sym c.in-Ok.ensures.updates.1)
    (listed_pushed all c.list_end.new.ends pid c.args.process c.requires.lives c.in_ok-list_end.ensures.end))
    c.in-Ok.ensures.ordered
    (subst AreNumbered (sym c.in-Ok.ensures.entries)
    (numbered_inserted c.self.inside.processes.entries c.args.process (subst (AreBelow pid) (sym c.self.view_is) c.requires.below) c.self.invariant.numbered))
    c.self.invariant

pub returns-in-Ok-clause-ok : goal.returns-in-Ok-clause-ok
returns-in-Ok-clause-ok c =
    ap living c.in-Ok.ensures.entries
    ∙ insert_last c.self.inside.processes.entries c.args.process (subst (AreBelow c.args.process.pid) (sym c.self.view_is) c.requires.below)
    ∙ ap (λ ps. ps ++ process_of c.args.process ∷ []) c.self.view_is
