-- The kept times are those of the marks, and the places are those whose times have come.
use Rattle.std.proofs.Common.{◌<◌, ap, ◌∙◌, arith}
use Rattle.std.proofs.lemmas.Result.{IfOk-weaker}
use Rattle.restart_policy.specs.Times.{places_due as places_come}
use Rattle.services.specs.Services.{places_due}
use Rattle.services.proofs.Kept.{due_places}
use Rattle.services.proofs.services.Services.due.Goals as goal

pub returns : goal.returns
returns c =
    let s = c.self.inside in
    let reached : c.args.now.0 < 18446744073709551616 = omega arith in
    let due = ap (places_come c.args.now.0) c.self.invariant.1
    ∙ due_places c.args.now.0 (record { defs = s.table.defs; marks = s.table.marks; exits = s.exits }) reached ∙ ap (λ s. places_due s c.args.now.0) c.self.view_is in
    IfOk-weaker c.due.result _ _ (λ places is. is ∙ due) c.due.ensures
