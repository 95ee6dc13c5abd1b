-- The place of the path is that of the plan.
use Rattle.std.proofs.Common.{sym, ap, ◌∙◌}
use Rattle.std.specs.Prelude.{position, find}
use Rattle.std.specs.Str.{bytes_eq}
use Rattle.model_kernel.proofs.PlanPlaces.{found_at_place, none_without_place}
use Rattle.model_kernel.proofs.plans.Plans.find.Goals as goal

pub returns-in-Some-clause-plan : goal.returns-in-Some-clause-plan
returns-in-Some-clause-plan c =
    let there = sym (c.in-Some.ensures ∙ ap (position (bytes_eq c.args.path.now)) c.self.invariant.0) in
    c.at.ensures ∙ found_at_place c.self.inside.plans c.args.path.now c.in-Some.at there
    ∙ ap (find (λ plan. bytes_eq plan.path c.args.path.now)) c.self.view_is

pub returns-in-None-clause-plan : goal.returns-in-None-clause-plan
returns-in-None-clause-plan c =
    let none = sym (c.in-None.ensures ∙ ap (position (bytes_eq c.args.path.now)) c.self.invariant.0) in
    none_without_place c.self.inside.plans c.args.path.now none
    ∙ ap (find (λ plan. bytes_eq plan.path c.args.path.now)) c.self.view_is
