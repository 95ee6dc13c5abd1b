use Rattle.std.proofs.Common.{ap, subst, sym}
use Rattle.init_machine.specs.declared.config.Config.{Config}
use Rattle.init_core.specs.Core.{IsDeclared, step_of}
use Rattle.init_core.proofs.Steps.{steps}
use Rattle.init_core.proofs.machine.Core.take.Goals as goal

pub step-taken-requires : goal.step-taken-requires
step-taken-requires g c =
    let same = ap (λ v. v.config) c.self.view_is in
    subst (λ (config : Config). IsDeclared config c.args.input.now) (sym same) c.requires.declared

pub returns-clause-config : goal.returns-clause-config
returns-clause-config g c =
    let inside = c.self.inside in
    (steps inside.pairs inside.domains inside.spent c.args.self.now c.args.input.now inside.parts c.step-taken.new.parts c.swap.new.x c.self.view_is c.in_ok-taken.ensures.done).config

pub returns-clause-policy : goal.returns-clause-policy
returns-clause-policy g c =
    let inside = c.self.inside in
    (steps inside.pairs inside.domains inside.spent c.args.self.now c.args.input.now inside.parts c.step-taken.new.parts c.swap.new.x c.self.view_is c.in_ok-taken.ensures.done).policy

pub returns-clause-state : goal.returns-clause-state
returns-clause-state g c =
    let inside = c.self.inside in
    (steps inside.pairs inside.domains inside.spent c.args.self.now c.args.input.now inside.parts c.step-taken.new.parts c.swap.new.x c.self.view_is c.in_ok-taken.ensures.done).state

pub returns-clause-outputs : goal.returns-clause-outputs
returns-clause-outputs g c =
    let inside = c.self.inside in
    let lines = (step_of c.args.self.now c.args.input.now).lines in
    let told = (steps inside.pairs inside.domains inside.spent c.args.self.now c.args.input.now inside.parts c.step-taken.new.parts c.swap.new.x c.self.view_is c.in_ok-taken.ensures.done).outputs in
    subst (λ before. g.O.Outputs.Adds before c.swap-2.new.y lines) c.swap.ensures.x_after
    (subst (λ after. g.O.Outputs.Adds c.swap.new.x after lines) (sym c.swap-2.ensures.y_after) told)

pub returns-clause-told : goal.returns-clause-told
returns-clause-told g c =
    let inside = c.self.inside in
    (steps inside.pairs inside.domains inside.spent c.args.self.now c.args.input.now inside.parts c.step-taken.new.parts c.swap.new.x c.self.view_is c.in_ok-taken.ensures.done).told
