use Rattle.std.proofs.Common.{◌≡◌, [], ◌∙◌, subst, arith, rules}
use Rattle.std.proofs.lemmas.List.{nil_from_length}
use Rattle.rc_parse.proofs.KnownNames.{Adds, none_more, one_more}
use Rattle.rc_parse.proofs.names.Names.add_all.Goals as goal

pub loop-service-init : goal.loop-service-init
loop-service-init c = λ next all more.
    subst (λ services. Adds c.args.self.now c.args.diagnostics.now services next all)
    (c.into_iter-service-iterator.ensures.into_iter_gives.0 ∙ c.into_vec-service-items.ensures) more

pub loop-service-preserved-in_ok-add : goal.loop-service-preserved-in_ok-add
loop-service-preserved-in_ok-add c = λ next all more.
    c.loop-service.invariant next all
    (one_more c.loop-service.self c.add.new.self next c.loop-service.diagnostics c.add.new.diagnostics all c.in-Some.service
    c.loop-service.service-iterator.rest.items c.next.new.self.rest.items (search rules)
    (λ before read are is. (c.in_ok-add.ensures.names before read are is, c.in_ok-add.ensures.diagnostics before read are is)) more)

pub loop-service-preserved-in_ok-add-2 : goal.loop-service-preserved-in_ok-add-2
loop-service-preserved-in_ok-add-2 c = λ next all more.
    c.loop-service.invariant next all
    (one_more c.loop-service.self c.add.new.self next c.loop-service.diagnostics c.add.new.diagnostics all c.in-Some.service
    c.loop-service.service-iterator.rest.items c.next.new.self.rest.items (search rules)
    (λ before read are is. (c.in_ok-add.ensures.names before read are is, c.in_ok-add.ensures.diagnostics before read are is)) more)

pub loop-service-preserved : goal.loop-service-preserved
loop-service-preserved c = λ next all more.
    c.loop-service.invariant next all
    (one_more c.loop-service.self c.add.new.self next c.loop-service.diagnostics c.add.new.diagnostics all c.in-Some.service
    c.loop-service.service-iterator.rest.items c.next.new.self.rest.items (search rules)
    (λ before read are is. (c.in_ok-add.ensures.names before read are is, c.in_ok-add.ensures.diagnostics before read are is)) more)

pub returns-clause-names : goal.returns-clause-names
returns-clause-names c = λ before read are is.
    let left = c.loop-service.service-iterator.rest.items in
    let none : left ≡ [] = nil_from_length left (omega (arith, c.in-None.ensures.steps.0)) in
    (c.loop-service.invariant c.loop-service.self c.loop-service.diagnostics
    (none_more c.loop-service.self c.loop-service.diagnostics left none) before read are is).0

pub returns-clause-diagnostics : goal.returns-clause-diagnostics
returns-clause-diagnostics c = λ before read are is.
    let left = c.loop-service.service-iterator.rest.items in
    let none : left ≡ [] = nil_from_length left (omega (arith, c.in-None.ensures.steps.0)) in
    (c.loop-service.invariant c.loop-service.self c.loop-service.diagnostics
    (none_more c.loop-service.self c.loop-service.diagnostics left none) before read are is).1
