-- The marks of the service, and what follows from the operation on them.
use Rattle.std.proofs.Common.{◌∙◌, ◌<◌, ap, length, refl, sym, subst}
use Rattle.std.proofs.lemmas.Option.{slice_get_within}
use Rattle.std.proofs.lemmas.Result.{IfOk-weaker, on_ok_weaker}
use Rattle.init_machine.specs.Services.{Operated}
use Rattle.services.specs.Services.{ServicesView}
use Rattle.machine_parts.specs.Parts.{Does, rules_of, state_of}
use Rattle.machine_parts.proofs.Doing.{does_nothing}
use Rattle.machine_parts.proofs.Telling.{does_from, operates, operates_none}
use Rattle.machine_parts.proofs.operations.operate.Goals as goal

pub returns-in_default-clause-had_pid : goal.returns-in_default-clause-had_pid
returns-in_default-clause-had_pid g c =
    let is = operates_none (rules_of c.args.parts.now) c.args.at c.args.op (state_of g.S.PropStore.meaning c.args.parts.now) c.in_default.ensures in
    ap (λ (o : Operated). o.had_pid) (sym is)

pub returns-in_default-clause-done : goal.returns-in_default-clause-done
returns-in_default-clause-done g c =
    let is = operates_none (rules_of c.args.parts.now) c.args.at c.args.op (state_of g.S.PropStore.meaning c.args.parts.now) c.in_default.ensures in
    subst (λ (o : Operated). Does g.S.PropStore.meaning g.S.PropStore.told g.O.Outputs.Adds c.args.parts.now c.args.parts.now o.done) (sym is)
    (does_nothing g.met.O.Outputs.joins c.args.parts.now)

pub apply-requires : goal.apply-requires
apply-requires g c = slice_get_within c.args.parts.now.services.defs c.args.at c.in-Some.service.now (sym c.in-Some.ensures)

pub follow-requires : goal.follow-requires
follow-requires g c =
    subst (λ (v : ServicesView). c.args.at < length v.defs) (sym c.in_ok-todo.ensures.services)
    (slice_get_within c.args.parts.now.services.defs c.args.at c.in-Some.service.now (sym c.in-Some.ensures))

pub returns-clause-had_pid : goal.returns-clause-had_pid
returns-clause-had_pid g c =
    let is = operates g.S.PropStore.meaning c.args.parts.now c.apply.new.self c.in-Some.service.now c.args.at c.args.op c.in_ok-todo.todo c.in_ok-name.name c.in_ok-path.path
    c.in-Some.ensures c.in_ok-name.ensures c.in_ok-path.ensures c.in_ok-todo.ensures.services c.in_ok-todo.ensures.todo in
    IfOk-weaker c.follow.result _ _ (λ had same. same ∙ ap (λ (o : Operated). o.had_pid) is) c.follow.ensures.had_pid

pub returns-clause-done : goal.returns-clause-done
returns-clause-done g c =
    let meaning = g.S.PropStore.meaning in
    let told = g.S.PropStore.told in
    let a = c.args.parts.now in
    let is = operates meaning a c.apply.new.self c.in-Some.service.now c.args.at c.args.op c.in_ok-todo.todo c.in_ok-name.name c.in_ok-path.path c.in-Some.ensures c.in_ok-name.ensures
    c.in_ok-path.ensures c.in_ok-todo.ensures.services c.in_ok-todo.ensures.todo in
    on_ok_weaker c.follow.result
    (λ did.
    does_from meaning told g.met.O.Outputs.joins a (record a { services = c.apply.new.self }) c.follow.new.parts _ refl refl
    (ap (λ (v : ServicesView). rules_of (record a { services = v })) c.in_ok-todo.ensures.services) refl
    (subst (λ (o : Operated). Does meaning told g.O.Outputs.Adds (record a { services = c.apply.new.self }) c.follow.new.parts o.done) is did)) c.follow.ensures.done
