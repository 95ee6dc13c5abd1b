use Rattle.std.proofs.Common.{◌≡◌, ◌+◌, ◌++◌, ◌∷◌, [], suc, List, take, sym, ap, ◌∙◌, subst, arith}
use Rattle.prop_dispatch.specs.internal.Serving.{HaveEntered}
use Rattle.prop_dispatch.specs.declared.session.Session.{Session}
use Rattle.prop_dispatch.proofs.Lists.{read_at, take_all, take_next, take_none}
use Rattle.prop_dispatch.proofs.Serving.{is_fresh, is_known, nobody_entered, one_entered}
use Rattle.prop_dispatch.proofs.entering.enter_all.Goals as goal

pub loop-session-init : goal.loop-session-init
loop-session-init g c =
    subst (λ (l : List Session). HaveEntered g.N.AreaName.area c.args.service.now l c.args.service.now c.args.seats.now.items) (sym (take_none c.args.sessions.now))
    (nobody_entered g.N.AreaName.area c.args.service.now c.args.seats.now.items c.requires.ready c.requires.nobody)

pub enter_next-requires-clause-known : goal.enter_next-requires-clause-known
enter_next-requires-clause-known g c =
    let sessions = c.args.sessions.now in
    let at = read_at sessions c.loop-session.session-index c.session-item.result _ c.loop-session-test.true c.session-item.is in
    is_known c.args.service.now.opening sessions c.loop-session.session-index c.session-item.result c.loop-session.service c.requires.clients at
    c.loop-session.invariant.opening

pub enter_next-requires-clause-once : goal.enter_next-requires-clause-once
enter_next-requires-clause-once g c =
    let sessions = c.args.sessions.now in
    let at = read_at sessions c.loop-session.session-index c.session-item.result _ c.loop-session-test.true c.session-item.is in
    is_fresh g.N.AreaName.area c.args.service.now sessions c.loop-session.session-index c.session-item.result c.loop-session.service c.loop-session.seats.items
    c.requires.clients.different c.requires.fresh c.loop-session.invariant at

pub loop-session-preserved : goal.loop-session-preserved
loop-session-preserved g c =
    let sessions = c.args.sessions.now in
    let k = c.loop-session.session-index in
    let s = c.session-item.result in
    let at = read_at sessions k s _ c.loop-session-test.true c.session-item.is in
    let one : suc k ≡ k + 1 = omega arith in
    let more : take k sessions ++ s ∷ [] ≡ take (k + 1) sessions = sym (take_next sessions k s at) ∙ ap (λ n. take n sessions) one in
    subst (λ (l : List Session). HaveEntered g.N.AreaName.area c.args.service.now l c.enter_next.new.service c.enter_next.new.seats.items) more
    (one_entered g.N.AreaName.area c.args.service.now (take k sessions) s c.loop-session.service c.enter_next.new.service c.loop-session.seats.items
    c.enter_next.new.seats.items c.loop-session.invariant c.in_ok-enter_next.ensures)

pub returns : goal.returns
returns g c =
    subst (λ (l : List Session). HaveEntered g.N.AreaName.area c.args.service.now l c.loop-session.service c.loop-session.seats.items)
    (take_all c.args.sessions.now c.loop-session.session-index c.loop-session-test.false) c.loop-session.invariant
