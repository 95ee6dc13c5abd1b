use Rattle.std.proofs.Common.{◌+◌, List, length, length-append, ap, sym, subst, ◌∙◌}
use Rattle.prop_dispatch.specs.declared.session.Session.{Session}
use Rattle.init_dispatch.specs.internal.Sessions.{AreSessions}
use Rattle.init_dispatch.proofs.EachSession.{session_next, sessions_more}
use Rattle.init_dispatch.proofs.sessions.sessions_of.Goals as goal

pub loop-place-preserved : goal.loop-place-preserved
loop-place-preserved c =
    let acts = c.args.script.now.acts in
    let next = session_next acts c.items.result.now c.loop-place.place c.loop-place.sessions c.in_ok-session.session (ap (λ w. w.0) c.in_ok-session.ensures.client)
    c.in_ok-session.ensures.requests c.items.ensures c.loop-place.invariant.many in
    record {
      sessions_are = subst (λ (these : List Session). AreSessions acts 1 these) (sym c.in_ok-push.ensures.ok)
          (sessions_more acts 1 c.loop-place.sessions c.in_ok-session.session c.loop-place.invariant.sessions_are next);
      many = ap (λ (these : List Session). length these) c.in_ok-push.ensures.ok ∙ length-append c.loop-place.sessions _ ∙ ap (λ n. n + 1) c.loop-place.invariant.many;
    }
