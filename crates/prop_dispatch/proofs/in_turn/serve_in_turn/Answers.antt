use Rattle.std.proofs.Common.{◌≡◌, ◌++◌, ◌∷◌, [], List, length, ap, arith, rules}
use Rattle.prop_dispatch.specs.internal.Serving.{items_for, items_from}
use Rattle.prop_dispatch.specs.declared.session.Session.{Session}
use Rattle.prop_dispatch.proofs.InTurn.{all_in_turn, session_next}
use Rattle.prop_dispatch.proofs.Passes.{nil_of_zero}
use Rattle.prop_dispatch.proofs.in_turn.serve_in_turn.Goals as goal

pub loop-session-init : goal.loop-session-init
loop-session-init g c =
    let all : c.into_iter-session-iterator.result.rest.items ≡ c.args.sessions = search rules in (
      [],
      ap (λ (l : List Session). items_from 0 l) all,
      omega (arith, ap (λ (l : List Session). length l) all),
      λ old sessions before. before,
    )

pub serve_session-requires-after_bounds : goal.serve_session-requires-after_bounds
serve_session-requires-after_bounds g c κs within =
    let h = c.loop-session.invariant in
    let old = c.requires.serves.0 in
    (h.0, (old, c.args.sessions, h.3 old c.args.sessions c.requires.serves.1))

pub loop-session-preserved : goal.loop-session-preserved
loop-session-preserved g c =
    let h = c.loop-session.invariant in
    let session = c.in-Some.session in
    let left = c.loop-session.session-iterator.rest.items in
    let rest = c.next.new.self.rest.items in
    let split : left ≡ session ∷ rest = search rules in (
      h.0 ++ items_for c.loop-session.number session.requests,
      session_next c.loop-session.number h.0 _ left rest session h.1 split,
      omega (arith, h.2, ap (λ (l : List Session). length l) split),
      λ old sessions before. c.serve_session.ensures h.0 old sessions (h.3 old sessions before),
    )

pub returns : goal.returns
returns g c old before fine =
    let h = c.loop-session.invariant in
    let left = c.loop-session.session-iterator.rest.items in
    let none : left ≡ [] = nil_of_zero left (omega (arith, c.loop-session.session-iterator.rest.ok, c.in-None.ensures.steps.0)) in
    record {
      got = h.0;
      serves = h.3 old c.args.sessions before fine;
      all = all_in_turn c.loop-session.number h.0 c.args.sessions left none h.1;
    }
