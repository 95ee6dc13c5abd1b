use Rattle.std.proofs.Common.{◌++◌, ◌∷◌, [], ap, ◌∙◌, sym, rules, arith, length-append}
use Rattle.prop_dispatch.specs.internal.Views.{worker_view}
use Rattle.prop_dispatch.proofs.Passes.{one_fewer}
use Rattle.prop_dispatch.proofs.passing.seat_all.Goals as goal

pub loop-session-preserved : goal.loop-session-preserved
loop-session-preserved c =
    let done = c.loop-session.invariant.2.0 in
    let session = c.in-Some.session in (
      search rules,
      c.in_ok-seat_next.ensures.begun ∙ ap (λ n. worker_view n [] []) (sym c.in_ok-seat_next.ensures.many),
      (
        done ++ session ∷ [],
        one_fewer done _ _ _ session c.loop-session.invariant.2.1 (search rules),
        omega (arith, length-append done (session ∷ []), c.in_ok-seat_next.ensures.many, c.loop-session.invariant.2.2),
        c.in_ok-seat_next.ensures.sender done c.loop-session.invariant.2.3,
      ),
    )
