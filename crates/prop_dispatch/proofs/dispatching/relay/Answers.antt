use Rattle.prop_dispatch.proofs.Serving.{then_ok}
use Rattle.prop_dispatch.proofs.dispatching.relay.Goals as goal

pub returns : goal.returns
returns g c =
    then_ok c.end.result _ _ _ c.end.ensures.failed c.end.ensures.dispatched
    (λ fine done is. is c.args.service c.args.sessions (c.serve-worker.ensures c.args.service c.begun-worker.ensures fine))
