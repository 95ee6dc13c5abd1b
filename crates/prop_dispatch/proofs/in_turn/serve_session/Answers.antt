use Rattle.std.proofs.Common.{◌++◌, ◌∷◌, [], List, refl, sym, subst, append-nil, rules}
use Rattle.prop_dispatch.specs.internal.Serving.{Served, items_for}
use Rattle.prop_dispatch.specs.declared.protocol.Item.{Item}
use Rattle.prop_dispatch.proofs.InTurn.{item_next}
use Rattle.prop_dispatch.proofs.Passes.{one_fewer}
use Rattle.prop_dispatch.proofs.in_turn.serve_session.Goals as goal

pub loop-request-init : goal.loop-request-init
loop-request-init g c =
    let worker = c.args.worker.now in (
      [],
      search rules,
      λ got old sessions before.
          subst (λ (l : List Item). Served g.N.AreaName.area old sessions l worker.failed worker.service worker.seats.items) (sym (append-nil got)) before,
    )

pub loop-request-preserved : goal.loop-request-preserved
loop-request-preserved g c =
    let h = c.loop-request.invariant in
    let request = c.in-Some.request in
    let worker = c.serve.new.self in (
      h.0 ++ request ∷ [],
      one_fewer h.0 c.loop-request.request-iterator.rest.items c.next.new.self.rest.items c.args.requests request h.1 (search rules),
      λ got old sessions before.
          subst (λ (l : List Item). Served g.N.AreaName.area old sessions l worker.failed worker.service worker.seats.items)
          (item_next c.args.session got h.0 request (record { session = c.args.session; request = request }) refl)
          (c.serve.ensures (got ++ items_for c.args.session h.0) old sessions (h.2 got old sessions before)),
    )
