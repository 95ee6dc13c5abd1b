use Rattle.std.proofs.Common.{ℕ, ◌+◌, sym, ap, ◌∙◌}
use Rattle.init_machine.specs.Props.{with_set}
use Rattle.property_area.specs.Seats.{Seated, store_of}
use Rattle.property_area.proofs.Looking.{store_count, store_after}
use Rattle.property_area.proofs.writer.AreaWriterPropStore.put.Goals as goal

pub returns-clause-number : goal.returns-clause-number
returns-clause-number c =
    ap (λ (n : ℕ). n + 1) (c.self.invariant.4 ∙ sym (store_count c.self.inside.seat.me.0) ∙ ap (λ (s : Seated). (store_of s.view).count) c.self.view_is)

pub returns-clause-set : goal.returns-clause-set
returns-clause-set c =
    let name = c.args.name.bytes.now in
    let value = c.args.value.bytes.now in
    store_after c.self.inside.seat.me.0 name value c.set-self-inside.new.seat.me.0 c.set-self-inside.ensures.view
    ∙ ap (λ (s : Seated). with_set (store_of s.view) name value) c.self.view_is
