use Rattle.std.proofs.Common.{sym, ap, ◌∙◌}
use Rattle.property_area.specs.Seats.{Seated, store_of}
use Rattle.property_area.proofs.Looking.{store_count}
use Rattle.property_area.proofs.writer.AreaWriterPropStore.count.Goals as goal

pub returns : goal.returns
returns c = c.self.invariant.4 ∙ sym (store_count c.self.inside.seat.me.0) ∙ ap (λ (s : Seated). (store_of s.view).count) c.self.view_is
