use Rattle.std.proofs.Common.{sym, ap, ◌∙◌}
use Rattle.init_machine.specs.Props.{used_in}
use Rattle.property_area.specs.Seats.{Seated, store_of}
use Rattle.property_area.proofs.Looking.{store_used}
use Rattle.property_area.proofs.writer.AreaWriterPropStore.used.Goals as goal

pub returns : goal.returns
returns c = c.self.invariant.3 ∙ sym (store_used c.self.inside.seat.me.0 c.self.invariant.2.fit) ∙ ap (λ (s : Seated). used_in (store_of s.view)) c.self.view_is
