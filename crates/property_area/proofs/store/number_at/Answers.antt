use Rattle.std.proofs.Common.{◌∙◌, List, ℕ, Some, sym, ap}
use Rattle.init_machine.specs.Props.{lookup_in, number_of}
use Rattle.property_area.specs.Seats.{sets_in, store_of}
use Rattle.property_area.proofs.Looking.{number_found}
use Rattle.property_area.proofs.store.number_at.Goals as goal

pub returns-clause-number : goal.returns-clause-number
returns-clause-number g c =
    let v = c.args.seat.now.me.0 in
    ap (λ x. Some x.1) c.parts-number.ensures
    ∙ (number_found v.words v (sets_in v) c.requires.writer.2.writes g.Q.Asked.name g.Q.Asked.place c.first_serial-word.result c.first_serial-word.new.seat.me.0.cell c.first_serial-word.ensures.told
    ∙ ap (λ (q : List ℕ). number_of (lookup_in (store_of v).held q)) (sym c.requires.asked.0))
