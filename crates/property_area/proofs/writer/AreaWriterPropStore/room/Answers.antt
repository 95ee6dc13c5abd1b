use Rattle.std.proofs.Common.{sym, ap, ◌∙◌}
use Rattle.atomic_table.specs.Seated.{TableId}
use Rattle.init_machine.specs.Props.{full_for}
use Rattle.property_area.specs.Seats.{Seated, store_of}
use Rattle.property_area.proofs.Looking.{room_ample, room_told}
use Rattle.property_area.proofs.writer.AreaWriterPropStore.room.Goals as goal

pub returns-clause-full : goal.returns-clause-full
returns-clause-full c =
    let v = c.self.inside.seat.me.0 in
    let name = c.args.name.bytes.now in
    let own = c.self.invariant in
    c.check_room.ensures
    ∙ room_told v name c.args.len c.words_needed-need.result c.self.inside.used c.words-words.result c.self.inside.count own.2.fit c.words_needed-need.ensures.need own.3
    (c.words-words.ensures ∙ sym (own.2.wide ∙ ap (λ (t : TableId). t.words) own.0)) own.4
    ∙ ap (λ (s : Seated). full_for (store_of s.view) name c.args.len) c.self.view_is

pub returns-then-has_room_for_any-clause-full : goal.returns-then-has_room_for_any-clause-full
returns-then-has_room_for_any-clause-full c =
    let v = c.self.inside.seat.me.0 in
    let name = c.args.name.bytes.now in
    let own = c.self.invariant in
    c.check_numbers.ensures
    ∙ room_ample v name c.args.len c.self.inside.used c.words-words.result c.self.inside.count own.2.fit c.args.name.legal own.3
    (c.words-words.ensures ∙ sym (own.2.wide ∙ ap (λ (t : TableId). t.words) own.0)) own.4 (sym c.has_room_for_any.ensures ∙ c.if-has_room_for_any.true)
    ∙ ap (λ (s : Seated). full_for (store_of s.view) name c.args.len) c.self.view_is
