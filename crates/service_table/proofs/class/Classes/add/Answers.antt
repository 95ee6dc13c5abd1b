-- The place goes to what stands at the place of the class.
use Rattle.std.proofs.Common.{ap, ◌∙◌}
use Rattle.std.specs.Str.{bytes_eq}
use Rattle.service_table.specs.Classes.{placed_if, with_place}
use Rattle.service_table.proofs.Classes.{changed}
use Rattle.service_table.proofs.class.Classes.add.Goals as goal

pub returns-clause-places : goal.returns-clause-places
returns-clause-places c = λ other.
    let class = c.args.class.now in
    let made = c.ensure.new.self in
    let held = c.in_ok-at.ensures in
    changed (with_place c.args.service) made.names made.places.items class other c.index_mut.result.now c.add_place.new.places c.in_ok-at.at held.paired held.place
    c.index_mut.ensures.value c.in_ok-add_place.ensures
    ∙ ap (placed_if (bytes_eq class other) c.args.service) (held.same other)
