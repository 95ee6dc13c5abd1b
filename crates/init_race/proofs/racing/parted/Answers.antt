use Rattle.std.proofs.Common.{◌≡◌, ◌++◌, [], List, length, drop, slice_get, refl, sym, ap, ◌∙◌, arith}
use Rattle.std.proofs.lemmas.Grind.{common_steps}
use Rattle.init_race.specs.internal.Ended.{readers_of, told_to}
use Rattle.init_race.specs.declared.actors.Acted.{Acted}
use Rattle.init_race.proofs.Parting.{all_parts, no_items, part_on, reader_on}
use Rattle.init_race.proofs.racing.parted.Goals as goal

pub loop-one-preserved : goal.loop-one-preserved
loop-one-preserved c =
    let clients = c.args.clients.now in
    let one = c.in-Some.one in
    let rest = c.next.new.self.rest.items in
    let readers = c.loop-one.readers.items in
    let parts = c.loop-one.parts in
    record {
      readers =
          reader_on one rest readers c.part_off.new.readers.items c.in_ok-part_off.ensures.readers
          ∙ ap (λ (left : List Acted). readers ++ readers_of left) (sym c.in-Some.ensures.steps.0) ∙ c.loop-one.invariant.readers;
      parts =
          part_on clients one rest parts c.part_off.new.parts (slice_get clients (length parts)) refl c.in_ok-part_off.ensures.parts
          ∙ ap (λ (left : List Acted). parts ++ told_to (drop (length parts) clients) left) (sym c.in-Some.ensures.steps.0) ∙ c.loop-one.invariant.parts;
    }

pub returns-clause-parts : goal.returns-clause-parts
returns-clause-parts c =
    let rest = c.loop-one.one-iterator.rest.items in
    let none : rest ≡ [] = no_items rest (first_of (omega arith, grind (arith, common_steps))) in
    all_parts c.args.clients.now (drop (length c.loop-one.parts) c.args.clients.now) rest c.loop-one.parts _ c.loop-one.invariant.parts none
