use Rattle.std.proofs.Common.{◌≡◌, ◌<◌, ◌∙◌, ℕ, false, sym, ap, subst, length, set, length-set}
use Rattle.property_service.proofs.GivenBack.{Giving, had_seat, none_given, one_more, parts_given, same_area, view_given, within_seats}
use Rattle.property_service.proofs.leaving.take_in_all.Goals as goal

pub loop-reader-init : goal.loop-reader-init
loop-reader-init c = none_given c.args.writer.now c.args.seats.now c.args.readers c.requires.seated

pub take_in-who-requires : goal.take_in-who-requires
take_in-who-requires c = record {
  area =
      same_area c.args.writer.now c.args.seats.now c.args.readers c.loop-reader.readers c.pop.new.self c.loop-reader.writer c.loop-reader.seats c.in-Some.reader
      c.loop-reader.invariant c.in-Some.ensures c.requires.area;
}

pub set-requires : goal.set-requires
set-requires c =
    subst (λ (n : ℕ). n < length c.loop-reader.seats) (sym c.take_in-who.ensures.client)
    (within_seats c.loop-reader.seats c.in-Some.reader.view.who
    (c.loop-reader.invariant.seated c.in-Some.reader.view.who ∙ had_seat c.loop-reader.writer.view c.in-Some.reader.view.who c.in-Some.reader.id c.take_in-who.ensures.only))

pub loop-reader-preserved : goal.loop-reader-preserved
loop-reader-preserved c =
    let reader = c.in-Some.reader in
    let taken = c.take_in-who.ensures in
    let within = within_seats c.loop-reader.seats reader.view.who
    (c.loop-reader.invariant.seated reader.view.who ∙ had_seat c.loop-reader.writer.view reader.view.who reader.id taken.only) in
    let seats : c.set.new.self ≡ set c.loop-reader.seats reader.view.who false = c.set.ensures ∙ ap (λ (n : ℕ). set c.loop-reader.seats n false) taken.client in
    subst (Giving c.args.writer.now c.args.seats.now c.args.readers c.pop.new.self c.take_in-who.new.self) (sym seats)
    (one_more c.args.writer.now c.args.seats.now c.args.readers c.loop-reader.readers c.pop.new.self c.loop-reader.writer c.loop-reader.seats reader
    c.loop-reader.invariant c.in-Some.ensures c.take_in-who.new.self taken.writer.0.0 taken.writer.1 taken.stands taken.requests taken.opening within
    (length-set c.loop-reader.seats reader.view.who false))

pub returns-clause-writer : goal.returns-clause-writer
returns-clause-writer c = (
  c.loop-reader.invariant.table,
  view_given c.args.writer.now c.args.seats.now c.args.readers c.loop-reader.readers c.loop-reader.writer c.loop-reader.seats c.loop-reader.invariant c.in_default.ensures.0,
)

pub returns-clause-seated : goal.returns-clause-seated
returns-clause-seated c = c.loop-reader.invariant.seated

pub returns-clause-wide : goal.returns-clause-wide
returns-clause-wide c = c.loop-reader.invariant.wide

pub returns-clause-parts : goal.returns-clause-parts
returns-clause-parts c =
    parts_given c.args.writer.now c.args.seats.now c.args.readers c.loop-reader.readers c.loop-reader.writer c.loop-reader.seats c.loop-reader.invariant c.in_default.ensures.0
