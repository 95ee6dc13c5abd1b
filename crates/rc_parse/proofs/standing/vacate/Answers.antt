use Rattle.std.proofs.Common.{sym}
use Rattle.rc_parse.specs.internal.Merging.{place_of}
use Rattle.rc_parse.proofs.Slots.{place_within, vacated_none, vacated_one}
use Rattle.rc_parse.proofs.standing.vacate.Goals as goal

pub returns-in_default : goal.returns-in_default
returns-in_default c =
    let name = c.args.name.now in
    vacated_none name c.args.slots.now (place_of c.args.places.now name) (sym c.in_default.ensures.value) c.requires

pub set-requires : goal.set-requires
set-requires c =
    let name = c.args.name.now in
    place_within name c.args.slots.now (place_of c.args.places.now name) c.in-Some.place.now (sym c.in-Some.ensures.value) c.requires

pub returns : goal.returns
returns c =
    let name = c.args.name.now in
    rw c.set.ensures (vacated_one name c.args.slots.now (place_of c.args.places.now name) c.in-Some.place.now (sym c.in-Some.ensures.value) c.requires)
