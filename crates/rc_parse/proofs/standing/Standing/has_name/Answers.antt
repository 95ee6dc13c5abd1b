use Rattle.std.proofs.Common.{sym, ap, ◌∙◌}
use Rattle.std.specs.List.{list_any}
use Rattle.rc_parse.specs.internal.Merging.{place_of}
use Rattle.rc_parse.specs.Kept.{is_named}
use Rattle.rc_parse.proofs.Slots.{placed_has}
use Rattle.rc_parse.proofs.standing.Standing.has_name.Goals as goal

pub returns : goal.returns
returns c =
    let name = c.args.name.now in
    c.contains_key.ensures
    ∙ sym (placed_has name c.self.inside.slots (place_of c.self.inside.places name) (c.self.invariant name))
    ∙ ap (list_any (is_named name)) c.self.view_is
