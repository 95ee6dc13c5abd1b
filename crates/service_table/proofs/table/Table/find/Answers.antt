-- The names are those of the services.
use Rattle.std.proofs.Common.{ap, ◌∙◌}
use Rattle.std.specs.Prelude.{position}
use Rattle.std.specs.Str.{bytes_eq}
use Rattle.collections.proofs.Places.{position_by_text}
use Rattle.service_table.specs.Table.{place_named}
use Rattle.service_table.proofs.table.Table.find.Goals as goal

pub returns : goal.returns
returns c =
    c.place.ensures ∙ ap (position (bytes_eq c.args.name.now)) c.self.invariant.0
    ∙ position_by_text (λ service. service.name) c.self.inside.defs c.args.name.now
    ∙ ap (λ table. place_named table c.args.name.now) c.self.view_is
