-- The set has the moment, and each other one as before.
use Rattle.std.proofs.Common.{ap, ◌∙◌, ◌||◌, ◌&&◌, eqb}
use Rattle.collections.specs.Moments.{is_held}
use Rattle.collections.proofs.Held.{held_when_added}
use Rattle.collections.proofs.agenda.Agenda.add.Goals as goal

pub returns-clause-ok : goal.returns-clause-ok
returns-clause-ok c = λ t n.
    held_when_added c.args.time c.args.number t n c.self.inside.moments.keys c.insert.new.self.keys (c.in_ok-insert.ensures.updates.0 (t, n))
    ∙ ap (λ moments. (eqb c.args.time t && eqb c.args.number n) || is_held t n moments) c.self.view_is
