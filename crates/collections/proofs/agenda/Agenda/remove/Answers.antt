-- The set hasn't the moment, and each other one as before.
use Rattle.std.proofs.Common.{ap, ◌∙◌, not, ◌&&◌, eqb}
use Rattle.collections.specs.Moments.{is_held}
use Rattle.collections.proofs.Held.{held_when_removed}
use Rattle.collections.proofs.agenda.Agenda.remove.Goals as goal

pub returns : goal.returns
returns c = λ t n.
    held_when_removed c.args.time c.args.number t n c.self.inside.moments.keys c.remove.new.self.keys (c.remove.ensures.updates.0 (t, n))
    ∙ ap (λ moments. not (eqb c.args.time t && eqb c.args.number n) && is_held t n moments) c.self.view_is
