use Rattle.std.proofs.Common.{[], sym, ap, ◌∙◌}
use Rattle.model_fs.specs.internal.Entries.{place_in}
use Rattle.model_fs.proofs.Shown.{place_shown}
use Rattle.model_fs.proofs.entries.Entries.root.Goals as goal

pub returns-clause-place : goal.returns-clause-place
returns-clause-place c =
    ap (λ t. place_in t []) (sym c.self.view_is) ∙ place_shown c.self.inside.places c.self.inside.entries.items [] c.self.invariant.long ∙ c.self.invariant.root
