-- From the root on.
use Rattle.std.proofs.Common.{[], refl, sym, ap, ◌∙◌}
use Rattle.model_fs.specs.internal.Entries.{place_in}
use Rattle.model_fs.proofs.Shown.{place_shown}
use Rattle.model_fs.proofs.entries.Entries.lead.Goals as goal

pub returns-clause-at : goal.returns-clause-at
returns-clause-at c =
    c.lead_on.ensures.at []
    (ap (λ tree. place_in tree []) (sym c.self.view_is) ∙ place_shown c.self.inside.places c.self.inside.entries.items [] c.self.invariant.long ∙ c.self.invariant.root)

pub returns-clause-under : goal.returns-clause-under
returns-clause-under c =
    c.lead_on.ensures.under []
    (ap (λ tree. place_in tree []) (sym c.self.view_is) ∙ place_shown c.self.inside.places c.self.inside.entries.items [] c.self.invariant.long ∙ c.self.invariant.root)
    refl
