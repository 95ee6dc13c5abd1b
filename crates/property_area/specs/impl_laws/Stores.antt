-- Two states of a writer that are the same beside the sets.
use Rattle.std.proofs.Common.{refl, ◌∙◌}
use Rattle.property_area.specs.Seats.{Seated, IsSameBeside}

pub same_itself : (s : Seated) → IsSameBeside s s
same_itself s = (refl, refl, refl, refl, refl, refl, refl, refl)

pub same_on : (s t u : Seated) → IsSameBeside s t → IsSameBeside t u → IsSameBeside s u
same_on s t u a b = (a.0 ∙ b.0, a.1 ∙ b.1, a.2 ∙ b.2, a.3 ∙ b.3, a.4 ∙ b.4, a.5 ∙ b.5, a.6 ∙ b.6, a.7 ∙ b.7)
