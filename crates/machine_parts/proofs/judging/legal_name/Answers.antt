-- A name is legal or not.
use Rattle.std.proofs.Common.{◌≡◌, Bool, true, false, not, refl, ap}
use Rattle.std.proofs.lemmas.Bool.{false≢true}
use Rattle.init_machine.specs.Choices.{only_if}
use Rattle.init_machine.specs.declared.output.SetRefusal.TheVariants.{InvalidName}
use Rattle.machine_parts.proofs.judging.legal_name.Goals as goal

is_false : (b : Bool) → (b ≡ true → ⊥) → b ≡ false
is_false true never = absurd (never refl)
is_false false never = refl

pub returns-in-None-clause-answer : goal.returns-in-None-clause-answer
returns-in-None-clause-answer c = ap (λ legal. only_if (not legal) InvalidName) (is_false _ (λ legal. false≢true (c.in-None.ensures.exact.1 legal)))
