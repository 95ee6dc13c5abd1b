-- The others are still persistent.
use Rattle.std.proofs.Common.{ap, ◌∙◌}
use Rattle.init_machine.specs.Pairs.{without_name}
use Rattle.machine_parts.proofs.SavedPairs.{are_persistent, without_persistent}
use Rattle.machine_parts.proofs.saved.Saved.remove.Goals as goal

pub invariant_of-self : goal.invariant_of-self
invariant_of-self c =
    ap are_persistent (c.without.ensures ∙ ap (λ pairs. without_name pairs c.args.name.now) c.replace-pairs.ensures.value)
    ∙ without_persistent c.self.inside.pairs c.args.name.now c.self.invariant
