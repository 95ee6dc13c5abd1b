use Rattle.std.proofs.Common.{◌≡◌, false, subst, ℕ, List}
use Rattle.init_machine.specs.Sets.{Numbered}
use Rattle.trace_audit.proofs.Values.{no_number}
use Rattle.trace_audit.proofs.facts.is_serial_of.Goals as goal

pub returns-in_default-clause-none : goal.returns-in_default-clause-none
returns-in_default-clause-none c =
    λ (no : false ≡ false).
    no_number c.args.sets.now.pairs.items c.args.name.now c.args.word
    (subst (λ (number : ℕ). (value : List ℕ) → ¬ Numbered c.args.sets.now.pairs.items number c.args.name.now value) c.number_in.ensures c.in_default.ensures)
