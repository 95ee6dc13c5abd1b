use Rattle.std.proofs.Common.{◌≡◌, ℕ, ◌-◌, replicate}
use Rattle.init_machine.specs.declared.input.Input.TheVariants as Input
use Rattle.init_driver.specs.Machine.{told_to}
use Rattle.init_driver.proofs.Tallied.{CountingOn}
use Rattle.init_driver.proofs.counting.count_steps.Given as goal

-- what is left decides
abbrev pub invariant-loop : goal.invariant-loop
invariant-loop g l = record {
  counting : CountingOn (replicate l.count Input.Next) (replicate (l.count - l.counter) Input.Next) l.initial.core l.core l.initial.counts l.counts;
  still : (who : ℕ) → told_to l.core.readers who ≡ told_to l.initial.core.readers who;
}
