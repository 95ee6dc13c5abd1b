use Rattle.std.proofs.Common.{◌≡◌, ◌-◌, length}
use Rattle.trace_audit.specs.Progress.{main_left}
use Rattle.trace_audit.proofs.progress.MainPlace.settle.Given as goal

-- what is left stays
abbrev pub invariant-loop-self : goal.invariant-loop-self
invariant-loop-self l = main_left l.acts l.self ≡ main_left l.acts l.initial.self

abbrev pub decreases-loop-self : goal.decreases-loop-self
decreases-loop-self l = length l.acts - l.self.at
