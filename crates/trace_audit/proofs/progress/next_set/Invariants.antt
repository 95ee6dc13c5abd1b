use Rattle.std.proofs.Common.{◌≡◌, Some}
use Rattle.trace_audit.specs.Progress.{sets_behind}
use Rattle.trace_audit.proofs.progress.next_set.Given as goal

-- no act before this one is a set of the client
abbrev pub invariant-loop-at : goal.invariant-loop-at
invariant-loop-at l = sets_behind l.acts l.who (Some l.from) ≡ sets_behind l.acts l.who (Some l.at)
