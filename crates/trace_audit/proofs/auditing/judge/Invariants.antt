use Rattle.std.proofs.Common.{[], take}
use Rattle.init_machine.specs.State.{Opening}
use Rattle.trace_audit.specs.Taken.{HasTaken}
use Rattle.trace_audit.proofs.auditing.judge.Given as goal

-- the entries so far are taken
abbrev pub invariant-loop-entry : goal.invariant-loop-entry
invariant-loop-entry l = (o : Opening) → HasTaken o l.script [] l.initial.audit → HasTaken o l.script (take l.entry-index l.report.history) l.audit
