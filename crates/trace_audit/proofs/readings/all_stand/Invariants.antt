use Rattle.std.proofs.Common.{◌<◌, ℕ, get_or, None}
use Rattle.init_machine.specs.Facts.{Stands}
use Rattle.init_machine.specs.declared.report.Reading.{Reading}
use Rattle.trace_audit.proofs.readings.all_stand.Given as goal

-- the readings so far are true
abbrev pub invariant-loop-reading : goal.invariant-loop-reading
invariant-loop-reading l = (k : ℕ) (d : Reading) → k < l.reading-index → Stands l.sets.pairs.items None (get_or l.readings k d)
