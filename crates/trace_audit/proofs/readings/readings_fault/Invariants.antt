use Rattle.std.proofs.Common.{◌≡◌, List, take}
use Rattle.init_machine.specs.History.{sets_of}
use Rattle.init_machine.specs.declared.report.Entry.{Entry}
use Rattle.trace_audit.specs.Audited.{EachHolds}
use Rattle.trace_audit.specs.Lists.{all_requests}
use Rattle.trace_audit.proofs.readings.readings_fault.Given as goal

-- the readings of the clients so far hold
abbrev pub invariant-loop-index : goal.invariant-loop-index
invariant-loop-index l = (history : List Entry) → l.told.sets.pairs.items ≡ sets_of history → l.told.requests.items ≡ all_requests 0 history
    → EachHolds l.script history 1 (take l.index l.parts)
