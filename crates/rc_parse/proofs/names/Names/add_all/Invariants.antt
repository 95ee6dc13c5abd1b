use Rattle.std.proofs.Common.{List}
use Rattle.init_machine.specs.declared.diagnostic.Diagnostic.{Diagnostic}
use Rattle.rc_parse.specs.declared.names.Names.{Names}
use Rattle.rc_parse.proofs.KnownNames.{Adds}
use Rattle.rc_parse.proofs.names.Names.add_all.Given as goal

-- what is left decides
abbrev pub invariant-loop-service : goal.invariant-loop-service
invariant-loop-service l =
    (next : Names) (all : List Diagnostic) → Adds l.self l.diagnostics l.service-iterator.rest.items next all
    → Adds l.fn.self l.fn.diagnostics l.fn.services next all
