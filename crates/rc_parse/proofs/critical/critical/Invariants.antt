use Rattle.std.proofs.Common.{◌≡◌, drop}
use Rattle.rc_parse.specs.Values.{critical_of}
use Rattle.rc_parse.proofs.Criticals.{outcome_of}
use Rattle.rc_parse.proofs.critical.critical.Given as goal

-- what is left decides
abbrev pub invariant-loop-arg : goal.invariant-loop-arg
invariant-loop-arg l = critical_of l.args ≡ outcome_of l.parts (drop l.arg-index l.args)
