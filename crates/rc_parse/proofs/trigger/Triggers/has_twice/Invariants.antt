use Rattle.std.proofs.Common.{map, drop}
use Rattle.rc_parse.specs.Triggers.{has_twice}
use Rattle.rc_parse.proofs.Seen.{Left}
use Rattle.rc_parse.proofs.trigger.Triggers.has_twice.Given as goal

abbrev pub invariant-loop-test : goal.invariant-loop-test
invariant-loop-test l = Left l.seen (drop l.test-index l.test-items) (has_twice (map (λ test. test.name) l.self.props))
