use Rattle.std.proofs.Common.{◌≡◌, ◌≤◌, length}
use Rattle.std.specs.List.{list_all}
use Rattle.init_base.proofs.byte_test.all_hold.Given as goal

-- what is left decides
abbrev pub invariant-loop-rest : goal.invariant-loop-rest
invariant-loop-rest g l = record {
  left : list_all g.T.ByteTest.holds l.rest ≡ list_all g.T.ByteTest.holds l.bytes;
  some : 16 ≤ length l.rest;
}

abbrev pub decreases-loop-rest : goal.decreases-loop-rest
decreases-loop-rest g l = length l.rest
