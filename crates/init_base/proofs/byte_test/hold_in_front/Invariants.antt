use Rattle.std.proofs.Common.{◌≡◌, take}
use Rattle.std.specs.List.{list_all}
use Rattle.init_base.proofs.byte_test.hold_in_front.Given as goal

-- the bytes so far decide
abbrev pub invariant-loop-place : goal.invariant-loop-place
invariant-loop-place g l = l.all ≡ list_all g.T.ByteTest.holds (take l.place l.bytes)
