use Rattle.std.proofs.Common.{◌≡◌, ◌&&◌, drop}
use Rattle.std.specs.List.{list_all}
use Rattle.init_base.proofs.byte_test.all_hold_in_turn.Given as goal

-- what is left decides
abbrev pub invariant-loop-byte : goal.invariant-loop-byte
invariant-loop-byte g l = (l.all && list_all g.T.ByteTest.holds (drop l.byte-index l.bytes)) ≡ list_all g.T.ByteTest.holds l.bytes
