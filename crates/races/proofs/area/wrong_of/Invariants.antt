use Rattle.std.proofs.Common.{◌≡◌, ◌≤◌}
use Rattle.races.proofs.area.wrong_of.Given as goal

abbrev pub invariant-loop-k : goal.invariant-loop-k
invariant-loop-k l = record { table : l.reader.table ≡ l.initial.reader.table; few : l.wrong ≤ l.k }
