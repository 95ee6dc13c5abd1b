use Rattle.std.proofs.Common.{◌≡◌, length, map}
use Rattle.trace_reader.specs.Reading.{choose}
use Rattle.trace_reader.proofs.table.look_up.Given as goal

-- what is left decides
abbrev pub invariant-loop-table : goal.invariant-loop-table
invariant-loop-table g l = choose (map (λ row. (row.0.now, row.1)) l.table) l.word ≡ choose (map (λ row. (row.0.now, row.1)) l.initial.table) l.word

abbrev pub decreases-loop-table : goal.decreases-loop-table
decreases-loop-table g l = length l.table
