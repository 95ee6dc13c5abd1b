use Rattle.std.proofs.Common.{◌≡◌, ◌++◌}
use Rattle.init_race.specs.Threads.{somes}
use Rattle.init_race.proofs.threads.all_of.Given as goal

-- those that are there, and what is left
abbrev pub invariant-loop-option : goal.invariant-loop-option
invariant-loop-option l = somes l.all.items ++ l.option-iterator.rest.items ≡ l.fn.options.items
