use Rattle.std.proofs.Common.{◌≡◌, Some, map}
use Rattle.init_driver.proofs.machine.all_of.Given as goal

-- those so far
abbrev pub invariant-loop-reader : goal.invariant-loop-reader
invariant-loop-reader l = map (λ reader. Some reader) l.all.items ≡ l.yielded
