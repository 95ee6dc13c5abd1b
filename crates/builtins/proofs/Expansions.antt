-- Arguments that are expanded one after another.
use Rattle.std.proofs.Common.{ℕ, List, ◌++◌, Result, Ok, Err}
use Rattle.init_machine.specs.declared.output.Cause.{Cause}

-- what was expanded so far stands before the rest
abbrev pub prepended : List (List ℕ) → Result (List (List ℕ)) Cause → Result (List (List ℕ)) Cause
prepended front (Err why) = Err why
prepended front (Ok rest) = Ok (front ++ rest)
