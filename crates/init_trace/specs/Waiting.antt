-- What waits to be written, and what an entry's outputs add to it.
use Rattle.std.specs.Prelude.{◌≡◌, ℕ, Bool, ◌||◌, List, ◌++◌, map}
use Rattle.init_machine.specs.Stored.{has_stored}
use Rattle.init_machine.specs.declared.output.Output.{Output}
use Rattle.init_trace.specs.Line.{lines_text}
use Rattle.init_trace.specs.Report.{output_line}

-- the bytes, at which of them the last entry began, and whether this entry stores a property
pub record Waiting : Type 0 where
  pub bytes : List ℕ
  pub begun : ℕ
  pub stores : Bool

-- the lines of outputs
abbrev pub OutputsText : List Output → List ℕ
OutputsText outputs = lines_text (map output_line outputs)

-- these outputs were told behind those of the entry
pub record IsTold (old new : Waiting) (outputs : List Output) : Type 0 where
  pub bytes : new.bytes ≡ old.bytes ++ OutputsText outputs
  pub begun : new.begun ≡ old.begun
  pub stores : new.stores ≡ (old.stores || has_stored outputs)
