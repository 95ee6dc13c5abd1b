-- How what is told joins.
use Rattle.std.specs.Prelude.{◌++◌, List, []}
use Rattle.init_machine.specs.declared.output.Output.{Output}

-- what is told, in order
abbrev pub Lines : Type 0
Lines = List Output

-- Between a state and itself nothing is told; and what is told between two, and then up to a third, is told between the first and the third.
pub record Joins {O : Type 0} (adds : O → O → List Output → Type 0) : Type 0 where
  pub none : (o : O) → adds o o []
  pub both : (o p q : O) (first then : List Output) → adds o p first → adds p q then → adds o q (first ++ then)
