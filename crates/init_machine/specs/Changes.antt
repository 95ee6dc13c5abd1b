-- What a rule of the machine does, and rules one after another.
use Rattle.std.specs.Prelude.{ℕ, List, [], ◌∷◌, ◌++◌, Option, Some, None}
use Rattle.init_machine.specs.State.{State}
use Rattle.init_machine.specs.declared.output.Output.{Output}

-- the state that a rule leaves, and the lines that it writes
pub record Change : Type 0 where
  pub state : State
  pub lines : List Output

abbrev pub change : State → List Output → Change
change s lines = record { state = s; lines = lines }

abbrev pub nothing : State → Change
nothing s = change s []

-- lines, and then what a rule does
abbrev pub behind : List Output → Change → Change
behind lines c = change c.state (lines ++ c.lines)

-- a rule is done in the state that another one left, unless the machine is over then: a reboot ends an input at once
abbrev pub unless_over : Option (List ℕ) → Change → (State → Change) → Change
unless_over None c rule = behind c.lines (rule c.state)
unless_over (Some target) c rule = c

abbrev pub and_then : Change → (State → Change) → Change
and_then c rule = unless_over c.state.over c rule

-- a rule for each of some things, one after another
abbrev pub each : {T : Type 0} → (T → State → Change) → List T → State → Change
each rule [] s = nothing s
each rule (x ∷ rest) s = and_then (rule x s) (each rule rest)
