-- What holds between two inputs: no wait for a file is left that an input was to end.
use Rattle.std.specs.Prelude.{◌≡◌, ℕ, ◌<◌, false, List, Some, None}
use Rattle.init_base.specs.declared.units.Millis.{Millis}
use Rattle.init_machine.specs.FileTree.{has_node}
use Rattle.init_machine.specs.State.{State}
use Rattle.init_machine.specs.declared.waiting.Waiting.TheVariants as waiting

-- the machine waits for no file that is there, and for none whose time has come
abbrev pub WaitsForNoRipeFile : State → Type 0
WaitsForNoRipeFile s =
    (path : List ℕ) (until : Millis) → s.waits ≡ Some (waiting.File path until)
    → (has_node s.tree path ≡ false) × (s.kernel.clock < until.0)

-- nothing is left to be settled (a machine that is over settles nothing: what it waited for by then, it waits for ever)
abbrev pub IsSettled : State → Type 0
IsSettled s = s.over ≡ None → WaitsForNoRipeFile s
