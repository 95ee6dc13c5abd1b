-- Where the writer of the one cell stands that is stopped in its first update, for the tests that stop it.
use Rattle.std.specs.Prelude.{ℕ, nat_lt, List, [], ◌∷◌, None, if◌then◌else◌}
use Rattle.serial_value.specs.declared.view.CellView.{CellView}
use Rattle.serial_value.specs.declared.view.CellView.TheVariants.{Writer}
use Rattle.serial_value.specs.Cell.{updating}
use Rattle.serial_value.specs.One.{the_name, the_place}

-- after so many of the 26 stores of the update from one value to another
abbrev pub at_stop : List ℕ → List ℕ → ℕ → CellView
at_stop old new done =
    if nat_lt done 26 then updating ((the_name, old) ∷ []) the_name new the_place done
    else Writer ((the_name, old) ∷ (the_name, new) ∷ []) None
