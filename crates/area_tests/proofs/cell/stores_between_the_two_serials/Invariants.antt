use Rattle.std.specs.Prelude.{codes}
use Rattle.serial_value.specs.One.{the_name, the_place}
use Rattle.area_tests.proofs.cell.stores_between_the_two_serials.Given as goal

abbrev pub ghosts-read_across : goal.ghosts-read_across
ghosts-read_across g a = record { name = the_name; value = codes "newer"; place = the_place; index = 0 }
