use Rattle.std.proofs.Common.{◌+◌}
use Rattle.serial_value.specs.One.{the_name, the_place}
use Rattle.area_tests.proofs.cell.store.Given as goal

abbrev pub ghosts-backup_word : goal.ghosts-backup_word
ghosts-backup_word g a = record { name = the_name; value = g.Q.Asked.value; place = the_place; index = a.k + 1 }

abbrev pub ghosts-dirty_serial : goal.ghosts-dirty_serial
ghosts-dirty_serial g a = record { name = the_name; value = g.Q.Asked.value; place = the_place; index = 13 }

abbrev pub ghosts-value_word : goal.ghosts-value_word
ghosts-value_word g a = record { name = the_name; value = g.Q.Asked.value; place = the_place; index = 13 + a.k + 1 }

abbrev pub ghosts-clean_serial : goal.ghosts-clean_serial
ghosts-clean_serial g a = record { name = the_name; value = g.Q.Asked.value; place = the_place; index = 0 }
