-- What a client learns by a request. No promise of the crate cites these definitions.
use Rattle.std.specs.Prelude.{◌≡◌, ℕ, false, ◌++◌, length, Option, None}
use Rattle.std.specs.List.{flat_map}
use Rattle.init_machine.specs.History.{sets_of}
use Rattle.init_machine.specs.Orderly.{ListStands, readings_in}
use Rattle.init_machine.specs.declared.client.ClientItem.TheVariants.{Told}
use Rattle.init_machine.specs.declared.report.Reading.{Reading}
use Rattle.init_machine.specs.declared.report.Reading.TheVariants.{Synced}
use Rattle.property_area.specs.Seats.{Seated}
use Rattle.property_service.specs.Back.{ComesBack}
use Rattle.property_service.specs.Service.{ServiceView, state_after}
use Rattle.script_lang.specs.declared.script.Ask.{Ask}
use Rattle.init_driver.specs.Readings.{readings_in as readings_told, told_now}
use Rattle.init_driver.specs.Seat.{told_with}

-- the desk has the same opening and the same history, and isn't spent where it wasn't
pub record HasSameHistory (s t : ServiceView) : Type 0 where
  pub opening : t.opening ≡ s.opening
  pub history : t.history ≡ s.history
  pub ready : s.spent ≡ false → t.spent ≡ false

-- the reader's client was told the count of sets
pub record Counts (s : ServiceView) (reader after : Seated) (count : ℕ) : Type 0 where
  pub comes : ComesBack reader after (Told (Synced count)) count
  pub count_is : count ≡ length (sets_of s.history)
  pub stands : ListStands (sets_of s.history) None after.view.began after.view.list

-- the client's request was answered by what is so now, and the client was told nothing else but counts
pub record Learns (s : ServiceView) (reader after : Seated) (ask : Ask) (told : Option Reading) : Type 0 where
  pub table : after.table ≡ reader.table
  pub who : after.view.who ≡ reader.view.who
  pub opening : after.view.opening ≡ reader.view.opening
  pub told_is : told ≡ told_now (state_after s) ask
  pub heard : readings_in after.view.list ≡ readings_in reader.view.list ++ flat_map told_with (readings_told told)
