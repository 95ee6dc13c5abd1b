-- The machine at a desk after the boot.
use Rattle.std.specs.Prelude.{◌≡◌, false}
use Rattle.atomic_table.specs.Seated.{TableId}
use Rattle.init_machine.specs.History.{inputs_of}
use Rattle.init_machine.specs.State.{Opening}
use Rattle.init_wire.specs.Served.{booted, client}
use Rattle.property_area.specs.Seats.{Seated}
use Rattle.property_service.specs.Service.{DeclaredIn, ServiceView}

-- The desk has taken the boot alone, and the reader is that of the client whose messages are served.
pub record HasBooted (area : TableId) (o : Opening) (desk : ServiceView) (reader : Seated) : Type 0 where
  pub opening : desk.opening ≡ o
  pub inputs : inputs_of desk.history ≡ booted
  pub ready : desk.spent ≡ false
  pub table : reader.table ≡ area
  pub who : reader.view.who ≡ client
  pub declared : DeclaredIn reader.view.opening reader.view.who
