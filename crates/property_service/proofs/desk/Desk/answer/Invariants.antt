-- The entry that is recorded is the one that comes next by what the writer's seat knows.
use Rattle.std.proofs.Common.{false}
use Rattle.property_service.specs.Service.{next_entry, recorded_service}
use Rattle.property_service.proofs.desk.Desk.answer.Given as goal

abbrev pub ghosts-note : goal.ghosts-note
ghosts-note g a = record { entry = next_entry (recorded_service a.self.now.view false) a._input.now }
