-- How a dispatched script gets on: the main actor's part, the sessions, the end.
use Rattle.std.specs.Prelude.{◌≡◌, ℕ, ◌==◌, IsTrue, List, ◌∷◌, ◌++◌, length, map, All}
use Rattle.std.specs.List.{flat_map}
use Rattle.atomic_table.specs.Seated.{TableId}
use Rattle.init_machine.specs.History.{inputs_of}
use Rattle.init_machine.specs.State.{Opening}
use Rattle.init_machine.specs.declared.input.Input.TheVariants as input
use Rattle.init_machine.specs.declared.report.ClientPart.{ClientPart}
use Rattle.init_machine.specs.declared.report.Entry.{Entry}
use Rattle.init_race.specs.Acting.{AsksInputs}
use Rattle.init_race.specs.Race.{AreRaced}
use Rattle.init_race.specs.Seating.{IsBooted}
use Rattle.prop_dispatch.specs.Relayed.{HaveAsked}
use Rattle.prop_dispatch.specs.declared.session.Session.{Session}
use Rattle.property_area.specs.Seats.{Seated}
use Rattle.property_service.specs.Service.{ServiceView, has_seat}
use Rattle.property_service.specs.declared.ending.Finished.{Finished}
use Rattle.script_lang.specs.Inputs.{main_inputs}
use Rattle.script_lang.specs.Laws.{is_set}
use Rattle.script_lang.specs.declared.script.Script.{Script}
use Rattle.init_dispatch.specs.Dispatched.{HasMainFirst}
use Rattle.init_dispatch.specs.internal.Parts.{silent}
use Rattle.init_dispatch.specs.internal.Sessions.{AreSessions}

-- The boot and the main actor's part were taken, and nothing else: this is the main actor's reader. Nobody else has a seat, and these are
-- the clients' sessions.
pub record HasBegun (area : TableId) (o : Opening) (script : Script) (s : ServiceView) (main : Seated) (sessions : List Session) : Type 0 where
  pub booted : Seated
  pub table : booted.table ≡ area
  pub boot : IsBooted o booted.view
  pub asks : AsksInputs booted main (flat_map main_inputs script.acts)
  pub history : inputs_of s.history ≡ input.Boot ∷ flat_map main_inputs script.acts
  pub opening : s.opening ≡ o
  pub seats : (who : ℕ) → has_seat s.seat who ≡ (0 == who)
  pub sessions_are : AreSessions script.acts 1 sessions
  pub many : length sessions ≡ length script.clients

-- all sessions were served: after the old history come sets alone, and each session's client has its reader
pub record IsServed (area : TableId) (old new : ServiceView) (sessions : List Session) (readers : List Seated) : Type 0 where
  pub entries : List Entry
  pub history : new.history ≡ old.history ++ entries
  pub are_sets : All (λ (e : Entry). IsTrue (is_set e.input)) entries
  pub asked : HaveAsked area old new sessions readers

-- the actors are through and the service has ended
pub record AreDispatched (o : Opening) (script : Script) (finished : Finished) (parts : List ClientPart) : Type 0 where
  pub raced : AreRaced o script finished parts
  pub main_first : HasMainFirst script finished.history
  pub parts_are : parts ≡ map silent script.clients
