-- The boot and the main actor's part are taken.
use Rattle.std.proofs.Common.{◌≡◌, ℕ, ◌==◌, List, [], ◌∷◌, ◌++◌, length, ap, ◌∙◌, subst}
use Rattle.std.specs.List.{flat_map}
use Rattle.atomic_table.specs.Seated.{TableId}
use Rattle.init_machine.specs.History.{inputs_of}
use Rattle.init_machine.specs.State.{Opening}
use Rattle.init_machine.specs.declared.input.Input.TheVariants as input
use Rattle.init_race.specs.Seating.{IsBooted}
use Rattle.prop_dispatch.specs.declared.session.Session.{Session}
use Rattle.property_area.specs.Seats.{Seated}
use Rattle.property_service.specs.Service.{ServiceView, has_seat}
use Rattle.script_lang.specs.Inputs.{main_inputs}
use Rattle.script_lang.specs.declared.script.Act.{Act}
use Rattle.script_lang.specs.declared.script.Script.{Script}
use Rattle.init_dispatch.specs.internal.Ending.{HasBegun}
use Rattle.init_dispatch.specs.internal.MainActor.{TakesInputs}
use Rattle.init_dispatch.specs.internal.Sessions.{AreSessions}

pub has_begun : (area : TableId) (o : Opening) (script : Script) (s t : ServiceView) (reader main : Seated) (acts : List Act) (sessions : List Session)
    → acts ≡ script.acts → s.opening ≡ o → inputs_of s.history ≡ input.Boot ∷ [] → ((who : ℕ) → has_seat s.seat who ≡ (0 == who))
    → reader.table ≡ area → IsBooted o reader.view → TakesInputs s t reader main (flat_map main_inputs acts)
    → AreSessions script.acts 1 sessions → length sessions ≡ length script.clients → HasBegun area o script t main sessions
has_begun area o script s t reader main acts sessions same opening boots nobody table booted takes are many =
    let takes' = subst (λ (these : List Act). TakesInputs s t reader main (flat_map main_inputs these)) same takes in record {
      booted = reader;
      table = table;
      boot = booted;
      asks = takes'.asks;
      history = takes'.history ∙ ap (λ done. done ++ flat_map main_inputs script.acts) boots;
      opening = takes'.opening ∙ opening;
      seats = λ who. takes'.seats who ∙ nobody who;
      sessions_are = are;
      many = many;
    }
