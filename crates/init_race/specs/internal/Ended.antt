-- What a service that has ended says of the actors that are through.
use Rattle.std.specs.Prelude.{◌≡◌, ℕ, ◌+◌, ⊤, List, [], ◌∷◌, map, Option, Some, None}
use Rattle.std.specs.List.{flat_map}
use Rattle.init_machine.specs.declared.client.ClientItem.{ClientItem}
use Rattle.init_machine.specs.declared.client.ClientItem.TheVariants.{Asked}
use Rattle.init_machine.specs.declared.client.ClientRequest.{ClientRequest}
use Rattle.init_machine.specs.declared.input.Input.TheVariants as input
use Rattle.init_machine.specs.declared.report.ClientPart.{ClientPart}
use Rattle.property_area.specs.Seats.{Seated}
use Rattle.property_service.specs.Ending.{HasItsPart}
use Rattle.property_service.specs.Service.{ServiceView}
use Rattle.script_lang.specs.Inputs.{main_inputs}
use Rattle.script_lang.specs.declared.script.Client.{Client}
use Rattle.script_lang.specs.declared.script.Script.{Script}
use Rattle.init_race.specs.Acting.{inputs_in, IsPart}
use Rattle.init_race.specs.Threads.{EachThrough}
use Rattle.init_race.specs.declared.actors.Acted.{Acted}

-- the main actor is through: it asked the boot first of all, and then its part
pub record IsMainDone (script : Script) (s : ServiceView) (reader : Seated) : Type 0 where
  pub who : reader.view.who ≡ 0
  pub has : HasItsPart s reader
  pub boot : ClientRequest
  pub items : List ClientItem
  pub list : reader.view.list ≡ Asked boot ∷ items
  pub boots : boot.input ≡ input.Boot
  pub first : boot.place ≡ 1
  pub part : inputs_in items ≡ flat_map main_inputs script.acts

-- a client is through
pub record IsDone (script : Script) (s : ServiceView) (who : ℕ) (acted : Acted) : Type 0 where
  pub client : acted.reader.view.who ≡ who
  pub has : HasItsPart s acted.reader
  pub part : IsPart script who acted.reader.view.list acted.readings

-- each client is through; the first of these has this number
abbrev pub EachDone : Script → ServiceView → ℕ → List Acted → Type 0
EachDone script s who [] = ⊤
EachDone script s who (acted ∷ rest) = IsDone script s who acted × EachDone script s (who + 1) rest

-- the clients with what each was told
abbrev pub parts_of : List Client → List Acted → List ClientPart
parts_of [] acted = []
parts_of (client ∷ clients) [] = record { name = client.name; domain = client.domain; readings = [] } ∷ parts_of clients []
parts_of (client ∷ clients) (one ∷ acted) =
    record { name = client.name; domain = client.domain; readings = one.readings } ∷ parts_of clients acted

-- ---- how the actors are taken apart

abbrev pub readers_of : List Acted → List Seated
readers_of acted = map (λ one. one.reader) acted

abbrev pub part_with : Client → Acted → ClientPart
part_with client one = record { name = client.name; domain = client.domain; readings = one.readings }

-- the part of a client, where there is one
abbrev pub next_part : Option Client → Acted → List ClientPart
next_part None one = []
next_part (Some client) one = part_with client one ∷ []

-- the parts of the clients that came back; another actor behind them has none
abbrev pub told_to : List Client → List Acted → List ClientPart
told_to [] acted = []
told_to (client ∷ clients) [] = []
told_to (client ∷ clients) (one ∷ acted) = part_with client one ∷ told_to clients acted

-- the actors came back: each is through its part, with its reader, and these are the parts of the clients
pub record ComeBack (script : Script) (readers back : List Seated) (parts : List ClientPart) : Type 0 where
  pub acted : List Acted
  pub through : EachThrough script readers acted
  pub back_is : back ≡ readers_of acted
  pub parts_are : parts ≡ told_to script.clients acted
