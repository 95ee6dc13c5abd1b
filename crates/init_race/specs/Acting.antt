-- What an actor of a script has done with its reader, once it is through its part.
use Rattle.std.specs.Prelude.{◌≡◌, ℕ, zero, suc, ◌++◌, ⊤, true, List, [], ◌∷◌, map}
use Rattle.std.specs.List.{filter_map, flat_map}
use Rattle.init_machine.specs.Orderly.{readings_in}
use Rattle.init_machine.specs.declared.client.ClientItem.{ClientItem}
use Rattle.init_machine.specs.declared.client.ClientItem.TheVariants.{Told, Asked}
use Rattle.init_machine.specs.declared.client.ClientRequest.{ClientRequest}
use Rattle.init_machine.specs.declared.input.Input.{Input}
use Rattle.init_machine.specs.declared.report.Reading.{Reading}
use Rattle.property_area.specs.Area.{requests_in}
use Rattle.property_area.specs.Seats.{Seated}
use Rattle.property_service.specs.Service.{set_by}
use Rattle.script_lang.specs.Inputs.{ask_by, main_inputs, part_of}
use Rattle.script_lang.specs.declared.script.Act.{Act}
use Rattle.script_lang.specs.declared.script.Ask.{Ask}
use Rattle.script_lang.specs.declared.script.Ask.TheVariants as ask
use Rattle.script_lang.specs.declared.script.Script.{Script}
use Rattle.trace_audit.specs.Audited.{is_answer}
use Rattle.init_race.specs.declared.actors.Acted.{Acted}

-- the inputs of the requests in a client's list
abbrev pub inputs_in : List ClientItem → List Input
inputs_in items = map (λ (request : ClientRequest). request.input) (requests_in items)

-- the item that a request of this client leaves in its list: of a set that request, of another what it is told
abbrev pub IsItemOf : ℕ → Ask → ClientItem → Type 0
IsItemOf who (ask.Set pair) (Asked request) = request.input ≡ set_by who pair.name pair.value
IsItemOf who (ask.Set pair) (Told reading) = ⊥
IsItemOf who (ask.Read name) (Asked request) = ⊥
IsItemOf who (ask.Read name) (Told reading) = is_answer (ask.Read name) reading ≡ true
IsItemOf who ask.Sync (Asked request) = ⊥
IsItemOf who ask.Sync (Told reading) = is_answer ask.Sync reading ≡ true
IsItemOf who ask.Catch (Asked request) = ⊥
IsItemOf who ask.Catch (Told reading) = is_answer ask.Catch reading ≡ true

-- each request has its item, in order
abbrev pub AreItemsOf : ℕ → List Ask → List ClientItem → Type 0
AreItemsOf who [] [] = ⊤
AreItemsOf who [] (item ∷ items) = ⊥
AreItemsOf who (one ∷ asks) [] = ⊥
AreItemsOf who (one ∷ asks) (item ∷ items) = IsItemOf who one item × AreItemsOf who asks items

-- the part of an actor is done, with these items: of the main actor its inputs are asked; of a client each request has its item,
-- and these are the readings among them
abbrev pub IsPart : Script → ℕ → List ClientItem → List Reading → Type 0
IsPart script zero items readings = (inputs_in items ≡ flat_map main_inputs script.acts) × (readings ≡ [])
IsPart script (suc place) items readings =
    AreItemsOf (suc place) (part_of (suc place) script) items × (readings ≡ readings_in items)

-- it is the reader of the same client of the same area, with the same opening, and its list goes on by these items
pub record GoesOn (reader back : Seated) (items : List ClientItem) : Type 0 where
  pub table : back.table ≡ reader.table
  pub who : back.view.who ≡ reader.view.who
  pub opening : back.view.opening ≡ reader.view.opening
  pub began : back.view.began ≡ reader.view.began
  pub list : back.view.list ≡ reader.view.list ++ items

-- the actor that has the reader is through its part
pub record IsThrough (script : Script) (reader back : Seated) (readings : List Reading) : Type 0 where
  pub items : List ClientItem
  pub goes : GoesOn reader back items
  pub part : IsPart script reader.view.who items readings

-- ---- between two steps of an actor

-- the main actor asked these inputs
pub record AsksInputs (reader back : Seated) (inputs : List Input) : Type 0 where
  pub items : List ClientItem
  pub goes : GoesOn reader back items
  pub asked : inputs_in items ≡ inputs

-- a client made these requests: each has its item, and what it was told is noted
pub record AnswersAll (before after : Acted) (asks : List Ask) : Type 0 where
  pub items : List ClientItem
  pub goes : GoesOn before.reader after.reader items
  pub fit : AreItemsOf before.reader.view.who asks items
  pub told : after.readings ≡ before.readings ++ readings_in items

-- so it is of the requests in the first acts; those in the others are left
pub record IsAmid (script : Script) (before now : Acted) (left : List Act) : Type 0 where
  pub done : List Ask
  pub all : done ++ filter_map (ask_by before.reader.view.who) left ≡ part_of before.reader.view.who script
  pub answers : AnswersAll before now done

-- and of the main actor's inputs
pub record IsAmidInputs (script : Script) (reader now : Seated) (left : List Act) : Type 0 where
  pub done : List Input
  pub all : done ++ flat_map main_inputs left ≡ flat_map main_inputs script.acts
  pub asks : AsksInputs reader now done

-- a reader through nothing yet
abbrev pub begun : Seated → Acted
begun reader = record { reader = reader; readings = [] }
