-- What the actors on threads are given and give back.
use Rattle.std.specs.Prelude.{◌≡◌, ◌⊎◌, ⊤, List, [], ◌∷◌, map, Option, Some}
use Rattle.atomic_table.specs.Seated.{TableId}
use Rattle.property_area.specs.Seats.{Seated}
use Rattle.property_service.specs.Service.{DeclaredIn}
use Rattle.script_lang.specs.declared.script.Script.{Script}
use Rattle.init_race.specs.Acting.{IsThrough}
use Rattle.init_race.specs.declared.actors.Acted.{Acted}

-- the reader is of the area, and its client is the main actor or a declared one
abbrev pub MayAct : TableId → Seated → Type 0
MayAct area reader = (reader.table ≡ area) × ((reader.view.who ≡ 0) ⊎ DeclaredIn reader.view.opening reader.view.who)

-- each actor is through, in the order of their readers
abbrev pub EachThrough : Script → List Seated → List Acted → Type 0
EachThrough script [] [] = ⊤
EachThrough script [] (one ∷ acted) = ⊥
EachThrough script (reader ∷ readers) [] = ⊥
EachThrough script (reader ∷ readers) (one ∷ acted) = IsThrough script reader one.reader one.readings × EachThrough script readers acted

-- each of these is there
abbrev pub somes : List Acted → List (Option Acted)
somes all = map (λ one. Some one) all
