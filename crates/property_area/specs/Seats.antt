-- What callers see of the seats at an area.
use Rattle.std.specs.Prelude.{◌≡◌, ℕ, ◌<◌, ◌≤◌, ◌^◌, nat_lt, List, length, Option, Some, None, if◌then◌else◌}
use Rattle.atomic_table.specs.Seated.{TableId}
use Rattle.init_machine.specs.Sets.{Set}
use Rattle.serial_value.specs.declared.view.CellView.TheVariants.{Writer, Reader}
use Rattle.serial_value.specs.Cell.{sets_of, accepted}
use Rattle.property_trie.specs.TrieSteps.{IsAtRest}
use Rattle.property_area.specs.declared.view.AreaView.{AreaView}
use Rattle.property_area.specs.declared.area.AreaRefusal.{AreaRefusal}
use Rattle.property_area.specs.declared.area.AreaRefusal.TheVariants.{TooSmall, TooBig}
use Rattle.init_machine.specs.Props.{Props}
use Rattle.property_area.specs.Meaning.{props_of}
use Rattle.property_area.specs.Area.{Linked, Settled, SetsFit, with_trie, with_cell}

-- which area a seat is of, which of its seats it is, and its view
pub record Seated : Type 0 where
  pub table : TableId
  pub id : ℕ
  pub view : AreaView

-- why an area of so many words is refused, none where it isn't
abbrev pub size_refusal : ℕ → Option AreaRefusal
size_refusal words =
    if nat_lt words 64 then Some (TooSmall words) else (if nat_lt 1048576 words then Some (TooBig words) else None)

abbrev pub HasSize : TableId → Type 0
HasSize table = (64 ≤ table.words) × (table.words ≤ 1048576)

-- the accepted sets, as a seat of the writer knows them
abbrev pub sets_in : AreaView → List Set
sets_in v = sets_of v.cell

-- no seat is coming in
abbrev pub IsStill : AreaView → Type 0
IsStill v = v.came ≡ None

-- the view of the writer's seat between its calls: no set is being made, and word 0 is the number of sets
pub record IsWriterView (table : TableId) (v : AreaView) : Type 0 where
  pub writes : v.cell ≡ Writer (sets_of v.cell) None
  pub settled : Settled v
  pub rests : IsAtRest v.trie
  pub wide : v.words ≡ table.words
  pub few : length (sets_of v.cell) < 2 ^ 55
  pub fit : SetsFit (sets_of v.cell)
  pub still : IsStill v

-- the view of a reader's seat between its calls
pub record IsReaderView (table : TableId) (v : AreaView) (number : ℕ) : Type 0 where
  pub reads : v.cell ≡ Reader number None
  pub rests : IsAtRest v.trie
  pub wide : v.words ≡ table.words

-- word 0 has become the number of sets
abbrev pub settled_view : AreaView → AreaView
settled_view v = record v { head = length (sets_of v.cell) }

-- nothing has changed but what the seat knows of the trie
abbrev pub IsBeside : AreaView → AreaView → Type 0
IsBeside v after = after ≡ with_trie v after.trie

-- the view of the writer's seat once the set is accepted and word 0 stored, but for what it knows of the trie
abbrev pub IsSet : AreaView → List ℕ → List ℕ → AreaView → Type 0
IsSet v name value after = IsBeside (settled_view (with_cell v (accepted v.cell name value))) after

-- the writer, while it makes no set at a cell that is there
abbrev pub IsUnmaking : AreaView → Type 0
IsUnmaking v = v.cell ≡ Writer (sets_of v.cell) None

-- the store of properties that the writer's seat knows
abbrev pub store_of : AreaView → Props
store_of v = props_of v.words (sets_in v)

-- nothing has changed beside the sets and what the seat knows of the trie
abbrev pub IsSameBeside : Seated → Seated → Type 0
IsSameBeside s t =
    (s.table ≡ t.table) × (s.id ≡ t.id) × (s.view.words ≡ t.view.words) × (s.view.clients ≡ t.view.clients) × (s.view.out ≡ t.view.out)
    × (s.view.seats ≡ t.view.seats) × (s.view.opening ≡ t.view.opening) × (s.view.log ≡ t.view.log)

-- a reader, while no read of it is under way
abbrev pub IsResting : AreaView → Type 0
IsResting v = (number : ℕ) × (v.cell ≡ Reader number None)

-- the seat still knows each cell that it knew
pub record KnowsStill (v after : AreaView) : Type 0 where
  pub cells : (name : List ℕ) (place : ℕ) → Linked v name place → Linked after name place

-- it is still that seat of that area, of that client, with the same opening; what it knows of the trie only grows
abbrev pub IsSameReader : Seated → Seated → Type 0
IsSameReader s t =
    (t.table ≡ s.table) × (t.id ≡ s.id) × (t.view.who ≡ s.view.who) × (t.view.began ≡ s.view.began)
    × (t.view.opening ≡ s.view.opening) × KnowsStill s.view t.view

-- it is still that seat of that area
abbrev pub IsSameSeated : Seated → Seated → Type 0
IsSameSeated s t = (t.table ≡ s.table) × (t.id ≡ s.id)
