-- What calls on a table ask and leave.
use Rattle.std.specs.Prelude.{◌≡◌, ◌≤◌, ◌<◌, ◌+◌, ◌^◌, ℕ}
use Rattle.atomic_table.specs.declared.shared.Seat.{Seat}
use Rattle.atomic_table.specs.Seated.{TableId}
use Rattle.atomic_table.specs.Table.{State, Me, Allows}

-- the table has room for the head and for a cell at this place
abbrev pub HasCell : TableId → ℕ → Type 0
HasCell table place = (16 ≤ place) × (place + 13 ≤ table.words) × (place < 2 ^ 32)

module _ {S V : Type 0} where
  -- it is still that seat of that table
  abbrev pub IsSameSeat : Seat S V → Seat S V → Type 0
  IsSameSeat before after = (after.table_id ≡ before.table_id) × (after.id ≡ before.id)

  -- the cell that is asked about lies at this place of the seat's table
  abbrev pub IsAtCell : Seat S V → TableId → ℕ → ℕ → Type 0
  IsAtCell seat table at asked = (seat.table_id ≡ table) × HasCell table at × (at ≡ asked)

-- under this rule the seat may store the word at a place of its table, and knows this much then
abbrev pub MayPut : {V : Type 0} → (State (Unit {0}) V → Type 0) → TableId → Seat (Unit {0}) V → ℕ → ℕ → Me (Unit {0}) V → Type 0
MayPut holds table seat at word next =
    (seat.table_id ≡ table) × (at < table.words) × Allows holds table.slots seat.id seat.me at (λ _. word) (λ _ after. after ≡ next)
