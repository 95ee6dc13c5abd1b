-- Views with a cell, a client's list and more: what one part is, and what stands beside it when another one changes.
use Rattle.std.specs.Prelude.{◌≡◌, ◌++◌, ◌∷◌, [], ℕ, List}
use Rattle.init_machine.specs.Sets.{Set}
use Rattle.init_machine.specs.declared.client.ClientItem.{ClientItem}
use Rattle.init_machine.specs.declared.client.ClientItem.TheVariants.{Told}
use Rattle.init_machine.specs.declared.report.Reading.{Reading}
use Rattle.serial_value.specs.declared.view.CellView.{CellView}
use Rattle.serial_value.specs.Cell.{sets_of, updating}

module _ {V : Type 0} where
  -- the cell is a part of a view
  pub record IsPart (cell : V → CellView) (with_cell : V → CellView → V) : Type 0 where
    pub cell_with : (v : V) (c : CellView) → cell (with_cell v c) ≡ c
    pub with_same : (v : V) → with_cell v (cell v) ≡ v
    pub with_with : (v : V) (c d : CellView) → with_cell (with_cell v c) d ≡ with_cell v d

  -- how many words the table has is known for good
  pub record AreWordsKept (with_cell : V → CellView → V) (noted : V → Reading → V) (words : V → ℕ) : Type 0 where
    pub words_beside : (v : V) (c : CellView) → words (with_cell v c) ≡ words v
    pub words_noted : (v : V) (r : Reading) → words (noted v r) ≡ words v

  -- what stands beside the cell; an update that is under way doesn't unsettle the writer
  pub record StandsBeside (cell : V → CellView) (with_cell : V → CellView → V) (began : V → List Set) (list : V → List ClientItem)
      (Linked : V → List ℕ → ℕ → Type 0) (Settled : V → Type 0) : Type 0 where
    pub list_with : (v : V) (c : CellView) → (list (with_cell v c) ≡ list v) × (began (with_cell v c) ≡ began v)
    pub linked_with : (v : V) (c : CellView) (name : List ℕ) (place : ℕ) → Linked v name place → Linked (with_cell v c) name place
    pub settled_with : (v : V) (name value : List ℕ) (place done : ℕ)
        → Settled v → Settled (with_cell v (updating (sets_of (cell v)) name value place done))

  -- one reading more changes the list alone
  pub record IsNoted (cell : V → CellView) (noted : V → Reading → V) (began : V → List Set) (list : V → List ClientItem)
      (Linked : V → List ℕ → ℕ → Type 0) : Type 0 where
    pub cell_noted : (v : V) (r : Reading) → cell (noted v r) ≡ cell v
    pub list_noted : (v : V) (r : Reading) → (list (noted v r) ≡ list v ++ Told r ∷ []) × (began (noted v r) ≡ began v)
    pub linked_noted : (v : V) (r : Reading) (name : List ℕ) (place : ℕ) → Linked v name place → Linked (noted v r) name place
