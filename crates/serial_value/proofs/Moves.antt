-- Steps one after another change the cell part of a view alone.
use Rattle.std.proofs.Common.{◌≡◌, sym, ◌∙◌}
use Rattle.serial_value.specs.declared.view.CellView.{CellView}

module _ {V X : Type 0} (cell : V → CellView) (with_cell : V → CellView → V)
    (cell_with : (v : V) (c : CellView) → cell (with_cell v c) ≡ c)
    (with_with : (v : V) (c d : CellView) → with_cell (with_cell v c) d ≡ with_cell v d) where
  -- from one view to the next, whatever the cell part became
  abbrev pub Moves : V × X → V × X → Type 0
  Moves m n = n ≡ (with_cell m.0 (cell n.0), m.1)

  pub moves_on : (m n o : V × X) → Moves m n → Moves n o → Moves m o
  moves_on m n o first second =
      second ∙ (λ i. (with_cell (first i).0 (cell o.0), (first i).1)) ∙ (λ i. (with_with m.0 (cell n.0) (cell o.0) i, m.1))

  -- a view that was reached so takes another cell part as the first one does
  pub same_with : (m n : V × X) → Moves m n → (c : CellView) → with_cell n.0 c ≡ with_cell m.0 c
  same_with m n moved c = (λ i. with_cell (moved i).0 c) ∙ with_with m.0 (cell n.0) c

  pub unmoved : ((v : V) → with_cell v (cell v) ≡ v) → (m n : V × X) → Moves m n → cell m.0 ≡ cell n.0 → n ≡ m
  unmoved with_same m n moved same = moved ∙ ((λ i. (with_cell m.0 (sym same i), m.1)) ∙ (λ i. (with_same m.0 i, m.1)))
