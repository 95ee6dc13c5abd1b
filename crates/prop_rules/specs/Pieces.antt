-- What the code's pieces stand for.
use Rattle.std.specs.Prelude.{ℕ, ◌+◌, List, [], ◌∷◌, drop, slice_index}
use Rattle.init_machine.specs.Expand.{Piece, Written, first_piece, Plain, ValueOf, ValueOr, Bad}
use Rattle.prop_rules.specs.declared.piece.Dollar.{Dollar}
use Rattle.prop_rules.specs.declared.piece.Dollar.TheVariants as dollar

abbrev pub meant : Dollar → Piece
meant dollar.Sign = Plain (36 ∷ [])
meant (dollar.ValueOf name) = ValueOf name.bytes.now
meant (dollar.ValueOr name other) = ValueOr name.bytes.now other.now
meant dollar.Bad = Bad

-- the piece that begins at a place of a text
abbrev pub piece_at : List ℕ → ℕ → Written
piece_at text place = first_piece (slice_index text place) (drop (place + 1) text)
