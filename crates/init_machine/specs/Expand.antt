-- Expansion of properties in a text (AOSP, init's README, "Android Init Language", and init's own reader for `$$` and `:-`;
-- the failures are this project's profile). A text is a row of pieces: `$$`, `${NAME}`, `${NAME:-OTHER}`, and any byte but `$`;
-- a `$` that begins none of them is a bad piece. (36 is `$`, 123 `{`, 125 `}`.)
use Rattle.std.specs.Prelude.{ℕ, zero, suc, ◌+◌, ◌-◌, ◌==◌, nat_eq, nat_lt, List, [], ◌∷◌, ◌++◌, length, codes, take, drop, position, Option, Some, None, Result, Ok, Err, if◌then◌else◌}
use Rattle.std.specs.List.{starts_with}
use Rattle.init_base.specs.Name.{is_legal_name}
use Rattle.init_machine.specs.declared.output.Cause.{Cause}
use Rattle.init_machine.specs.declared.output.Cause.TheVariants.{Absent, BadForm, TooLong}

-- a piece: bytes that stand for themselves; the value of a property; that value, or another text where it has none; and
-- a `$` that begins no piece
pub data Piece : Type 0 where
  Plain : List ℕ → Piece
  ValueOf : List ℕ → Piece
  ValueOr : List ℕ → List ℕ → Piece
  Bad : Piece

-- a piece, and how many bytes it is written with
pub record Written : Type 0 where
  pub piece : Piece
  pub length : ℕ

-- the place of the first `:-` in a text, or its length where there is none
abbrev pub default_place : List ℕ → ℕ
default_place [] = 0
default_place (b ∷ rest) = if starts_with nat_eq (b ∷ rest) (codes ":-") then 0 else default_place rest + 1

-- what stands between `${` and the first `}` is a name, or a name, `:-` and the other text; the name has to be legal
abbrev pub braced : List ℕ → Piece
braced inside =
    if is_legal_name (take (default_place inside) inside)
    then (if nat_lt (default_place inside) (length inside)
    then ValueOr (take (default_place inside) inside) (drop (default_place inside + 2) inside)
    else ValueOf (take (default_place inside) inside))
    else Bad

-- what stands behind `${`, by the place of the first `}` there
abbrev pub up_to : Option ℕ → List ℕ → Written
up_to None text = record { piece = Bad; length = 1 }
up_to (Some end) text = record { piece = braced (take end text); length = end + 3 }

abbrev pub behind_brace : List ℕ → Written
behind_brace text = up_to (position (λ b. b == 125) text) text

-- what stands behind a `$`
abbrev pub behind_dollar : List ℕ → Written
behind_dollar [] = record { piece = Bad; length = 1 }
behind_dollar (b ∷ rest) =
    if b == 36 then record { piece = Plain (36 ∷ []); length = 2 }
    else if b == 123 then behind_brace rest
    else record { piece = Bad; length = 1 }

abbrev pub first_piece : ℕ → List ℕ → Written
first_piece b rest = if b == 36 then behind_dollar rest else record { piece = Plain (b ∷ []); length = 1 }

-- a piece at its place in the text
pub record Placed : Type 0 where
  pub place : ℕ
  pub piece : Piece

-- the pieces of what stands in a text from a place on, where so many bytes still belong to the piece before
abbrev pub pieces_from : ℕ → ℕ → List ℕ → List Placed
pieces_from written place [] = []
pieces_from (suc written) place (b ∷ rest) = pieces_from written (place + 1) rest
pieces_from zero place (b ∷ rest) =
    let first = first_piece b rest in
    record { place = place; piece = first.piece } ∷ pieces_from (first.length - 1) (place + 1) rest

abbrev pub pieces_of : List ℕ → List Placed
pieces_of text = pieces_from 0 0 text

-- an absent property has no value, and an empty one counts as absent
abbrev pub value_or_cause : List ℕ → Option (List ℕ) → Result (List ℕ) Cause
value_or_cause name None = Err (Absent name)
value_or_cause name (Some []) = Err (Absent name)
value_or_cause name (Some (b ∷ rest)) = Ok (b ∷ rest)

abbrev pub value_or : List ℕ → Option (List ℕ) → List ℕ
value_or other None = other
value_or other (Some []) = other
value_or other (Some (b ∷ rest)) = b ∷ rest

-- what a piece stands for, where a look-up gives the values of properties
abbrev pub piece_value : (List ℕ → Option (List ℕ)) → ℕ → Piece → Result (List ℕ) Cause
piece_value look_up place (Plain bytes) = Ok bytes
piece_value look_up place (ValueOf name) = value_or_cause name (look_up name)
piece_value look_up place (ValueOr name other) = Ok (value_or other (look_up name))
piece_value look_up place Bad = Err (BadForm place)

abbrev pub joined : Result (List ℕ) Cause → Result (List ℕ) Cause → Result (List ℕ) Cause
joined (Err cause) later = Err cause
joined (Ok value) (Err cause) = Err cause
joined (Ok value) (Ok values) = Ok (value ++ values)

-- the values in a row, or why the first piece that fails does
abbrev pub values_of : (List ℕ → Option (List ℕ)) → List Placed → Result (List ℕ) Cause
values_of look_up [] = Ok []
values_of look_up (first ∷ rest) = joined (piece_value look_up first.place first.piece) (values_of look_up rest)

-- at most 4,096 bytes come out
abbrev pub within_limit : Result (List ℕ) Cause → Result (List ℕ) Cause
within_limit (Err cause) = Err cause
within_limit (Ok text) = if nat_lt 4096 (length text) then Err TooLong else Ok text

unfoldable pub expand : (List ℕ → Option (List ℕ)) → List ℕ → Result (List ℕ) Cause
expand look_up text = within_limit (values_of look_up (pieces_of text))
