-- The grammar of rc files (AOSP, init README): a file is a concatenation of blanks, line ends, comments and tokens,
-- and a token is a concatenation of pieces. What a piece or an item must be may depend on the bytes behind it, its `next`.
use Rattle.std.specs.Prelude.{◌≡◌, ℕ, ◌==◌, Bool, true, false, IsTrue, ◌&&◌, ◌||◌, not, if◌then◌else◌, List, [], ◌∷◌, ◌++◌}
use Rattle.std.specs.List.{list_all, flat_map}

-- ---- bytes

-- a space or a tab
abbrev pub is_space : ℕ → Bool
is_space b = b == 32 || b == 9

-- what may stand between tokens of one line: a space, a tab or a carriage return
abbrev pub is_blank : ℕ → Bool
is_blank b = is_space b || b == 13

abbrev pub is_line_feed : ℕ → Bool
is_line_feed b = b == 10

abbrev pub is_quote : ℕ → Bool
is_quote b = b == 34

abbrev pub is_backslash : ℕ → Bool
is_backslash b = b == 92

abbrev pub is_hash : ℕ → Bool
is_hash b = b == 35

-- what stands for itself in a token outside quotes
abbrev pub is_plain : ℕ → Bool
is_plain b = not (is_blank b || is_line_feed b || is_quote b || is_backslash b)

-- the bytes begin with such a byte
abbrev pub begins : (ℕ → Bool) → List ℕ → Bool
begins test [] = false
begins test (b ∷ bytes) = test b

-- the bytes are at their end, or begin with such a byte
abbrev pub stops : (ℕ → Bool) → List ℕ → Bool
stops test [] = true
stops test (b ∷ bytes) = test b

-- no byte of the run is such a byte
abbrev pub has_none : (ℕ → Bool) → List ℕ → Bool
has_none test run = list_all (λ b. not (test b)) run

-- ---- pieces

-- a line feed, alone or behind a carriage return
pub data LineEnd : Type 0 where
  bare : LineEnd
  returned : LineEnd

-- a byte that stands for itself; what stands between two quotes; a backslash and a byte; a backslash, a line end and spaces
pub data Piece : Type 0 where
  plain : ℕ → Piece
  quoted : List ℕ → Piece
  escape : ℕ → Piece
  folded : LineEnd → List ℕ → Piece

abbrev pub line_end_bytes : LineEnd → List ℕ
line_end_bytes bare = 10 ∷ []
line_end_bytes returned = 13 ∷ 10 ∷ []

-- the bytes of a piece in the file
abbrev pub piece_bytes : Piece → List ℕ
piece_bytes (plain b) = b ∷ []
piece_bytes (quoted run) = 34 ∷ run ++ 34 ∷ []
piece_bytes (escape b) = 92 ∷ b ∷ []
piece_bytes (folded end spaces) = 92 ∷ line_end_bytes end ++ spaces

-- the byte that a backslash and this byte give: a line feed, a carriage return and a tab for `n`, `r` and `t`, else the byte
abbrev pub escaped : ℕ → ℕ
escaped b = if b == 110 then 10 else if b == 114 then 13 else if b == 116 then 9 else b

-- the bytes that a piece spells
abbrev pub spelled : Piece → List ℕ
spelled (plain b) = b ∷ []
spelled (quoted run) = run
spelled (escape b) = escaped b ∷ []
spelled (folded end spaces) = []

abbrev pub is_quoted : Piece → Bool
is_quoted (plain b) = false
is_quoted (quoted run) = true
is_quoted (escape b) = false
is_quoted (folded end spaces) = false

-- a quoted run ends at the first quote; a backslash before a line end is no escape; a fold takes all spaces behind it
abbrev pub PieceFits : Piece → List ℕ → Type 0
PieceFits (plain b) next = IsTrue (is_plain b)
PieceFits (quoted run) next = IsTrue (has_none is_quote run)
PieceFits (escape b) next = IsTrue (not (is_line_feed b || (b == 13 && begins is_line_feed next)))
PieceFits (folded end spaces) next = IsTrue (list_all is_space spaces) × IsTrue (not (begins is_space next))

abbrev pub pieces_bytes : List Piece → List ℕ
pieces_bytes pieces = flat_map piece_bytes pieces

abbrev pub PiecesFit : List Piece → List ℕ → Type 0
PiecesFit [] next = Unit {0}
PiecesFit (piece ∷ pieces) next = PieceFits piece (pieces_bytes pieces ++ next) × PiecesFit pieces next

-- the pieces begin with a plain `#`, which begins a comment and no token
abbrev pub begin_with_hash : List Piece → Bool
begin_with_hash [] = false
begin_with_hash (plain b ∷ pieces) = is_hash b
begin_with_hash (quoted run ∷ pieces) = false
begin_with_hash (escape b ∷ pieces) = false
begin_with_hash (folded end spaces ∷ pieces) = false

-- ---- items

-- a blank; a line feed; a `#` and the bytes behind it; a token of one or more pieces
pub data Item : Type 0 where
  blank : ℕ → Item
  line_end : Item
  comment : List ℕ → Item
  token : Piece → List Piece → Item

abbrev pub item_bytes : Item → List ℕ
item_bytes (blank b) = b ∷ []
item_bytes line_end = 10 ∷ []
item_bytes (comment run) = 35 ∷ run
item_bytes (token piece pieces) = pieces_bytes (piece ∷ pieces)

-- a comment goes up to the next line feed; behind a token comes a blank, a line feed or the end
abbrev pub ItemFits : Item → List ℕ → Type 0
ItemFits (blank b) next = IsTrue (is_blank b)
ItemFits line_end next = Unit {0}
ItemFits (comment run) next = IsTrue (has_none is_line_feed run) × IsTrue (stops is_line_feed next)
ItemFits (token piece pieces) next =
    IsTrue (not (begin_with_hash (piece ∷ pieces))) × PiecesFit (piece ∷ pieces) next × IsTrue (stops (λ b. is_blank b || is_line_feed b) next)

abbrev pub items_bytes : List Item → List ℕ
items_bytes items = flat_map item_bytes items

abbrev pub ItemsFit : List Item → List ℕ → Type 0
ItemsFit [] next = Unit {0}
ItemsFit (item ∷ items) next = ItemFits item (items_bytes items ++ next) × ItemsFit items next

-- ---- files

-- how a file ends: behind a whole item, or in a token that has these pieces: in a quoted run that isn't closed, or after a lone backslash
pub data Ending : Type 0 where
  whole : Ending
  open_quote : List Piece → List ℕ → Ending
  lone_backslash : List Piece → Ending

abbrev pub ending_bytes : Ending → List ℕ
ending_bytes whole = []
ending_bytes (open_quote pieces run) = pieces_bytes pieces ++ 34 ∷ run
ending_bytes (lone_backslash pieces) = pieces_bytes pieces ++ 92 ∷ []

abbrev pub EndingFits : Ending → Type 0
EndingFits whole = Unit {0}
EndingFits (open_quote pieces run) =
    IsTrue (not (begin_with_hash pieces)) × PiecesFit pieces (34 ∷ run) × IsTrue (has_none is_quote run)
EndingFits (lone_backslash pieces) = IsTrue (not (begin_with_hash pieces)) × PiecesFit pieces (92 ∷ [])

-- the text is these items and this ending
pub record IsReading (bytes : List ℕ) (items : List Item) (ending : Ending) : Type 0 where
  pub text : bytes ≡ items_bytes items ++ ending_bytes ending
  pub items_fit : ItemsFit items (ending_bytes ending)
  pub ending_fits : EndingFits ending
