-- Properties in the property area, in words of 64 bits (after bionic's prop_area; the layout is this project's profile): 16
-- for the head; for each distinct dotted prefix of the names a node, which is five words and its part's bytes, eight to
-- a word; for each name a cell. A short cell is a serial and twelve value words, for a value of up to 91 bytes. A long cell is a
-- serial, the value's length, and its words. (46 is the dot.)
use Rattle.std.specs.Prelude.{ℕ, ◌+◌, ◌-◌, ◌/◌, Bool, false, ◌||◌, ◌==◌, nat_le, List, [], ◌∷◌, ◌++◌, map, sum, if◌then◌else◌}
use Rattle.std.specs.List.{flat_map}
use Rattle.std.specs.Str.{bytes_eq}

-- the dotted prefixes of `front ++ rest` that aren't shorter than front
abbrev pub prefixes_from : List ℕ → List ℕ → List (List ℕ)
prefixes_from front [] = front ∷ []
prefixes_from front (b ∷ rest) =
    let longer = prefixes_from (front ++ b ∷ []) rest in
    if b == 46 then front ∷ longer else longer

-- for `a.b.c` they are `a`, `a.b` and `a.b.c`
abbrev pub prefixes_of : List ℕ → List (List ℕ)
prefixes_of name = prefixes_from [] name

-- the length of what stands behind the last dot, where n bytes stand behind the last dot so far
abbrev pub last_part_from : ℕ → List ℕ → ℕ
last_part_from n [] = n
last_part_from n (b ∷ rest) = if b == 46 then last_part_from 0 rest else last_part_from (n + 1) rest

-- a node: five words, and the bytes of its part, eight to a word
abbrev pub node_words : List ℕ → ℕ
node_words prefix = 5 + (last_part_from 0 prefix + 7) / 8

abbrev pub is_among : List (List ℕ) → List ℕ → Bool
is_among [] x = false
is_among (y ∷ ys) x = bytes_eq y x || is_among ys x

-- each member once, at its last place
abbrev pub distinct : List (List ℕ) → List (List ℕ)
distinct [] = []
distinct (x ∷ xs) = if is_among xs x then distinct xs else x ∷ distinct xs

-- the distinct dotted prefixes of names
abbrev pub nodes_of : List (List ℕ) → List (List ℕ)
nodes_of names = distinct (flat_map prefixes_of names)

-- the words of the cell of a value of so many bytes
abbrev pub cell_words : ℕ → ℕ
cell_words len = if nat_le len 91 then 13 else 2 + (len + 7) / 8

-- a map, as far as its words tell: each name with the length of its value
abbrev pub Sized : Type 0
Sized = List ℕ × ℕ

abbrev pub names_in : List Sized → List (List ℕ)
names_in sized = map (λ (s : Sized). s.0) sized

-- the words of the cells
abbrev pub cells_of : List Sized → ℕ
cells_of [] = 0
cells_of (s ∷ sized) = cell_words s.1 + cells_of sized

-- the words that a map takes
unfoldable pub used_of : List Sized → ℕ
used_of sized = 16 + sum (map node_words (nodes_of (names_in sized))) + cells_of sized

-- the words that a set of the name would add, by a value of so many bytes: none where the name is in the map
unfoldable pub need_of : List Sized → List ℕ → ℕ → ℕ
need_of sized name len = if is_among (names_in sized) name then 0 else used_of ((name, len) ∷ sized) - used_of sized
