-- Where the parts of a trace stand, by its lines.
use Rattle.std.specs.Prelude.{ℕ, ◌+◌, ◌-◌, ◌^◌, ◌==◌, min, Bool, false, not, ◌&&◌, ◌||◌, nat_eq, if◌then◌else◌, List, [], ◌∷◌, codes, Option, Some, None}
use Rattle.std.specs.List.{starts_with}
use Rattle.std.specs.Option.{option_copied}
use Rattle.std.specs.Str.{bytes_eq}
use Rattle.trace_causes.specs.declared.place.Part.{Part}
use Rattle.trace_causes.specs.declared.place.Part.TheVariants as part
use Rattle.trace_causes.specs.declared.place.Place.{Place}

-- ---- lines by how they begin

-- an output's or a reading's
abbrev pub is_inner : List ℕ → Bool
is_inner line = starts_with nat_eq line (codes " ")

abbrev pub is_diagnostic : List ℕ → Bool
is_diagnostic line = starts_with nat_eq line (codes "diag ")

abbrev pub is_client : List ℕ → Bool
is_client line = starts_with nat_eq line (codes "client ")

abbrev pub is_title : List ℕ → Bool
is_title line = bytes_eq line (codes "initsim 1")

abbrev pub is_end : List ℕ → Bool
is_end line = bytes_eq line (codes "end")

-- the head of an entry: any other line
abbrev pub is_head : List ℕ → Bool
is_head line = not (is_inner line || is_diagnostic line || is_title line || is_client line || is_end line)

-- ---- parts

abbrev pub begins : Part → List ℕ → Bool
begins part.Entry line = is_head line
begins part.Client line = is_client line

-- the line stands behind all parts of this kind
abbrev pub ends : Part → List ℕ → Bool
ends part.Entry line = is_client line || is_end line
ends part.Client line = is_end line

-- Of lines that are counted from `at`, the number of the first one that stands behind all parts of a kind, or that begins such a
-- part behind `number - 1` others. None where no line is either. A part with the number 0 begins nowhere.
abbrev pub part_line : Part → ℕ → ℕ → List (List ℕ) → Option ℕ
part_line kind number at [] = None
part_line kind number at (line ∷ rest) =
    if ends kind line || (begins kind line && number == 1) then Some at
    else part_line kind (if begins kind line then number - 1 else number) (at + 1) rest

-- ---- differences

-- numbers end at 2 ^ 64 - 1, behind which the same one stands again
abbrev pub next_number : ℕ → ℕ
next_number number = min (number + 1) (2 ^ 64 - 1)

abbrev pub begins_inside : List (List ℕ) → Bool
begins_inside [] = false
begins_inside (line ∷ rest) = is_inner line

-- Lines that are counted from `at`, and those that should stand there: the first place in which another line stands, or none,
-- with the line that should; where all of them stand there and an output's line follows, its place, with none.
abbrev pub first_difference : List (List ℕ) → ℕ → List (List ℕ) → Option (ℕ × Option (List ℕ))
first_difference lines at [] = if begins_inside lines then Some (at, None) else None
first_difference [] at (should ∷ wanted) = Some (at, Some should)
first_difference (line ∷ lines) at (should ∷ wanted) =
    if bytes_eq should line then first_difference lines (next_number at) wanted else Some (at, Some should)

-- a place, with the line that should stand there
abbrev pub told : Place → ℕ × Option (List ℕ)
told place = (place.line, option_copied place.wanted)
