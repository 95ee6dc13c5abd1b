-- The number of services that `soak` generates.
use Rattle.std.specs.Prelude.{ℕ, Bool, false, not, ◌&&◌, ◌==◌, nat_le, if◌then◌else◌, List, [], ◌∷◌, Option, Some, None}
use Rattle.std.specs.Char.{is_ascii_digit}
use Rattle.std.specs.List.{list_all}
use Rattle.std.specs.Str.Parse.{digits_value}

-- the first byte isn't 0 (48)
abbrev pub begins_number : List ℕ → Bool
begins_number [] = false
begins_number (first ∷ rest) = not (first == 48)

-- the number from 1 to 1000 that a word is in decimal, without leading zeros
abbrev pub services_in : List ℕ → Option ℕ
services_in word =
    let services = digits_value 10 word in
    if begins_number word && list_all is_ascii_digit word && nat_le 1 services && nat_le services 1000 then Some services else None
