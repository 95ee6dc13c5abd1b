-- Bytes of ASCII are UTF-8.
use Rattle.std.proofs.Common.{◌≡◌, ◌<◌, ℕ, suc, zero, true, List, [], ◌∷◌, slice_index, arith}
use Rattle.std.proofs.lemmas.Bool.{ltb-true}
use Rattle.std.proofs.lemmas.Str.{IsUtf8-from_ascii, is_utf8-from_IsUtf8}
use Rattle.std.specs.Char.{is_ascii}
use Rattle.std.specs.List.{list_all}
use Rattle.std.specs.Str.{is_utf8}
use Rattle.std.specs.Cmp.{first_so, second_so}

each : (bytes : List ℕ) → list_all is_ascii bytes ≡ true → (place : ℕ) → slice_index bytes place < 128
each [] all place = omega arith
each (b ∷ rest) all zero = ltb-true b 128 (first_so (is_ascii b) (list_all is_ascii rest) all)
each (b ∷ rest) all (suc place) = each rest (second_so (is_ascii b) (list_all is_ascii rest) all) place

pub ascii_is_utf8 : (bytes : List ℕ) → list_all is_ascii bytes ≡ true → is_utf8 bytes ≡ true
ascii_is_utf8 bytes all = is_utf8-from_IsUtf8 bytes (IsUtf8-from_ascii bytes (each bytes all))
