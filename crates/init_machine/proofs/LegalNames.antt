-- A legal name is short, and a legal value is as long as its name allows.
use Rattle.std.proofs.Common.{ℕ, ◌≤◌, IsTrue, Bool, ◌&&◌, nat_le, List, length, arith}
use Rattle.std.specs.List.{list_all}
use Rattle.std.proofs.lemmas.Bool.Decides.{nat_tests}
use Rattle.std.specs.Str.{is_utf8}
use Rattle.init_base.specs.Value.{LegalValue, max_value_len}
use Rattle.init_base.specs.Name.{LegalName, is_name_byte, has_only_lone_dots}

short_test : (n : ℕ) (a b : Bool) → IsTrue (nat_le 1 n && nat_le n 255 && a && b) → n ≤ 255
short_test n a b h = grind (arith, nat_tests)

pub legal_short : (name : List ℕ) → LegalName name → length name ≤ 255
legal_short name legal = short_test (length name) (list_all is_name_byte name) (has_only_lone_dots name) legal

len_test : (n m : ℕ) (a : Bool) → IsTrue (nat_le n m && a) → n ≤ m
len_test n m a h = grind (arith, nat_tests)

-- a legal value is as long as its name allows
pub legal_len : (name value : List ℕ) → LegalValue name value → length value ≤ max_value_len name
legal_len name value legal = len_test (length value) (max_value_len name) (is_utf8 value) legal
