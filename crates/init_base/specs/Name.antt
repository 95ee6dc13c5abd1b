-- Which texts name a property (AOSP, system properties): 1 to 255 bytes out of ASCII letters, digits and . - _ @ :,
-- with no dot (46) first, last or beside another.
use Rattle.std.specs.Prelude.{ℕ, Bool, true, IsTrue, ◌&&◌, ◌||◌, not, ◌==◌, nat_le, nat_eq, codes, List, [], ◌∷◌, length, if◌then◌else◌}
use Rattle.std.specs.List.{list_all, starts_with}

abbrev pub is_name_byte : ℕ → Bool
is_name_byte b =
    (nat_le 97 b && nat_le b 122) || (nat_le 65 b && nat_le b 90) || (nat_le 48 b && nat_le b 57)
    || b == 46 || b == 45 || b == 95 || b == 64 || b == 58

-- each dot is followed by a byte, which is no dot
abbrev pub dots_are_followed : List ℕ → Bool
dots_are_followed [] = true
dots_are_followed (b ∷ []) = not (b == 46)
dots_are_followed (b ∷ c ∷ rest) = not (b == 46 && c == 46) && dots_are_followed (c ∷ rest)

-- no dot is first, last or beside another, and the name isn't empty: also a dot put before the name is followed
abbrev pub has_only_lone_dots : List ℕ → Bool
has_only_lone_dots name = dots_are_followed (46 ∷ name)

abbrev pub is_legal_name : List ℕ → Bool
is_legal_name name =
    nat_le 1 (length name) && nat_le (length name) 255 && list_all is_name_byte name && has_only_lone_dots name

abbrev pub LegalName : List ℕ → Type 0
LegalName name = IsTrue (is_legal_name name)

-- the kind of a byte: 1 for a dot, 0 for another byte of names, 2 for one that no name has
abbrev pub kind_of_byte : ℕ → ℕ
kind_of_byte b = if b == 46 then 1 else (if is_name_byte b then 0 else 2)

-- the name begins with `ro.`: its property is set once
abbrev pub is_read_only : List ℕ → Bool
is_read_only name = starts_with nat_eq name (codes "ro.")
