-- What a store of properties means: a finite map from names to a value and the number of the set that gave it, kept
-- as the list of its entries in the order of their first set; and what a set does to it (AOSP, system properties).
use Rattle.std.specs.Prelude.{◌≡◌, ℕ, ◌+◌, Bool, true, false, ◌&&◌, ◌==◌, nat_lt, List, [], ◌∷◌, ◌++◌, length, take, Option, Some, None, if◌then◌else◌}
use Rattle.std.specs.Str.{bytes_eq}
use Rattle.init_base.specs.Name.{is_read_only}
use Rattle.init_machine.specs.Words.{Sized, used_of, need_of}
use Rattle.init_machine.specs.declared.store.Full.{Full}
use Rattle.init_machine.specs.declared.store.Full.TheVariants.{Words, Numbers}

-- a property: its name, its value, and the number of the set that gave it
pub record Property : Type 0 where
  pub name : List ℕ
  pub value : List ℕ
  pub number : ℕ

-- the map, the number of accepted sets, and the capacity in words
pub record Props : Type 0 where
  pub held : List Property
  pub count : ℕ
  pub capacity : ℕ

abbrev pub lookup_in : List Property → List ℕ → Option Property
lookup_in [] name = None
lookup_in (h ∷ rest) name = if bytes_eq h.name name then Some h else lookup_in rest name

abbrev pub value_of : Option Property → Option (List ℕ)
value_of None = None
value_of (Some h) = Some h.value

-- the value of a property, none where it is absent
abbrev pub value_in : Props → List ℕ → Option (List ℕ)
value_in p name = value_of (lookup_in p.held name)

-- the map with this entry in the place of the name's old one, or at the end
abbrev pub put_in : List Property → Property → List Property
put_in [] new = new ∷ []
put_in (h ∷ rest) new = if bytes_eq h.name new.name then new ∷ rest else h ∷ put_in rest new

abbrev pub names_of : List Property → List (List ℕ)
names_of [] = []
names_of (h ∷ rest) = h.name ∷ names_of rest

-- the names with the lengths of their values
abbrev pub sizes_of : List Property → List Sized
sizes_of [] = []
sizes_of (h ∷ rest) = (h.name, length h.value) ∷ sizes_of rest

-- the number of the set that gave the value, none where the property is absent
abbrev pub number_of : Option Property → Option ℕ
number_of None = None
number_of (Some h) = Some h.number

abbrev pub is_absent : Option Property → Bool
is_absent None = true
is_absent (Some h) = false

-- an accepted set: the next number, and this name's entry alone
abbrev pub with_set : Props → List ℕ → List ℕ → Props
with_set p name value = record {
  held = put_in p.held (record { name = name; value = value; number = p.count + 1 });
  count = p.count + 1;
  capacity = p.capacity;
}

-- the words in use
abbrev pub used_in : Props → ℕ
used_in p = used_of (sizes_of p.held)

-- the largest number of a set, 2 ^ 55 - 1, since a serial has 55 bits for it
abbrev pub last_number : ℕ
last_number = 36028797018963967

-- why a set of the name by a value of so many bytes has no room, none where it has: the name is absent, and the words in use
-- and those that it needs pass the capacity; else the count is the last number
abbrev pub full_for : Props → List ℕ → ℕ → Option Full
full_for p name len =
    if is_absent (lookup_in p.held name) && nat_lt p.capacity (used_in p + need_of (sizes_of p.held) name len)
    then Some (Words (used_in p) (need_of (sizes_of p.held) name len))
    else (if p.count == last_number then Some (Numbers p.count) else None)

-- a name that begins with `ro.` is set once
abbrev pub MayBeSet : Props → List ℕ → Type 0
MayBeSet p name = is_absent (lookup_in p.held name) ≡ false → is_read_only name ≡ false

-- none for an absent name; else the length of the value and the number of its set, and the value stands at the front
-- of the buffer
abbrev pub IsLookUp : Option Property → Option (ℕ × ℕ) → List ℕ → Type 0
IsLookUp None answer buffer = answer ≡ None
IsLookUp (Some h) answer buffer = (answer ≡ Some (length h.value, h.number)) × (take (length h.value) buffer ≡ h.value)

-- the list of the sets, where it is told, with these at its end
abbrev pub more_sets : Option (List (List ℕ × List ℕ)) → List (List ℕ × List ℕ) → Option (List (List ℕ × List ℕ))
more_sets None more = None
more_sets (Some sets) more = Some (sets ++ more)
