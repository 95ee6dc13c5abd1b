-- Digests of texts: numbers that tell most texts apart. Only that one text has one digest is ever used.
use Rattle.std.specs.Prelude.{◌≡◌, ℕ, ◌+◌, ◌*◌, ◌%◌, ◌^◌, Bool, true, false, nat_eq, List, fold}
use Rattle.std.specs.List.{list_any, slice_index_or}
use Rattle.init_machine.specs.Policy.{ContextLine}
use Rattle.prop_contexts.specs.NameLines.{has_name}

-- the digest of a text with a byte more behind it
abbrev pub with_byte : ℕ → ℕ → ℕ
with_byte digest byte = ((digest * 1099511628211) % 2 ^ 64 + byte) % 2 ^ 64

abbrev pub digest_of : List ℕ → ℕ
digest_of text = fold with_byte 0 text

-- the digest of each line's name is there
abbrev pub HaveDigests : List ContextLine → List ℕ → Type 0
HaveDigests lines digests = (name : List ℕ) → has_name lines name ≡ true → list_any (nat_eq (digest_of name)) digests ≡ true

-- the last byte of each digest is marked
abbrev pub AreMarked : List ℕ → List Bool → Type 0
AreMarked digests marks = (digest : ℕ) → list_any (nat_eq digest) digests ≡ true → slice_index_or marks (digest % 256) false ≡ true
