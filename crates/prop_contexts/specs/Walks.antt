-- What a walk over a name tells of it.
use Rattle.std.specs.Prelude.{◌≡◌, ◌<◌, ◌≤◌, ℕ, List, [], None, false, fold, length, take}
use Rattle.init_machine.specs.Policy.{ContextLine}
use Rattle.prop_contexts.specs.Digests.{digest_of, with_byte}
use Rattle.prop_contexts.specs.NameLines.{has_name}
use Rattle.prop_contexts.specs.declared.names.Front.{Front}

-- the digest is that of the bytes before the rest; no line is for a longer front of the name; where the front has no place, none is
-- for any
pub record IsWalked (lines : List ContextLine) (name : List ℕ) (digest : ℕ) (rest : List ℕ) (front : Front) : Type 0 where
  pub digest_is : fold with_byte digest rest ≡ digest_of name
  pub within : front.len ≤ length name
  pub longer : (n : ℕ) → front.len < n → n ≤ length name → has_name lines (take n name) ≡ false
  pub none : front.place ≡ None → (front.len ≡ 0) × (has_name lines [] ≡ false)
