-- The words that a set needs.
use Rattle.std.specs.Prelude.{ℕ, zero, suc, Option, Some, None}

-- none where it needs no words
abbrev pub some_need : ℕ → Option ℕ
some_need zero = None
some_need (suc need) = Some (suc need)
