-- Bytes of parts of paths.
use Rattle.std.specs.Prelude.{ℕ, Bool, not, ◌==◌}

abbrev pub is_no_slash : ℕ → Bool
is_no_slash byte = not (byte == 47)
