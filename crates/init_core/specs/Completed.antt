-- When boot is completed, by the value of `sys.boot_completed`.
use Rattle.std.specs.Prelude.{ℕ, Bool, ◌||◌, List, codes}
use Rattle.std.specs.Str.{bytes_eq}

abbrev pub is_completed : List ℕ → Bool
is_completed value = bytes_eq value (codes "1") || bytes_eq value (codes "true")
