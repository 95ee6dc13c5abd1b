-- The words that AOSP's init has and this machine doesn't model. They stand in the tables of src/not_modelled.rt, which the code
-- and these definitions share.
use Rattle.std.specs.Prelude.{ℕ, Bool, List}
use Rattle.std.specs.List.{list_any}
use Rattle.std.specs.Str.{bytes_eq}
use Rattle.lint_sources.specs.declared.not_modelled.TheConstants.{COMMANDS, OPTIONS}

abbrev pub is_command_not_modelled : List ℕ → Bool
is_command_not_modelled word = list_any (λ known. bytes_eq known.now word) COMMANDS

abbrev pub is_option_not_modelled : List ℕ → Bool
is_option_not_modelled word = list_any (λ known. bytes_eq known.now word) OPTIONS
