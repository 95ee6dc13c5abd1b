use Rattle.std.proofs.Common.{◌≡◌, ◌≤◌, true, drop}
use Rattle.std.specs.Char.{is_ascii_digit}
use Rattle.std.specs.List.{list_all}
use Rattle.std.specs.Str.Parse.{digits_value, digits_value_after}
use Rattle.command_line.proofs.services.value_of.Given as goal

-- what is left decides
abbrev pub invariant-loop-digit : goal.invariant-loop-digit
invariant-loop-digit l = record {
  left_decides : digits_value_after 10 l.number (drop l.digit-index l.word) ≡ digits_value 10 l.word;
  left_digits : list_all is_ascii_digit (drop l.digit-index l.word) ≡ true;
  low : l.number ≤ 1000;
}
