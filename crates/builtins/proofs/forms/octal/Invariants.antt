use Rattle.std.proofs.Common.{◌≡◌, ◌+◌, ◌-◌, ◌*◌, ◌<◌, ◌^◌, IsTrue, drop}
use Rattle.std.specs.List.{fold, list_all}
use Rattle.init_machine.specs.Tasks.{is_octal_digit, octal_of}
use Rattle.builtins.proofs.forms.octal.Given as goal

-- what is left decides, and so many digits give a number below that power of eight
abbrev pub invariant-loop-digit : goal.invariant-loop-digit
invariant-loop-digit l = record {
  left_decides : fold (λ number b. number * 8 + (b - 48)) l.number (drop l.digit-index l.digits) ≡ octal_of l.digits;
  left_digits : IsTrue (list_all is_octal_digit (drop l.digit-index l.digits));
  low : l.number < 8 ^ l.digit-index;
}
