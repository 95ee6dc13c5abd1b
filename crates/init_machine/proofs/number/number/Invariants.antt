use Rattle.std.proofs.Common.{◌≡◌, ◌+◌, ◌-◌, ◌*◌, ◌<◌, ◌^◌, IsTrue, drop}
use Rattle.std.specs.List.{fold, list_all}
use Rattle.init_machine.specs.Typed.{is_digit, number_of}
use Rattle.init_machine.proofs.number.number.Given as goal

-- what is left decides, and so many digits give a number below that power of ten
abbrev pub invariant-loop-digit : goal.invariant-loop-digit
invariant-loop-digit l = record {
  left_decides : fold (λ number b. number * 10 + (b - 48)) l.number (drop l.digit-index l.digits) ≡ number_of l.digits;
  left_digits : IsTrue (list_all is_digit (drop l.digit-index l.digits));
  low : l.number < 10 ^ l.digit-index;
}
