-- What bytes that are added change of a shape: nothing, unless it waits for them.
use Rattle.std.proofs.Common.{◌≡◌, ℕ, ◌+◌, ◌≤◌, Bool, true, false, cond, nat_lt, ◌==◌, inl, inr, arith}
use Rattle.std.proofs.lemmas.Bool.{cases_lt, lt-ltb, le-ltb}
use Rattle.std.proofs.lemmas.Bool.Decides.{nat_tests}
use Rattle.wire_format.specs.Format.{first, second}
use Rattle.std.proofs.lemmas.Grind.{common_steps}
use Rattle.wire_format.specs.Wire.{first_shape, second_shape, value_shape, shape_by, waits}
use Rattle.wire_format.specs.declared.shape.Shape.{Shape}
use Rattle.wire_format.specs.declared.shape.Shape.TheVariants as shape

value_stays : (have more name value other : ℕ) → (12 + name ≤ have → other ≡ value) → waits (value_shape have name value) ≡ false
    → value_shape (have + more) name other ≡ value_shape have name value
value_stays have more name value other same told = grind (arith, nat_tests, common_steps)

second_stays : (have more name value other_name other : ℕ) → (8 ≤ have → other_name ≡ name) → (8 ≤ have → 12 + name ≤ have → other ≡ value)
    → waits (second_shape have name value) ≡ false → second_shape (have + more) other_name other ≡ second_shape have name value
second_stays have more name value other_name other same_name same told =
    let rest : (12 + name ≤ have → other ≡ value) → waits (value_shape have name value) ≡ false → value_shape (have + more) name other ≡ value_shape have name value
    = value_stays have more name value other
    in grind (arith, nat_tests, common_steps, rest)

-- what words beyond the bytes say doesn't matter
pub shape_stays : (have more command name value other_command other_name other : ℕ) → (4 ≤ have → other_command ≡ command)
    → (8 ≤ have → other_name ≡ name) → (8 ≤ have → 12 + name ≤ have → other ≡ value) → waits (shape_by have command name value) ≡ false
    → shape_by (have + more) other_command other_name other ≡ shape_by have command name value
shape_stays have more command name value other_command other_name other same_command same_name same told =
    let rest : waits (second_shape have name value) ≡ false → second_shape (have + more) other_name other ≡ second_shape have name value
    = second_stays have more name value other_name other same_name same
    in grind (arith, nat_tests, common_steps, rest)

-- ---- what was wanted is not more than a whole message has

-- the bytes of a whole message, or as many as any has
abbrev pub size_of : Shape → ℕ
size_of shape.First = 128
size_of (shape.Second name value) = 12 + name + value
size_of (shape.Wants len) = 9228
size_of (shape.BadCommand word) = 9228
size_of (shape.BadLength len) = 9228

-- how many bytes are waited for
abbrev pub wanted : Shape → ℕ
wanted shape.First = 0
wanted (shape.Second name value) = 0
wanted (shape.Wants len) = len
wanted (shape.BadCommand word) = 0
wanted (shape.BadLength len) = 0

value_takes : (have more name value other : ℕ) → name ≤ 1024 → (12 + name ≤ have → other ≡ value)
    → wanted (value_shape have name value) ≤ size_of (value_shape (have + more) name other)
value_takes have more name value other small same = grind (arith, nat_tests, common_steps)

second_takes : (have more name value other_name other : ℕ) → (8 ≤ have → other_name ≡ name) → (8 ≤ have → 12 + name ≤ have → other ≡ value)
    → wanted (second_shape have name value) ≤ size_of (second_shape (have + more) other_name other)
second_takes have more name value other_name other same_name same =
    let rest : name ≤ 1024 → (12 + name ≤ have → other ≡ value) → wanted (value_shape have name value) ≤ size_of (value_shape (have + more) name other)
    = value_takes have more name value other
    in grind (arith, nat_tests, common_steps, rest)

first_takes : (have more : ℕ) → wanted (first_shape have) ≤ size_of (first_shape (have + more))
first_takes have more = grind (arith, nat_tests, common_steps)

least_size : (s : Shape) → 4 ≤ size_of s
least_size shape.First = omega arith
least_size (shape.Second name value) = omega arith
least_size (shape.Wants len) = omega arith
least_size (shape.BadCommand word) = omega arith
least_size (shape.BadLength len) = omega arith

chosen : (b d : Bool) (p q r grown_p grown_q grown_r : Shape) → wanted p ≤ size_of grown_p → wanted q ≤ size_of grown_q → wanted r ≤ size_of grown_r
    → wanted (cond b p (cond d q r)) ≤ size_of (cond b grown_p (cond d grown_q grown_r))
chosen true d p q r grown_p grown_q grown_r of_p of_q of_r = of_p
chosen false true p q r grown_p grown_q grown_r of_p of_q of_r = of_q
chosen false false p q r grown_p grown_q grown_r of_p of_q of_r = of_r

pub shape_takes : (have more command name value other_command other_name other : ℕ) → (4 ≤ have → other_command ≡ command)
    → (8 ≤ have → other_name ≡ name) → (8 ≤ have → 12 + name ≤ have → other ≡ value)
    → wanted (shape_by have command name value) ≤ size_of (shape_by (have + more) other_command other_name other)
shape_takes have more command name value other_command other_name other same_command same_name same = elim (cases_lt have 4) [
  | inl short ↦ (let test : nat_lt have 4 ≡ true = lt-ltb have 4 short in rw test (least_size (shape_by (have + more) other_command other_name other)))
  | inr long ↦
      (let test : nat_lt have 4 ≡ false = le-ltb have 4 long in
      let grown : nat_lt (have + more) 4 ≡ false = le-ltb (have + more) 4 (omega arith) in
      let none : wanted (shape.BadCommand command) ≤ size_of (shape.BadCommand command) = omega arith in
      rw (test, grown, same_command long) (chosen (command == first) (command == second)
      (first_shape have) (second_shape have name value) (shape.BadCommand command)
      (first_shape (have + more)) (second_shape (have + more) other_name other) (shape.BadCommand command)
      (first_takes have more) (second_takes have more name value other_name other same_name same) none))
]
