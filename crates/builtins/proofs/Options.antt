-- Two arguments, of which the first may be an option.
use Rattle.std.proofs.Common.{◌≡◌, ℕ, ◌≤◌, Bool, true, if◌then◌else◌, List, [], ◌∷◌, length, get_or, refl, arith}
use Rattle.std.specs.Str.{bytes_eq}
use Rattle.init_machine.specs.Tasks.{optional}
use Rattle.init_machine.specs.declared.task.Task.{Task}
use Rattle.init_machine.specs.declared.task.Task.TheVariants as task

pub two_arguments : (option : List ℕ) (asked : Bool → List ℕ → Task) (args : List (List ℕ)) (given name : List ℕ)
    → 2 ≤ length args → given ≡ get_or args 0 given → name ≡ get_or args 1 name
    → optional option asked args ≡ (if bytes_eq given option then asked true name else task.BadArgument 1)
two_arguments option asked [] given name some first second = absurd (omega arith)
two_arguments option asked (one ∷ []) given name some first second = absurd (omega arith)
two_arguments option asked (one ∷ two ∷ rest) given name some first second =
    let f : given ≡ one = first in
    let g : name ≡ two = second in
    rw (f, g) refl
