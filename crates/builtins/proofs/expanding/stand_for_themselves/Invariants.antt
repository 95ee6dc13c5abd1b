use Rattle.std.proofs.Common.{◌≡◌, ℕ, List, Option, Ok, drop}
use Rattle.init_machine.specs.Effect.{expand_all}
use Rattle.builtins.proofs.expanding.stand_for_themselves.Given as goal

-- what is left decides
abbrev pub invariant-loop-arg : goal.invariant-loop-arg
invariant-loop-arg l =
    (look_up : List ℕ → Option (List ℕ)) → expand_all look_up (drop l.arg-index l.args) ≡ Ok (drop l.arg-index l.args) → expand_all look_up l.args ≡ Ok l.args
