use Rattle.std.proofs.Common.{◌≡◌, [], take, drop}
use Rattle.script_lang.specs.Ordering.{Seen, first_unfit_of_sets}
use Rattle.script_lang.specs.Script.{statements}
use Rattle.script_lang.proofs.order.first_unfit_of_sets.Given as goal

-- what is left decides
abbrev pub invariant-loop-said : goal.invariant-loop-said
invariant-loop-said l = record {
  seen : Seen l.order (statements (take l.said-index l.said));
  left_decides : first_unfit_of_sets (statements (take l.said-index l.said)) (drop l.said-index l.said) ≡ first_unfit_of_sets [] l.said;
}
