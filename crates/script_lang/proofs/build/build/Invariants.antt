use Rattle.std.proofs.Common.{◌≡◌}
use Rattle.script_lang.specs.Building.{built_from, empty_script}
use Rattle.script_lang.proofs.Builds.{RestFits}
use Rattle.script_lang.proofs.build.build.Given as goal

-- what is left decides
abbrev pub invariant-loop-said : goal.invariant-loop-said
invariant-loop-said l = record {
  left_decides : built_from l.script l.said-iterator.rest.items ≡ built_from empty_script l.fn.said;
  rest_fits : RestFits l.script l.said-iterator.rest.items;
}
