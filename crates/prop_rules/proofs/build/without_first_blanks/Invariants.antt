use Rattle.std.proofs.Common.{◌≡◌, length}
use Rattle.prop_rules.specs.Build.{without_first_blanks as without_first_blanks_lem}
use Rattle.prop_rules.proofs.build.without_first_blanks.Given as goal

abbrev pub invariant-loop-rest : goal.invariant-loop-rest
invariant-loop-rest l = without_first_blanks_lem l.rest ≡ without_first_blanks_lem l.text

abbrev pub decreases-loop-rest : goal.decreases-loop-rest
decreases-loop-rest l = length l.rest
