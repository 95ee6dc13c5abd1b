use Rattle.std.proofs.Common.{◌≡◌, ◌++◌, length, List}
use Rattle.init_machine.specs.declared.config.Pair.{Pair}
use Rattle.prop_rules.specs.internal.Views.{Shows}
use Rattle.prop_rules.proofs.view.boot_view.Given as goal

abbrev pub invariant-loop-rest : goal.invariant-loop-rest
invariant-loop-rest l = record {
  taken : List Pair;
  parted : l.rest ++ taken ≡ l.pairs;
  shows : Shows l.decided l.view.props taken;
}

abbrev pub decreases-loop-rest : goal.decreases-loop-rest
decreases-loop-rest l = length l.rest
