use Rattle.std.proofs.Common.{◌≡◌, ◌+◌, ◌++◌, ◌≤◌, length}
use Rattle.init_base.specs.Lines.{lines_of}
use Rattle.prop_rules.specs.Build.{build_faults, build_pairs}
use Rattle.prop_rules.proofs.build.build_props.Given as goal

abbrev pub invariant-loop-rest : goal.invariant-loop-rest
invariant-loop-rest l = record {
  pairs : l.props.pairs ++ build_pairs (lines_of l.rest) ≡ build_pairs (lines_of l.bytes);
  diagnostics : l.props.diagnostics ++ build_faults l.file l.number (lines_of l.rest) ≡ build_faults l.file 1 (lines_of l.bytes);
  number : l.number + length l.rest ≤ 1048577;
}

abbrev pub decreases-loop-rest : goal.decreases-loop-rest
decreases-loop-rest l = length l.rest
