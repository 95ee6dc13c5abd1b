use Rattle.std.proofs.Common.{◌≡◌, ◌≤◌, ◌-◌, length, drop}
use Rattle.init_machine.specs.FileTree.{parts_of}
use Rattle.model_fs.proofs.path.first_start.Given as goal

abbrev pub invariant-loop-start : goal.invariant-loop-start
invariant-loop-start l = record {
  bound : l.start ≤ length l.text;
  same : parts_of (drop l.start l.text) ≡ parts_of l.text;
}

abbrev pub decreases-loop-start : goal.decreases-loop-start
decreases-loop-start l = length l.text - l.start
