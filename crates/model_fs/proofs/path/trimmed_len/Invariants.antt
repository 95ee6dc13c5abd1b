use Rattle.std.proofs.Common.{◌≡◌, ◌≤◌, length, take}
use Rattle.init_machine.specs.FileTree.{parts_of}
use Rattle.model_fs.proofs.path.trimmed_len.Given as goal

abbrev pub invariant-loop-len : goal.invariant-loop-len
invariant-loop-len l = record {
  bound : l.len ≤ length l.text;
  same : parts_of (take l.len l.text) ≡ parts_of l.text;
}

abbrev pub decreases-loop-len : goal.decreases-loop-len
decreases-loop-len l = l.len
