use Rattle.std.proofs.Common.{◌≡◌, ◌≤◌, ◌-◌, true, length, take}
use Rattle.std.specs.List.{list_all}
use Rattle.model_fs.specs.internal.Paths.{is_no_slash}
use Rattle.model_fs.proofs.path.part_len.Given as goal

abbrev pub invariant-loop-len : goal.invariant-loop-len
invariant-loop-len l = record {
  bound : l.len ≤ length l.text;
  part : list_all is_no_slash (take l.len l.text) ≡ true;
}

abbrev pub decreases-loop-len : goal.decreases-loop-len
decreases-loop-len l = length l.text - l.len
