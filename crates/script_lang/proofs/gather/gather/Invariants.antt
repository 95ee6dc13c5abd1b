use Rattle.std.proofs.Common.{◌≡◌, ◌≤◌, ◌+◌, ◌*◌, ◌^◌, length}
use Rattle.script_lang.specs.Gathering.{gathered_from, nothing_gathered}
use Rattle.script_lang.specs.Lines.{lines_of}
use Rattle.script_lang.proofs.gather.gather.Given as goal

-- what is left decides, and each line took a byte
abbrev pub invariant-loop-rest : goal.invariant-loop-rest
invariant-loop-rest l = record {
  left_decides : gathered_from l.gathered (lines_of l.rest) ≡ gathered_from nothing_gathered (lines_of l.bytes);
  counted : l.gathered.lines + length l.rest ≤ length l.bytes;
  summed : l.gathered.steps ≤ 2 ^ 32 * l.gathered.lines;
}

abbrev pub decreases-loop-rest : goal.decreases-loop-rest
decreases-loop-rest l = length l.rest
