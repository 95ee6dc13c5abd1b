use Rattle.std.proofs.Common.{◌≡◌, ◌++◌, drop}
use Rattle.lint_findings.specs.Gcc.{shown}
use Rattle.lint_findings.proofs.text.put_shown.Given as goal

-- what is left decides
abbrev pub invariant-loop-byte : goal.invariant-loop-byte
invariant-loop-byte l = l.page.items ++ shown (drop l.byte-index l.bytes) ≡ l.initial.page.items ++ shown l.bytes
