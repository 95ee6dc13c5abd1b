use Rattle.std.proofs.Common.{◌≡◌, ◌++◌, drop}
use Rattle.std.specs.List.{flat_map}
use Rattle.lint_findings.specs.Uri.{uri_byte}
use Rattle.lint_findings.proofs.uri.put_path.Given as goal

-- what is left decides
abbrev pub invariant-loop-byte : goal.invariant-loop-byte
invariant-loop-byte l = l.uri.items ++ flat_map uri_byte (drop l.byte-index l.path) ≡ l.initial.uri.items ++ flat_map uri_byte l.path
