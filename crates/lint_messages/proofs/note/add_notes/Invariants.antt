use Rattle.std.proofs.Common.{◌≡◌}
use Rattle.lint_findings.specs.Findings.{diagnostics_of}
use Rattle.lint_messages.proofs.note.add_notes.Given as goal

-- no note is an error
abbrev pub invariant-loop-note : goal.invariant-loop-note
invariant-loop-note l = diagnostics_of l.findings ≡ diagnostics_of l.initial.findings
