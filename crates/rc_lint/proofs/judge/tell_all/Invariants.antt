use Rattle.std.proofs.Common.{◌≡◌, ◌++◌, drop}
use Rattle.lint_sources.specs.Sources.{AreSourcesOf}
use Rattle.lint_sources.specs.Excused.{errors_among}
use Rattle.lint_findings.specs.Findings.{diagnostics_of}
use Rattle.lint_sources.specs.Told.{IsTold, Told}
use Rattle.rc_lint.proofs.judge.tell_all.Given as goal

-- what is left decides, the lines that were read are those of the tree, and no call failed
abbrev pub invariant-loop-diagnostic : goal.invariant-loop-diagnostic
invariant-loop-diagnostic g l = record {
  told : (told : Told) → IsTold (g.F.Files.tree l.initial.files) told →
      diagnostics_of l.findings ++ errors_among l.request.allowed told (drop l.diagnostic-index l.diagnostics)
      ≡ errors_among l.request.allowed told l.diagnostics;
  sources : (told : Told) → IsTold (g.F.Files.tree l.initial.files) told → AreSourcesOf l.request.allowed told l.sources.sources;
  tree : g.F.Files.tree l.files ≡ g.F.Files.tree l.initial.files;
  faults : g.F.Files.fault_count l.files ≡ g.F.Files.fault_count l.initial.files;
}
