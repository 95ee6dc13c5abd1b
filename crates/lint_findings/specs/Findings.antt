-- What findings say.
use Rattle.std.specs.Prelude.{Bool, true, false, List, [], ◌∷◌, ℕ, filter}
use Rattle.std.specs.List.{flat_map}
use Rattle.init_machine.specs.declared.diagnostic.Diagnostic.{Diagnostic}
use Rattle.lint_findings.specs.Promoted.{severity_in}
use Rattle.lint_findings.specs.declared.finding.About.{About}
use Rattle.lint_findings.specs.declared.finding.About.TheVariants as about
use Rattle.lint_findings.specs.declared.finding.Finding.{Finding}
use Rattle.lint_findings.specs.declared.promoted.Promoted.{Promoted}
use Rattle.lint_findings.specs.declared.promoted.Severity.{Severity}
use Rattle.lint_findings.specs.declared.promoted.Severity.TheVariants as severity

-- the diagnostic of an error
abbrev pub diagnostics_at : List ℕ → ℕ → About → List Diagnostic
diagnostics_at file line (about.Error kind) = record { file = file; line = line; kind = kind } ∷ []
diagnostics_at file line (about.Warning kind) = []
diagnostics_at file line (about.Hint kind) = []

abbrev pub diagnostics_in : Finding → List Diagnostic
diagnostics_in finding = diagnostics_at finding.file finding.line finding.about

-- the documented diagnostics that findings tell
abbrev pub diagnostics_of : List Finding → List Diagnostic
diagnostics_of findings = flat_map diagnostics_in findings

-- ---- by their severity

abbrev pub is_severe : Severity → Bool
is_severe severity.Error = true
is_severe severity.Warning = false
is_severe severity.Hint = false

abbrev pub is_middling : Severity → Bool
is_middling severity.Error = false
is_middling severity.Warning = true
is_middling severity.Hint = false

abbrev pub is_error : Promoted → Finding → Bool
is_error promoted finding = is_severe (severity_in promoted finding.about)

abbrev pub is_warning : Promoted → Finding → Bool
is_warning promoted finding = is_middling (severity_in promoted finding.about)

-- the findings that are errors, by themselves or promoted
abbrev pub errors_in : Promoted → List Finding → List Finding
errors_in promoted findings = filter (is_error promoted) findings

-- the findings that are warnings
abbrev pub warnings_in : Promoted → List Finding → List Finding
warnings_in promoted findings = filter (is_warning promoted) findings
