-- What a page is, by its form.
use Rattle.std.specs.Prelude.{◌≡◌, ℕ, List}
use Rattle.lint_findings.specs.declared.finding.Finding.{Finding}
use Rattle.lint_findings.specs.Gcc.{report_text}
use Rattle.lint_findings.specs.Json.{report_json}
use Rattle.lint_findings.specs.Sarif.{log_text}
use Rattle.lint_findings.specs.declared.style.Format.{Format}
use Rattle.lint_findings.specs.declared.style.Format.TheVariants as format
use Rattle.lint_findings.specs.declared.style.Style.{Style}

abbrev pub IsPageIn : Format → Style → List Finding → ℕ → List ℕ → Type 0
IsPageIn format.Gcc style findings files text = text ≡ report_text style findings files
IsPageIn format.Json style findings files text = text ≡ report_json style findings files
IsPageIn format.Sarif style findings files text = text ≡ log_text style findings

-- the text of a report on so many files
abbrev pub IsPage : Style → List Finding → ℕ → List ℕ → Type 0
IsPage style findings files text = IsPageIn style.format style findings files text
